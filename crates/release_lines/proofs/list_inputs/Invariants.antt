-- The entries before e are listed; there is room, since each takes a line at most.
use mathlib.Core.Path.{◌≡◌}
use Prim.Native.Nat.{◌*◌, ◌+◌, ◌-◌, ◌<◌, ◌≤◌}
use lib.ListN.{length}
use Rattle.conflicts.specs.Tapes.{used_from}
use Rattle.release_lines.specs.Tapes.{Listed, longest_tape, of_job}
use Rattle.release_lines.proofs.list_inputs.Given as goal

abbrev pub invariant-loop-e : goal.invariant-loop-e
invariant-loop-e l =
    (l.e ≤ 4)
    × (Listed l.initial.out l.initial.now (of_job l.number (used_from l.job 0 l.e)) l.out l.now
    × ((length l.out ≡ length l.initial.out) × ((l.number < 10000) × ((l.initial.now.count < 999000) × (l.initial.now.at + 4 * longest_tape ≤ length l.initial.out)))))

abbrev pub decreases-loop-e : goal.decreases-loop-e
decreases-loop-e l = 4 - l.e
