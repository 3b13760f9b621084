-- What is written, with what remains to be written, is always all the steps.
use mathlib.Core.Path.{◌≡◌}
use Prim.Native.Nat.{◌*◌, ◌+◌, ◌-◌, ◌≤◌}
use lib.ListN.{length}
use Rattle.load.proofs.Writes.{Rest}
use Rattle.load.specs.Loads.{steps_bytes}
use Rattle.load_writer.proofs.put_steps.Given as goal

abbrev pub invariant-loop-i : goal.invariant-loop-i
invariant-loop-i l =
    (l.i ≤ 200) × ((length l.out ≡ length l.initial.out) × ((l.at ≤ 9 + 101 * l.i) × Rest l.initial.out (steps_bytes l.plan 200 0 l.state) l.out l.at (steps_bytes l.plan (200 - l.i) l.i l.now)))

abbrev pub decreases-loop-i : goal.decreases-loop-i
decreases-loop-i l = 200 - l.i
