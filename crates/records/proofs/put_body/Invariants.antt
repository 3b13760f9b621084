-- Each turn stores one entry, and what is stored with what remains is the whole of the entries.
use mathlib.Core.Path.{◌≡◌}
use Prim.Native.Nat.{◌*◌, ◌+◌, ◌-◌, ◌≤◌}
use lib.ListN.{drop, length}
use lib.Seq.{sets}
use Rattle.codec.specs.Codec.{entries_bytes}
use Rattle.records.proofs.put_body.Given as goal

abbrev pub invariant-loop-i : goal.invariant-loop-i
invariant-loop-i l =
    (l.i ≤ 8)
    × ((length l.out ≡ length l.initial.out)
    × ((100 ≤ length l.initial.out) × (sets l.out (4 + 12 * l.i) (entries_bytes (drop l.i l.job.entries)) ≡ sets l.initial.out 4 (entries_bytes l.job.entries))))

abbrev pub decreases-loop-i : goal.decreases-loop-i
decreases-loop-i l = 8 - l.i
