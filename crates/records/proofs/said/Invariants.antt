-- Each turn stores one entry, and what is stored with what remains is the whole list of entries.
use mathlib.Core.Path.{◌≡◌}
use Prim.Native.Nat.{◌*◌, ◌+◌, ◌-◌, ◌≤◌}
use lib.ListN.{length}
use lib.Seq.{sets}
use Rattle.codec.specs.Codec.{entries_at}
use Rattle.records.proofs.said.Given as goal

abbrev pub invariant-loop-i : goal.invariant-loop-i
invariant-loop-i l = (l.i ≤ 8) × ((length l.entries ≡ 8) × (sets l.entries l.i (entries_at l.bytes (4 + 12 * l.i) (8 - l.i)) ≡ entries_at l.bytes 4 8))

abbrev pub decreases-loop-i : goal.decreases-loop-i
decreases-loop-i l = 8 - l.i
