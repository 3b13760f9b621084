-- The loop's head holds the tables of the entries so far.
use Prim.Native.Nat.{◌*◌, ◌+◌, ◌-◌, ◌≤◌}
use Rattle.index.specs.Entering.{Entries}
use Rattle.index.specs.Places.{slot_job}
use Rattle.indexing.proofs.enter_entries.Given as goal

abbrev pub invariant-loop-e : goal.invariant-loop-e
invariant-loop-e l = (l.e ≤ 8) × Entries (slot_job l.version l.journal) (8 * l.n + l.e) l.numbers l.sets

abbrev pub decreases-loop-e : goal.decreases-loop-e
decreases-loop-e l = 8 - l.e
