-- The loop's head holds the index of the records so far.
use Prim.Native.Nat.{◌-◌, ◌≤◌}
use Rattle.index.specs.Index.{Indexed}
use Rattle.indexing.proofs.build.Given as goal

abbrev pub invariant-loop-k : goal.invariant-loop-k
invariant-loop-k l = (l.k ≤ l.n) × Indexed l.version l.journal l.k l.numbers l.sets l.records

abbrev pub decreases-loop-k : goal.decreases-loop-k
decreases-loop-k l = l.n - l.k
