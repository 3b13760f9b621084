-- The loop's invariant is the walk along the chain of the sum, and the first equal found so far.
use Rattle.index.proofs.Files.{Seeking}
use Rattle.index.proofs.records.find.Given as goal

abbrev pub invariant-loop-x : goal.invariant-loop-x
invariant-loop-x l = Seeking l.version l.journal l.bytes l.n l.x l.found

abbrev pub decreases-loop-x : goal.decreases-loop-x
decreases-loop-x l = l.x
