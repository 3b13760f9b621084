-- The loop's invariant is the walk along the bucket's chain, and a place seen on it that has the label.
use Rattle.index.proofs.Seeks.{Look}
use Rattle.index.specs.Places.{slot_job}
use Rattle.index.proofs.seeking.numbers_of.Given as goal

abbrev pub invariant-loop-x : goal.invariant-loop-x
invariant-loop-x l = Look (slot_job l.version l.journal) l.label l.frames l.m l.x l.seen

abbrev pub decreases-loop-x : goal.decreases-loop-x
decreases-loop-x l = l.x
