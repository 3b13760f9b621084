-- Each turn takes a digit or a comma from what remains.
use Rattle.parsing.proofs.Turns.{Going}
use Rattle.parsing.proofs.numbers.numbers.Given as goal

abbrev pub invariant-loop-at : goal.invariant-loop-at
invariant-loop-at l = Going l.many l.bound l.text l.from l.at l.seen l.set l.n
