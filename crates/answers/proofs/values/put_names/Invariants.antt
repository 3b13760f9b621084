-- What is written, with the numbers that remain, is the whole.
use Rattle.answers.proofs.Names.{Naming}
use Rattle.answers.proofs.values.put_names.Given as goal

abbrev pub invariant-loop-i : goal.invariant-loop-i
invariant-loop-i l = Naming l.set l.initial.out l.at l.i l.end l.first l.out
