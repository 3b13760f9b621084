-- Each turn puts the characters once more.
use Rattle.words.proofs.Copies.{Repeating}
use Rattle.words.proofs.put_times.Given as goal

abbrev pub invariant-loop-i : goal.invariant-loop-i
invariant-loop-i l = Repeating l.initial.out l.s l.at l.n l.i l.end l.out
