-- Each turn writes a vault that the set has.
use Rattle.printing.proofs.Shown.{Listing}
use Rattle.printing.proofs.items.put_set.Given as goal

abbrev pub invariant-loop-i : goal.invariant-loop-i
invariant-loop-i l = Listing l.set l.initial.out l.at l.i l.end l.first l.out
