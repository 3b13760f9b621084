-- Each turn looks at an item.
use Rattle.printing.proofs.Written.{Fitting}
use Rattle.printing.proofs.fits.Given as goal

abbrev pub invariant-loop-c : goal.invariant-loop-c
invariant-loop-c l = Fitting l.row l.step l.c-index l.at
