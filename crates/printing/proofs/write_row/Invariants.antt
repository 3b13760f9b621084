-- Each turn writes an item.
use Rattle.printing.proofs.Written.{Writing}
use Rattle.printing.proofs.write_row.Given as goal

abbrev pub invariant-loop-c : goal.invariant-loop-c
invariant-loop-c l = Writing l.row l.step l.initial.out l.start l.c-index l.at l.end l.out
