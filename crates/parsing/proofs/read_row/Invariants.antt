-- Each turn reads an item of the row and puts its bytes.
use Rattle.parsing.proofs.Rows.{Reading}
use Rattle.parsing.proofs.read_row.Given as goal

abbrev pub invariant-loop-c : goal.invariant-loop-c
invariant-loop-c l = Reading l.row l.text l.from l.start l.initial.out l.c-index l.at l.end l.out
