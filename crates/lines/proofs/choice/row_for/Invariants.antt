-- Each turn looks at the next row of the table, which stands in the constants as it is defined.
use Rattle.lines.proofs.Choices.{Looking}
use lib.ListN.{drop}
use Rattle.lines.proofs.choice.row_for.Given as goal

abbrev pub invariant-loop-k : goal.invariant-loop-k
invariant-loop-k l = Looking (drop l.at l.text) l.k
