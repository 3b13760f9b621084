-- Each turn reads an item of the row and puts its bytes.
use Rattle.parsing.proofs.Rows.{reading}
use borrow.Author.Rules.{rules}
use Rattle.parsing.proofs.read_row.Goals as goal

ruleset by = (reading, rules)

pub returns-then-t-ne0 : goal.returns-then-t-ne0
returns-then-t-ne0 c = search by

pub loop-c-preserved : goal.loop-c-preserved
loop-c-preserved c = search by

pub returns : goal.returns
returns c = search by
