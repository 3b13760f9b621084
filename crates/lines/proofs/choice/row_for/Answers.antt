-- Each turn looks at the next row of the table, which stands in the constants as it is defined.
use Rattle.lines.proofs.Choices.{look_found, look_next, lookups}
use Rattle.rows.specs.Table.{row, table}
use Rattle.words.proofs.Rows.{found_in}
use Rattle.words.specs.Rows.{part, rows_in}
use mathlib.Core.Path.{refl}
use borrow.Author.Rules.{rules}
use Rattle.lines.proofs.choice.row_for.Goals as goal

ruleset by = (lookups, rules)

pub loop-k-init : goal.loop-k-init
loop-k-init c = search by

pub returns-then-begins : goal.returns-then-begins
unfolding part rows_in row
returns-then-begins c =
    look_found c.loop-k.invariant _ _ c.loop-k-test.true (found_in table _ _ _ c.row_of.ensures refl).is c.begins.ensures c.if-begins.true

pub loop-k-preserved : goal.loop-k-preserved
unfolding part rows_in row
loop-k-preserved c =
    look_next c.loop-k.invariant _ _ c.loop-k-test.true (found_in table _ _ _ c.row_of.ensures refl).is c.begins.ensures c.if-begins.false

pub returns : goal.returns
returns c = search by
