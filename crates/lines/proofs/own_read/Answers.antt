-- The row is the table's, and has room.
use mathlib.Core.Path.{refl}
use Rattle.rows.specs.Table.{row, table}
use Rattle.words.proofs.Rows.{found_in}
use Rattle.words.specs.Rows.{part, rows_in}
use native.Mathlib.Omega.{arith}
use borrow.Author.Rules.{rules}
use Rattle.lines.proofs.own_read.Goals as goal

pub read_row-requires : goal.read_row-requires
unfolding part rows_in
read_row-requires c = (search rules, omega (arith, (found_in table _ _ _ c.row_of.ensures refl).short))

pub returns : goal.returns
unfolding part rows_in row
returns c =
    let read = c in
    rw (found_in table _ _ _ read.row_of.ensures refl).is at read.read_row.ensures
