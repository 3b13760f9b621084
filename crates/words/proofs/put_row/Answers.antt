-- The parts between the starts are the rows of the table.
use mathlib.Core.Path.{refl}
use Rattle.rows.specs.Table.{row, table}
use Rattle.words.proofs.Rows.{found_in}
use Rattle.words.specs.Rows.{part, rows_in}
use native.Mathlib.Omega.{arith}
use Rattle.words.proofs.put_row.Goals as goal

pub put-requires : goal.put-requires
unfolding part rows_in
put-requires c = omega (arith, (found_in table _ _ _ c.row_of.ensures refl).short)

pub returns : goal.returns
unfolding part rows_in row
returns c =
    let put = c in
    let f = found_in table _ _ _ put.row_of.ensures refl in
    (rw f.is at put.put.ensures.0, omega (arith, f.short, put.put.ensures.1))
