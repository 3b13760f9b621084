-- Each arm is a row of the table.
use Rattle.runfile.specs.Steps.{kind_of}
use Rattle.kind_table.proofs.Rows.{unknown_row}
use Rattle.kind_table.specs.Table.{operation_of}
use Rattle.kind_table.proofs.operation_of.Goals as goal

pub returns-in-1 : goal.returns-in-1
unfolding operation_of kind_of
returns-in-1 c = simp (c.in-1.is, c.row.ensures, c.record_size.ensures.0)

pub returns-in-2 : goal.returns-in-2
unfolding operation_of kind_of
returns-in-2 c = simp (c.in-2.is, c.row-in-2.ensures)

pub returns-in-3 : goal.returns-in-3
unfolding operation_of kind_of
returns-in-3 c = simp (c.in-3.is, c.row-in-3.ensures)

pub returns-in-4 : goal.returns-in-4
unfolding operation_of kind_of
returns-in-4 c = simp (c.in-4.is, c.row-in-4.ensures)

pub returns-in-5 : goal.returns-in-5
unfolding operation_of kind_of
returns-in-5 c = simp (c.in-5.is, c.row-in-5.ensures)

pub returns-in-6 : goal.returns-in-6
unfolding operation_of kind_of
returns-in-6 c = simp (c.in-6.is, c.row-in-6.ensures)

pub returns-in-7 : goal.returns-in-7
unfolding operation_of kind_of
returns-in-7 c = simp (c.in-7.is, c.row-in-7.ensures)

pub returns-in-8 : goal.returns-in-8
unfolding operation_of kind_of
returns-in-8 c = simp (c.in-8.is, c.row-in-8.ensures)

pub returns-in-9 : goal.returns-in-9
unfolding operation_of kind_of
returns-in-9 c = simp (c.in-9.is, c.row-in-9.ensures)

pub returns-in-10 : goal.returns-in-10
unfolding operation_of kind_of
returns-in-10 c = simp (c.in-10.is, c.row-in-10.ensures)

pub returns-in-11 : goal.returns-in-11
unfolding operation_of kind_of
returns-in-11 c = simp (c.in-11.is, c.row-in-11.ensures)

pub returns-in-12 : goal.returns-in-12
unfolding operation_of kind_of
returns-in-12 c = simp (c.in-12.is, c.row-in-12.ensures)

pub returns-in-13 : goal.returns-in-13
unfolding operation_of kind_of
returns-in-13 c = simp (c.in-13.is, c.row-in-13.ensures)

pub returns-in_default : goal.returns-in_default
unfolding operation_of kind_of
returns-in_default c = search unknown_row
