-- The row stands at the front of the buffer, and the step is written by it.
use Rattle.disassembly.proofs.Made.{row_end, row_room_lem, step_put}
use Rattle.notation.specs.Lines.{line_of}
use borrow.Author.Rules.{rules}
use Rattle.disassembly.proofs.put_step.Goals as goal

ruleset by = (row_room_lem, row_end, step_put, rules)

pub returns : goal.returns
unfolding line_of
returns c = search by

pub write_row-requires : goal.write_row-requires
write_row-requires c = search by
