use Rattle.codec.proofs.Sizes.{size_most}
use Rattle.kind_table.proofs.Rows.{size_small}
use Rattle.reading.proofs.Rows.{rows}
use borrow.Author.Rules.{rules}
use native.Mathlib.Omega.{arith}
use Rattle.reading.proofs.step_at.Goals as goal

ruleset by = (rows, size_small, rules)

-- no body is longer than a record
pub overflow_add-end : goal.overflow_add-end
overflow_add-end c = omega (arith, size_most c.args.version, size_small _ _ _ c.operation_of-operation.ensures)

pub bounds-input-pos : goal.bounds-input-pos
bounds-input-pos c = search by

pub operation_of-operation-requires : goal.operation_of-operation-requires
operation_of-operation-requires c = search by

pub overflow_add-at : goal.overflow_add-at
overflow_add-at c = search by

pub formed_step-requires : goal.formed_step-requires
formed_step-requires c = search by

pub returns-then-end-input : goal.returns-then-end-input
returns-then-end-input c = search by

pub unreadable-requires : goal.unreadable-requires
unreadable-requires c = search by

pub returns : goal.returns
returns c = search by
