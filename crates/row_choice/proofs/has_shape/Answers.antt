use Rattle.base.proofs.Tests.{tests}
use Rattle.row_choice.proofs.Chosen.{shapes}
use borrow.Author.Rules.{rules}
use Rattle.row_choice.proofs.has_shape.Goals as goal

ruleset by = (shapes, tests, rules)

pub returns-then-byte_at-gt4 : goal.returns-then-byte_at-gt4
returns-then-byte_at-gt4 c = search by

pub returns-in-0 : goal.returns-in-0
returns-in-0 c = search by

pub returns-in-1 : goal.returns-in-1
returns-in-1 c = search by

pub returns-in_default : goal.returns-in_default
returns-in_default c = search by
