use Rattle.base.proofs.Tests.{flag_true}
use Rattle.row_choice.proofs.Chosen.{choices}
use borrow.Author.Rules.{rules}
use Rattle.row_choice.proofs.proposal_row.Goals as goal

ruleset by = (choices, flag_true, rules)

pub returns-then-fits : goal.returns-then-fits
returns-then-fits c = search by

pub returns-then-has_shape : goal.returns-then-has_shape
returns-then-has_shape c = search by

pub returns : goal.returns
returns c = search by
