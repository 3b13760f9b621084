use Rattle.base.proofs.Tests.{flag_true}
use Rattle.row_choice.proofs.Chosen.{choices}
use borrow.Author.Rules.{rules}
use Rattle.row_choice.proofs.raw_row.Goals as goal

ruleset by = (choices, flag_true, rules)

pub returns : goal.returns
returns c = search by
