use Rattle.digits.proofs.Writing.{writing}
use borrow.Author.Rules.{rules}
use Rattle.digits.proofs.write_large.Goals as goal

ruleset by = (writing, rules)

pub returns : goal.returns
returns c = search by
