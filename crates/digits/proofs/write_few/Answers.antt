use Rattle.digits.proofs.Writing.{writing}
use borrow.Author.Rules.{rules}
use Rattle.digits.proofs.write_few.Goals as goal

ruleset by = (writing, rules)

pub returns-then-n-lt10 : goal.returns-then-n-lt10
returns-then-n-lt10 c = search by

pub returns : goal.returns
returns c = search by
