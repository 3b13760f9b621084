use Rattle.words.proofs.Copies.{rows_put}
use borrow.Author.Rules.{rules}
use Rattle.words.proofs.put_arrow.Goals as goal

ruleset by = (rows_put, rules)

pub returns-then-k-eq2 : goal.returns-then-k-eq2
returns-then-k-eq2 c = search by

pub returns-else-k-eq2 : goal.returns-else-k-eq2
returns-else-k-eq2 c = search by
