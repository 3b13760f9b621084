use Rattle.lines.proofs.Scans.{count_full, count_more}
use borrow.Author.Rules.{rules}
use Rattle.lines.proofs.shape.count.Goals as goal

ruleset by = (count_more, count_full, rules)

pub returns-then-n-lt5 : goal.returns-then-n-lt5
returns-then-n-lt5 c = search by

pub returns-else-hit : goal.returns-else-hit
returns-else-hit c = search by
