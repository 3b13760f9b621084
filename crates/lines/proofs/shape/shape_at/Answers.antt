-- Each turn looks at a character.
use Rattle.lines.proofs.Scans.{scans}
use borrow.Author.Rules.{rules}
use Rattle.lines.proofs.shape.shape_at.Goals as goal

ruleset by = (scans, rules)

pub returns-then-closes : goal.returns-then-closes
returns-then-closes c = search by

pub loop-at-preserved : goal.loop-at-preserved
loop-at-preserved c = search by

pub returns : goal.returns
returns c = search by
