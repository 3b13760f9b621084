use Rattle.assembly.proofs.Passing.{passes}
use borrow.Author.Rules.{rules}
use Rattle.assembly.proofs.places.after_line.Goals as goal

ruleset by = (passes, rules)

pub returns-then-text-at-eq10 : goal.returns-then-text-at-eq10
returns-then-text-at-eq10 c = search by

pub loop-at-preserved : goal.loop-at-preserved
loop-at-preserved c = search by

pub returns : goal.returns
returns c = search by
