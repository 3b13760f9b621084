use Rattle.assembly.proofs.Passing.{passes}
use borrow.Author.Rules.{rules}
use Rattle.assembly.proofs.places.skip_blanks.Goals as goal

ruleset by = (passes, rules)

pub loop-at-preserved : goal.loop-at-preserved
loop-at-preserved c = search by

pub returns : goal.returns
returns c = search by

pub returns-then-not-is_blank : goal.returns-then-not-is_blank
returns-then-not-is_blank c = search by
