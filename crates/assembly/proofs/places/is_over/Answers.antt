use Rattle.assembly.proofs.Passing.{passes}
use borrow.Author.Rules.{rules}
use Rattle.assembly.proofs.places.is_over.Goals as goal

ruleset by = (passes, rules)

pub returns-then-at-text : goal.returns-then-at-text
returns-then-at-text c = search by

pub returns-else-at-text : goal.returns-else-at-text
returns-else-at-text c = search by
