use Rattle.kinds.proofs.Arms.{arms}
use borrow.Author.Rules.{rules}
use Rattle.kinds.proofs.draw.Goals as goal

ruleset by = (arms, rules)

pub draw-requires : goal.draw-requires
draw-requires c = search by

pub returns : goal.returns
returns c = search by
