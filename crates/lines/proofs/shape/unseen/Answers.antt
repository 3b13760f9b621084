use Rattle.notation.specs.Lines.{unseen}
use borrow.Author.Rules.{rules}
use Rattle.lines.proofs.shape.unseen.Goals as goal

pub returns : goal.returns
unfolding unseen
returns c = search rules
