use Rattle.base.proofs.Tests.{chain}
use Rattle.notation.specs.Lines.{closes}
use Rattle.lines.proofs.shape.closes.Goals as goal

pub returns-then-c-eq10 : goal.returns-then-c-eq10
unfolding closes
returns-then-c-eq10 c = search chain

pub returns-else-c-eq10 : goal.returns-else-c-eq10
unfolding closes
returns-else-c-eq10 c = search chain
