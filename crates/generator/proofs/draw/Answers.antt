use Rattle.std.proofs.Common.{rules}
use Rattle.generator.specs.Generator.{drawn}
use Rattle.generator.proofs.draw.Goals as goal

pub returns : goal.returns
unfolding drawn
returns c = search rules
