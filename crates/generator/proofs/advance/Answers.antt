use Rattle.std.proofs.Common.{rules}
use Rattle.generator.specs.Generator.{next}
use Rattle.generator.proofs.advance.Goals as goal

pub returns : goal.returns
unfolding next
returns c = search rules
