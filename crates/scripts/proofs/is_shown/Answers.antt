-- A chain of two tests of the byte at the place.
use Rattle.std.proofs.Common.{arith}
use Rattle.std.proofs.lemmas.Grind.{common_steps}
use Rattle.scripts.proofs.is_shown.Goals as goal

pub returns-then-first-eq10 : goal.returns-then-first-eq10
returns-then-first-eq10 c = grind (arith, common_steps)

pub returns-else-first-eq10 : goal.returns-else-first-eq10
returns-else-first-eq10 c = grind (arith, common_steps)
