-- Each arm is one way through the tests of `delivering`.
use Rattle.std.proofs.Common.{arith}
use Rattle.std.proofs.lemmas.Grind.{common_steps}
use Rattle.load.specs.Steps.{delivering}
use Rattle.load_plans.proofs.steps.delivering.Goals as goal

pub returns-in-0-to-29 : goal.returns-in-0-to-29
unfolding delivering
returns-in-0-to-29 c = grind (arith, common_steps)

pub returns-in-30-to-45 : goal.returns-in-30-to-45
unfolding delivering
returns-in-30-to-45 c = grind (arith, common_steps)

pub returns-in-46 : goal.returns-in-46
unfolding delivering
returns-in-46 c = grind (arith, common_steps)

pub returns-in-47 : goal.returns-in-47
unfolding delivering
returns-in-47 c = grind (arith, common_steps)

pub returns-in-48 : goal.returns-in-48
unfolding delivering
returns-in-48 c = grind (arith, common_steps)

pub returns-in_default : goal.returns-in_default
unfolding delivering
returns-in_default c = grind (arith, common_steps)
