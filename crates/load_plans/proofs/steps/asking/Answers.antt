-- Each arm is one way through the tests of `asking`.
use Rattle.std.proofs.Common.{arith}
use Rattle.std.proofs.lemmas.Grind.{common_steps}
use Rattle.load.specs.Steps.{asking}
use Rattle.load_plans.proofs.steps.asking.Goals as goal

pub returns-in-0-to-9 : goal.returns-in-0-to-9
unfolding asking
returns-in-0-to-9 c = grind (arith, common_steps)

pub returns-in-10-to-25 : goal.returns-in-10-to-25
unfolding asking
returns-in-10-to-25 c = grind (arith, common_steps)

pub returns-in-26-to-27 : goal.returns-in-26-to-27
unfolding asking
returns-in-26-to-27 c = grind (arith, common_steps)

pub returns-in_default : goal.returns-in_default
unfolding asking
returns-in_default c = grind (arith, common_steps)
