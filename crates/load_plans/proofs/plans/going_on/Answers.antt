-- Each return is one way through the tests of `going_on`.
use Rattle.base.proofs.Tests.{tests}
use Rattle.load.specs.Plans.{going_on}
use Rattle.load_plans.proofs.plans.going_on.Goals as goal

pub returns-then-v-plan : goal.returns-then-v-plan
unfolding going_on
returns-then-v-plan c = search tests

pub returns-then-end-v : goal.returns-then-end-v
unfolding going_on
returns-then-end-v c = search tests

pub returns-then-end-plan : goal.returns-then-end-plan
unfolding going_on
returns-then-end-plan c = search tests

pub returns : goal.returns
unfolding going_on
returns c = search tests
