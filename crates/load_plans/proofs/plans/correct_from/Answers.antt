-- The remainder is where going on starts.
use Rattle.load.specs.Plans.{correct_from}
use Rattle.load_plans.proofs.plans.correct_from.Goals as goal

pub returns : goal.returns
unfolding correct_from
returns c = cc
