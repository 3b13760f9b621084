-- Each return is one half of the round.
use borrow.Author.Tests.{le-ltb, lt-ltb}
use Rattle.load.specs.Steps.{step_for}
use Rattle.load_plans.proofs.steps.nth.Goals as goal

pub returns-then-k-lt29 : goal.returns-then-k-lt29
unfolding step_for
returns-then-k-lt29 c = simp (lt-ltb _ _ c.if-k-lt29.true, c.asking.ensures)

pub returns : goal.returns
unfolding step_for
returns c = simp (le-ltb _ _ c.if-k-lt29.false, c.delivering.ensures)
