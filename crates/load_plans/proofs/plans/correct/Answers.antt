-- The faulty vaults are below n, so what is taken from all vaults is there.
use native.Mathlib.Omega.{arith}
use borrow.Author.Rules.{rules}
use Rattle.load.proofs.Vaults.{faulty_below}
use Rattle.load.specs.Plans.{correct_of}
use Rattle.load_plans.proofs.plans.correct.Goals as goal

pub overflow_sub-result-2 : goal.overflow_sub-result-2
overflow_sub-result-2 c = omega (arith, faulty_below c.args.plan c.requires)

pub returns : goal.returns
unfolding correct_of
returns c = search rules
