-- A remainder is below its divisor, so the row of faulty vaults ends at n or before.
use native.Mathlib.Omega.{arith}
use Rattle.load.specs.Plans.{plan_with}
use Rattle.load_plans.proofs.plans.choose.Goals as goal

pub returns : goal.returns
unfolding plan_with
returns c = (
  simp (c.modulo-start.ensures.0, c.modulo-turn.ensures.0),
  record {
    vaults = omega arith;
    few = omega arith;
    row = omega arith;
    turned = omega arith;
  },
)
