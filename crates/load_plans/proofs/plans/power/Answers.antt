-- The shifted 1 is the power of 2.
use native.Mathlib.Omega.{arith}
use lib.Pow.{pow_mono}
use Rattle.sets.proofs.Bits.{one_shl}
use Rattle.load_plans.proofs.plans.power.Goals as goal

pub returns : goal.returns
returns c = let e = one_shl 32 c.args.e (omega arith) in (
  e,
  omega (arith, e, pow_mono {i = 0} {j = c.args.e} (omega arith)),
  omega (
    arith,
    e,
    pow_mono {i = c.args.e} {j = 16} (omega arith),
  ),
)
