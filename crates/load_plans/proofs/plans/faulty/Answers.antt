-- The row ends where it starts or later.
use Prim.Native.Nat.{◌+◌}
use native.Mathlib.Omega.{arith}
use lib.Pow.{pow_mono}
use borrow.Author.Rules.{rules}
use Rattle.load.specs.Plans.{faulty_of}
use Rattle.load_plans.proofs.plans.faulty.Goals as goal

pub overflow_sub-result : goal.overflow_sub-result
overflow_sub-result c = let p = c.args.plan in omega (arith, pow_mono {i = p.start} {j = p.start + p.b} (omega arith))

pub returns : goal.returns
unfolding faulty_of
returns c = search rules
