-- A remainder is below its divisor, and so fits a byte.
use native.Mathlib.Nat.{mod-lt}
use native.Mathlib.Omega.{arith}
use borrow.Author.Rules.{rules}
use Rattle.load_plans.proofs.plans.modulo.Goals as goal

pub overflow_cast-result : goal.overflow_cast-result
overflow_cast-result c = omega (arith, mod-lt c.args.x c.requires.0)

pub returns : goal.returns
returns c = (search rules, mod-lt c.args.x c.requires.0)
