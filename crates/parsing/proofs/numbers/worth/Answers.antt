use Rattle.parsing.proofs.Turns.{digit_high, digit_low}
use mathlib.Core.Path.{refl}
use native.Mathlib.Omega.{arith}
use Rattle.parsing.proofs.numbers.worth.Goals as goal

pub overflow_sub-result : goal.overflow_sub-result
overflow_sub-result c = omega (arith, digit_low _ c.requires)

pub returns : goal.returns
returns c = (refl, omega (arith, digit_high _ c.requires))
