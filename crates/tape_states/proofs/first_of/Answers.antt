-- Each number is tested, in order: `find` over the numbers below n is the search that the contract names.
use Rattle.std.proofs.Common.{rules}
use mathlib.Core.Path.{refl}
use Rattle.base.proofs.Ranges.{first_of_range}
use Rattle.tape_states.proofs.first_of.Goals as goal

pub returns : goal.returns
returns c = first_of_range _ _ _ _ _ refl (λ x r q k. search rules) c.find.ensures.ran
