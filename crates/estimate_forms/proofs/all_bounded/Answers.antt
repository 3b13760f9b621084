-- Each entry is tested, in order: `all` over the eight numbers is the search that the contract names.
use Rattle.std.proofs.Common.{rules}
use Rattle.std.proofs.lemmas.Iterator.{serves_from_Range}
use mathlib.Core.Path.{refl}
use Rattle.base.proofs.Ranges.{all_of_range}
use Rattle.estimate_forms.proofs.all_bounded.Goals as goal

pub all-requires : goal.all-requires
all-requires c = record { can = tt; finite = tt; callable = serves_from_Range (λ x q k. search rules) (λ x low high. search rules) }

pub returns : goal.returns
returns c = all_of_range _ _ _ _ _ refl (λ x r q k. search rules) c.all.ensures.ran
