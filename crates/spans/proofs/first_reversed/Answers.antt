-- Each entry is tested, in order: `find` over the eight numbers is the search that the contract names.
use Rattle.std.proofs.Common.{rules}
use Rattle.std.proofs.lemmas.Iterator.{serves_from_Range}
use mathlib.Core.Path.{refl}
use Rattle.base.proofs.Ranges.{first_of_range}
use Rattle.spans.proofs.first_reversed.Goals as goal

pub find-requires : goal.find-requires
find-requires c = record { can = tt; finite = tt; callable = serves_from_Range (λ x q k. search rules) (λ x low high. search rules) }

pub returns : goal.returns
returns c = first_of_range _ _ _ _ _ refl (λ x r q k. search rules) c.find.ensures.ran
