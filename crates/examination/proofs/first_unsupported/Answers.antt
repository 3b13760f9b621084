-- Each entry is tested, in order: `find` over the eight numbers is the search that the contract names.
use Rattle.std.proofs.Common.{rules}
use mathlib.Core.Path.{refl}
use Rattle.base.proofs.Ranges.{first_of_range}
use Rattle.examination.proofs.first_unsupported.Goals as goal

pub returns : goal.returns
returns c = first_of_range _ _ _ _ _ refl (λ x r q k. search rules) c.find.ensures.ran
