-- Each entry before this one is tested, in order: `any` over their numbers is the search that the contract names.
use Rattle.std.proofs.Common.{rules}
use mathlib.Core.Path.{refl}
use Rattle.base.proofs.Ranges.{any_of_range}
use Rattle.examination.proofs.seen_before.Goals as goal

pub returns : goal.returns
returns c = any_of_range _ _ _ _ _ refl (λ x r q k. search rules) c.any.ensures.ran
