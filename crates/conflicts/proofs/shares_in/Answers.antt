-- Each of the half's entries is tested, in order: `any` over the four numbers is the search that the definition names.
use Rattle.std.proofs.Common.{rules}
use mathlib.Core.Path.{refl}
use Rattle.base.proofs.Ranges.{any_of_range}
use Rattle.conflicts.specs.Conflicts.{shares_in}
use Rattle.conflicts.proofs.shares_in.Goals as goal

pub returns : goal.returns
unfolding shares_in
returns c = any_of_range _ _ _ _ _ refl (λ x r q k. search rules) c.any.ensures.ran
