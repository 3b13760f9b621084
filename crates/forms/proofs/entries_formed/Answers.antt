-- Each entry is tested, in order: `all` over the eight numbers is the search that the contract names.
use Rattle.std.proofs.Common.{rules}
use mathlib.Core.Path.{refl}
use Rattle.base.proofs.Ranges.{all_of_range}
use Rattle.forms.proofs.entries_formed.Goals as goal

pub returns : goal.returns
returns c = all_of_range _ _ _ _ _ refl (λ x r q k. search rules) c.all.ensures.ran
