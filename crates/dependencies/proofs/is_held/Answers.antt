-- Each vault is tested, in order.
use Rattle.std.proofs.Common.{rules}
use Rattle.std.proofs.lemmas.Iterator.{serves_from_Range}
use mathlib.Core.Path.{refl}
use Rattle.base.proofs.Ranges.{any_of_range}
use Rattle.ledger.specs.Holders.{holds_at, is_held}
use Rattle.dependencies.proofs.is_held.Goals as goal

pub any-requires : goal.any-requires
any-requires c = record { can = tt; finite = tt; callable = serves_from_Range (λ x q k. search rules) (λ x low high. search rules) }

pub returns : goal.returns
unfolding is_held holds_at
returns c = any_of_range _ _ _ _ _ refl (λ x r q k. search rules) c.any.ensures.ran
