-- Below 16 the shifted set's lowest bit is the definition; at or above, 16 bits have no such member, and the answer is false in any words.
use Prim.Native.Nat.{◌<◌, ◌≤◌, ◌^◌, ℕ}
use mathlib.Core.Bool.{Bool, false}
use mathlib.Core.Path.{sym, ◌∙◌, ◌≡◌}
use borrow.Author.Rules.{rules}
use borrow.Author.Tests.{le-ltb}
use Rattle.sets.specs.Bits.{has_bit}
use Rattle.sets.proofs.Bits.{has_beyond}
use Rattle.sets.proofs.vaults.has.Goals as goal

beyond : (s i : ℕ) (answer : Bool) → s < 2 ^ 16 → 16 ≤ i → answer ≡ false → answer ≡ has_bit s i
beyond s i answer h l e = e ∙ sym (has_beyond 16 s i h l)

ruleset by = (beyond, le-ltb, rules)

pub returns-then-vault-lt16 : goal.returns-then-vault-lt16
unfolding has_bit
returns-then-vault-lt16 c = search rules

pub returns-else-vault-lt16 : goal.returns-else-vault-lt16
returns-else-vault-lt16 c = search by
