-- `is_between` decides that a number lies in a range.
use mathlib.Core.Bool.{Bool, true}
use mathlib.Core.Path.{◌∙◌, ◌≡◌, sym}
use Prim.Native.Nat.{◌≤◌, ℕ}
use Rattle.base.proofs.Reflect.{reflect_and, reflect_le}
use Rattle.base.specs.Reflect.{Reflects}
use Rattle.record.specs.Labels.{is_between}

pub reflect_between : (low high x : ℕ) → Reflects (is_between low high x) ((low ≤ x) × (x ≤ high))
unfolding is_between
reflect_between low high x = reflect_and (reflect_le low x) (reflect_le x high)

-- a callee's flag
pub between_true : (low high x : ℕ) (r : Bool) → r ≡ is_between low high x → r ≡ true → (low ≤ x) × (x ≤ high)
between_true low high x r p q = (reflect_between low high x).sound (sym p ∙ q)
