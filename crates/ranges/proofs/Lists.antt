-- A list made of a function's values, and the loop that makes one: `for i in 0..k { out[i] = f(i); }`, whose invariant is
-- `sets out i (list_from f i (k - i)) ≡ r`.
use mathlib.Core.List.{List, [], append-nil}
use mathlib.Core.Path.{◌∙◌, ◌≡◌, ap, refl}
use Prim.Native.Nat.{◌+◌, ◌-◌, ◌<◌, ◌≤◌, suc, zero, ℕ}
use native.Mathlib.Nat.{le_of_suc-le-suc, not-suc-le-zero}
use native.Mathlib.Numerals.{add-one}
use native.Mathlib.Omega.{arith}
use lib.ListN.{drop, drop_of_length-le, get_or, length, set}
use lib.Seq.{sets, sets-eq}
use Rattle.ranges.specs.Ranges.{list_from}

module _ {A : Type 0} (f : ℕ → A) where
  pub list_length : (i n : ℕ) → length (list_from f i n) ≡ n
  unfolding list_from
  list_length i zero = refl
  list_length i (suc n) = ap suc (list_length (suc i) n)

  pub list_start : (k : ℕ) (out : List A) → length out ≡ k → sets out 0 (list_from f 0 (k - 0)) ≡ list_from f 0 k
  list_start k out e =
      let n : k - 0 ≡ k = omega arith in
      let all = list_length 0 k in
      let none : drop (0 + length (list_from f 0 k)) out ≡ [] = drop_of_length-le out {i = 0 + length (list_from f 0 k)} (omega arith) in
      rw n (sets-eq (list_from f 0 k) out 0 (omega arith) ∙ rw none (append-nil (list_from f 0 k)))

  pub list_next : (i k : ℕ) (out r : List A) (v : A) → i < k → v ≡ f i → sets out i (list_from f i (k - i)) ≡ r
      → sets (set out i v) (i + 1) (list_from f (i + 1) (k - (i + 1))) ≡ r
  unfolding list_from
  list_next i k out r v h q e =
      let n : k - i ≡ suc (k - suc i) = omega arith in
      rw (q, add-one) (rw n at e)

  pub list_end : (i k : ℕ) (out r : List A) → k ≤ i → sets out i (list_from f i (k - i)) ≡ r → out ≡ r
  unfolding list_from
  list_end i k out r h e = let n : k - i ≡ 0 = omega arith in rw n at e

  pub list_at : (i n k : ℕ) (d : A) → k < n → get_or (list_from f i n) k d ≡ f (i + k)
  unfolding list_from
  list_at i zero k d h = absurd (not-suc-le-zero h)
  list_at i (suc n) zero d h = ap f (omega arith)
  list_at i (suc n) (suc k) d h = list_at (suc i) n k d (le_of_suc-le-suc h) ∙ ap f (omega arith)
