-- A number that was written is read again, digit by digit: each digit adds itself to ten times what stands before it.
use mathlib.Core.Bool.{Bool, ◌&&◌, ◌||◌, cond, false, true}
use mathlib.Core.List.{List, [], ◌++◌, ◌∷◌, append_assoc}
use mathlib.Core.Path.{◌∙◌, ◌≡◌, ap, refl}
use Prim.Native.Nat.{◌%◌, ◌*◌, ◌+◌, ◌-◌, ◌/◌, ◌<◌, ◌^◌, ◌≤◌, suc, zero, ℕ}
use native.Mathlib.Omega.{arith}
use lib.Dec.{eqb, leb, ltb}
use borrow.Author.Tests.{le-leb, lt-leb, lt-ltb, ltb-false, ltb-true}
use Rattle.base.proofs.Reflect.{by_test, or_false, reflect_false}
use Rattle.codec.specs.Codec.{AreBytes, le_at}
use Rattle.sets.specs.Bits.{with_member}
use Rattle.digits.specs.Digits.{decimal, digits}
use Rattle.rows.specs.Items.{between, closed, fine, hex_digit, hex_of, is_digit, numbers_in}
use Rattle.rows.specs.Writing.{ends}

pub within : (low high c : ℕ) → low ≤ c → c ≤ high → between low high c ≡ true
unfolding between
within low high c l h = simp (le-leb low c l, le-leb c high h)

pub above : (low high c : ℕ) → high < c → between low high c ≡ false
unfolding between
above low high c h = simp (lt-leb c high h) (and_false (leb low c))
  where
    and_false : (b : Bool) → (b && false) ≡ false
    and_false true = refl
    and_false false = refl

-- what follows ends a number
abbrev pub ends_head : List ℕ → Bool
ends_head [] = true
ends_head (c ∷ l) = ends c

module _ (many : Bool) (bound set : ℕ) where
  digit : (seen : Bool) (m d : ℕ) (l : List ℕ) → d < 10 → m * 10 + d < bound
      → numbers_in many bound seen set m ((48 + d) ∷ l) ≡ numbers_in many bound true set (m * 10 + d) l
  unfolding numbers_in
  digit seen m d l h g =
      let e : 48 + d - 48 ≡ d = omega arith in
      simp (within 48 57 (48 + d) (omega arith) (omega arith), e, lt-ltb (m * 10 + d) bound g)

  few : (seen : Bool) (n : ℕ) (l : List ℕ) → n < 10 → n < bound
      → numbers_in many bound seen set 0 ((48 + n) ∷ l) ≡ numbers_in many bound true set n l
  few seen n l h g = digit seen 0 n l h (omega arith) ∙ ap (λ (m : ℕ). numbers_in many bound true set m l) (omega arith)

  digits_in : (k n : ℕ) (seen : Bool) (l : List ℕ) → n ≤ k → n < bound
      → numbers_in many bound seen set 0 (digits k n ++ l) ≡ numbers_in many bound true set n l
  unfolding digits
  digits_in zero n seen l h g = few seen n l (omega arith) g
  digits_in (suc k) n seen l h g =
      by_test (ltb n 10) (λ e. rw e (few seen n l (ltb-true n 10 e) g))
      (λ e.
      let m : 10 ≤ n = ltb-false n 10 e in
      rw (e, append_assoc (digits k (n / 10)) ((48 + n % 10) ∷ []) l)
      (digits_in k (n / 10) seen ((48 + n % 10) ∷ l) (omega arith) (omega arith)
      ∙ digit true (n / 10) (n % 10) l (omega arith) (omega arith)
      ∙ ap (λ (m : ℕ). numbers_in many bound true set m l) (omega arith)))

  pub decimal_in : (n : ℕ) (seen : Bool) (l : List ℕ) → n < bound
      → numbers_in many bound seen set 0 (decimal n ++ l) ≡ numbers_in many bound true set n l
  unfolding decimal
  decimal_in n seen l g = digits_in n n seen l (omega arith) g

  pub ended : (n : ℕ) (l : List ℕ) → ends_head l ≡ true → numbers_in many bound true set n l ≡ fine (closed many set n) l
  unfolding numbers_in
  ended n [] h = refl
  ended n (c ∷ l) h =
      let t = or_false (is_digit c) (eqb c 44) ((reflect_false (is_digit c || eqb c 44)).sound h) in
      simp (t.0, t.1) (no_comma many)
    where
      no_comma : (b : Bool)
          → cond (b && false) (numbers_in many bound false (with_member 16 set n) 0 l) (fine (closed many set n) (c ∷ l))
          ≡ fine (closed many set n) (c ∷ l)
      no_comma true = refl
      no_comma false = refl

-- ---- hexadecimal
pub hex_in_lem : (d : ℕ) → d < 16 → hex_of (hex_digit d) ≡ d
unfolding hex_of hex_digit
hex_in_lem d h =
    by_test (ltb d 10)
    (λ e. rw e (simp (within 48 57 (48 + d) (omega arith) (omega (arith, ltb-true d 10 e))) (omega arith)))
    (λ e.
    let m : 10 ≤ d = ltb-false d 10 e in
    rw e (simp (above 48 57 (87 + d) (omega arith), within 97 102 (87 + d) (omega arith) (omega arith)) (omega arith)))

-- ---- the value of so many bytes
pub le_at_lt : (k : ℕ) (s : List ℕ) (at : ℕ) → AreBytes s → le_at s at k < 256 ^ k
unfolding le_at
le_at_lt zero s at b = omega arith
le_at_lt (suc k) s at b = omega (arith, b at, le_at_lt k s (at + 1) b)
