-- Little-endian numbers: a step of each loop, and the sums that need none.
use mathlib.Core.List.{List, [], ◌++◌, ◌∷◌}
use mathlib.Core.Path.{◌∙◌, ◌≡◌, ap, refl, sym}
use Prim.Native.Nat.{◌%◌, ◌*◌, ◌+◌, ◌-◌, ◌/◌, ◌<◌, ◌^◌, ◌≤◌, suc, zero, ℕ}
use native.Mathlib.Nat.{add_assoc, add-suc, add-zero, sub_self, suc-add}
use native.Mathlib.Omega.{arith}
use lib.ListN.{get_or, length, set}
use lib.Pow.{pow-add, pow_mono}
use lib.Seq.{sets}
use Rattle.codec.specs.Codec.{le_at, le_bytes}

-- a number of m bytes, with one byte more below it
pub more_lt : (m a b : ℕ) → a < 2 ^ (8 * m) → b < 256 → a * 256 + b < 2 ^ (8 * suc m)
more_lt m a b ha hb =
    let e : 2 ^ (8 * suc m) ≡ 2 ^ (8 * m) * 256 = ap (λ (x : ℕ). 2 ^ x) (omega arith) ∙ pow-add 2 (8 * m) 8 in
    omega arith

pub le_at_down : (s : List ℕ) (at k count acc : ℕ) → 0 < k → k ≤ count → acc ≡ le_at s (at + k) (count - k)
    → acc * 256 + get_or s (at + (k - 1)) 0 ≡ le_at s (at + (k - 1)) (count - (k - 1))
unfolding le_at
le_at_down s at k count acc hk hc e =
    let n : count - (k - 1) ≡ suc (count - k) = omega arith in
    let p : at + (k - 1) + 1 ≡ at + k = omega arith in
    rw (n, p) (omega arith)

pub put_step : (out : List ℕ) (at k count v : ℕ) → k < count
    → sets (set out (at + k) (v % 256)) (at + (k + 1)) (le_bytes (count - (k + 1)) (v / 256)) ≡ sets out (at + k) (le_bytes (count - k) v)
unfolding le_bytes
put_step out at k count v h =
    let n : count - k ≡ suc (count - (k + 1)) = omega arith in
    let p : at + (k + 1) ≡ suc (at + k) = omega arith in
    rw (n, p)

pub le_at_none : (s : List ℕ) (at count : ℕ) → 0 ≡ le_at s at (count - count)
unfolding le_at
le_at_none s at count = rw sub_self

pub le_at_all : (s : List ℕ) (at k count acc : ℕ) → k ≤ 0 → acc ≡ le_at s (at + k) (count - k) → acc ≡ le_at s at count
le_at_all s at k count acc h e =
    let p : at + k ≡ at = omega arith in
    let n : count - k ≡ count = omega arith in
    rw (p, n) at e

-- eight bytes at most: one more fits
pub room : (k count acc : ℕ) → 0 < k → count ≤ 8 → acc < 2 ^ (8 * (count - k)) → acc < 2 ^ 56
room k count acc hk hc h = omega (arith, pow_mono {i = 8 * (count - k)} {j = 56} (omega arith))

-- four bytes as one sum
pub le_at_four : (s : List ℕ) (at : ℕ) → le_at s at 4 ≡ get_or s at 0 + 256 * (get_or s (at + 1) 0 + 256 * (get_or s (at + 2) 0 + 256 * get_or s (at + 3) 0))
unfolding le_at
le_at_four s at = simp (add_assoc, add-zero)

-- eight bytes as two times four
pub le_at_halves : (s : List ℕ) (at : ℕ) → le_at s at 8 ≡ le_at s at 4 + 4294967296 * le_at s (at + 4) 4
unfolding le_at
le_at_halves s at = simp add_assoc (omega arith)

-- ---- stores
module _ {A : Type 0} where
  pub sets_append : (xs l : List A) (i : ℕ) (ys : List A) → sets l i (xs ++ ys) ≡ sets (sets l i xs) (i + length xs) ys
  sets_append [] l i ys = rw add-zero
  sets_append (x ∷ xs) l i ys =
      sets_append xs (set l i x) (suc i) ys
      ∙ ap (λ (n : ℕ). sets (sets (set l i x) (suc i) xs) n ys) (suc-add i (length xs) ∙ sym (add-suc i (length xs)))

pub length_le_bytes : (k v : ℕ) → length (le_bytes k v) ≡ k
unfolding le_bytes
length_le_bytes zero v = refl
length_le_bytes (suc k) v = ap suc (length_le_bytes k (v / 256))
