-- The law of C, which is defined by factorials: its quotient leaves no remainder, it is 1 at both ends of a row, and elsewhere the sum of
-- the two above. No bound on the row is needed.
use mathlib.Core.Path.{◌∙◌, ◌≡◌, ap, refl, sym}
use Prim.Native.Nat.{◌*◌, ◌+◌, ◌-◌, ◌/◌, ◌<◌, ◌≤◌, suc, zero, ℕ}
use native.Mathlib.Nat.{add-mul, add-sub_cancel_left, add-suc, add-zero, le-add_right, le_refl, le_trans, mul-add, mul_assoc, mul-div_cancel}
use native.Mathlib.Nat.{mul-one, mul-pos, mul_right_comm, one-mul, suc-add, zero-add, zero-mul}
use native.Mathlib.Omega.{arith}
use lib.Dec.{ltb}
use borrow.Author.Tests.{le-ltb, lt-ltb, ltb-false, ltb-true}
use Rattle.base.proofs.Reflect.{by_cases}
use Rattle.binomials.specs.Binomials.{choose, factorial}

factorial_positive : (n : ℕ) → 0 < factorial n
unfolding factorial
factorial_positive zero = omega arith
factorial_positive (suc n) = mul-pos (factorial_positive n) (omega arith)

-- the sets of k among k + m
abbrev ways : ℕ → ℕ → ℕ
ways k m = factorial (k + m) / (factorial k * factorial m)

-- the quotient is the number that times the divisor gives the dividend
quotient : (k m a : ℕ) → a * (factorial k * factorial m) ≡ factorial (k + m) → ways k m ≡ a
quotient k m a e = rw (sym e) (mul-div_cancel a (mul-pos (factorial_positive k) (factorial_positive m)))

exactly : (k m a : ℕ) → a * (factorial k * factorial m) ≡ factorial (k + m) → ways k m * (factorial k * factorial m) ≡ factorial (k + m)
exactly k m a e = rw (quotient k m a e) e

first_exact : (m : ℕ) → 1 * (factorial 0 * factorial m) ≡ factorial (0 + m)
unfolding factorial
first_exact m = one-mul (1 * factorial m) ∙ one-mul (factorial m) ∙ ap factorial (sym (zero-add m))

last_exact : (k : ℕ) → 1 * (factorial k * factorial 0) ≡ factorial (k + 0)
unfolding factorial
last_exact k = one-mul (factorial k * 1) ∙ mul-one (factorial k) ∙ ap factorial (sym (add-zero k))

-- the two above, each times its own divisor, make the factorial below
sum_exact : (k m a b : ℕ)
    → a * (factorial k * factorial (suc m)) ≡ factorial (k + suc m)
    → b * (factorial (suc k) * factorial m) ≡ factorial (suc k + m)
    → (a + b) * (factorial (suc k) * factorial (suc m)) ≡ factorial (suc k + suc m)
unfolding factorial
sum_exact k m a b x y =
    let f = factorial k in
    let g = factorial m in
    let above = factorial (suc (k + m)) in
    let left : a * (f * suc k * (g * suc m)) ≡ above * suc k =
    ap (λ (n : ℕ). a * n) (mul_right_comm f (suc k) (g * suc m))
    ∙ sym (mul_assoc a (f * (g * suc m)) (suc k))
    ∙ ap (λ (n : ℕ). n * suc k) (x ∙ ap factorial (add-suc k m)) in
    let right : b * (f * suc k * (g * suc m)) ≡ above * suc m =
    ap (λ (n : ℕ). b * n) (sym (mul_assoc (f * suc k) g (suc m)))
    ∙ sym (mul_assoc b (f * suc k * g) (suc m))
    ∙ ap (λ (n : ℕ). n * suc m) (y ∙ ap factorial (suc-add k m)) in
    let below : suc k + suc m ≡ suc (suc (k + m)) = omega arith in
    let sum : above * suc k + above * suc m ≡ above * suc (suc (k + m)) = sym (mul-add above (suc k) (suc m)) ∙ ap (λ (n : ℕ). above * n) below in
    rw below (add-mul a b (f * suc k * (g * suc m)) ∙ rw (left, right) sum)

-- the quotient leaves no remainder
exact : (k m : ℕ) → ways k m * (factorial k * factorial m) ≡ factorial (k + m)
exact zero m = exactly 0 m 1 (first_exact m)
exact (suc k) zero = exactly (suc k) 0 1 (last_exact (suc k))
exact (suc k) (suc m) = exactly (suc k) (suc m) _ (sum_exact k m (ways k (suc m)) (ways (suc k) m) (exact k (suc m)) (exact (suc k) m))

ways_sum : (k m : ℕ) → ways (suc k) (suc m) ≡ ways k (suc m) + ways (suc k) m
ways_sum k m = quotient (suc k) (suc m) _ (sum_exact k m (ways k (suc m)) (ways (suc k) m) (exact k (suc m)) (exact (suc k) m))

-- ---- of a row n and a place k in it
choose_ways : (n k m : ℕ) → k + m ≡ n → choose n k ≡ ways k m
unfolding choose
choose_ways n k m e = rw (sym e) (rw (le-ltb (k + m) k (le-add_right k m), add-sub_cancel_left k m) refl)

pub choose_exact : (n k : ℕ) → k ≤ n → choose n k * (factorial k * factorial (n - k)) ≡ factorial n
choose_exact n k h = let e : k + (n - k) ≡ n = omega (arith, h) in rw (choose_ways n k (n - k) e) (exact k (n - k) ∙ ap factorial e)

pub choose_first : (n : ℕ) → choose n 0 ≡ 1
choose_first n = choose_ways n 0 n (zero-add n) ∙ quotient 0 n 1 (first_exact n)

pub choose_last : (n : ℕ) → choose n n ≡ 1
choose_last n = choose_ways n n 0 (add-zero n) ∙ quotient n 0 1 (last_exact n)

pub choose_sum : (n k : ℕ) → k < n → choose (suc n) (suc k) ≡ choose n k + choose n (suc k)
choose_sum n k h =
    let m = n - suc k in
    let below = choose_ways (suc n) (suc k) (suc m) (omega (arith, h)) in
    let left = choose_ways n k (suc m) (omega (arith, h)) in
    let right = choose_ways n (suc k) m (omega (arith, h)) in
    rw (below, left, right) (ways_sum k m)

pub choose_past : (n k : ℕ) → n < k → choose n k ≡ 0
unfolding choose
choose_past n k h = simp (lt-ltb n k h)

-- ---- there is a set of k among n, and one more to choose from leaves no fewer
pub choose_positive : (n k : ℕ) → k ≤ n → 0 < choose n k
choose_positive n k h = some (choose n k) (factorial k * factorial (n - k)) (choose_exact n k h) (factorial_positive n)
  where
    some : (a d : ℕ) {n : ℕ} → a * d ≡ n → 0 < n → 0 < a
    some zero d e p = absurd (omega (arith, e, p, zero-mul d))
    some (suc a) d e p = omega arith

choose_more : (n k : ℕ) → choose n k ≤ choose (suc n) k
choose_more n zero = rw (choose_first n, choose_first (suc n)) (omega arith)
choose_more n (suc k) =
    by_cases (λ _. choose n (suc k) ≤ choose (suc n) (suc k)) (ltb k n)
    (λ e. rw (choose_sum n k (ltb-true k n e)) (omega arith))
    (λ e. rw (choose_past n (suc k) (omega (arith, ltb-false k n e))) (omega arith))

pub choose_grows : (d n k : ℕ) → choose n k ≤ choose (d + n) k
choose_grows zero n k = rw (zero-add n) (le_refl (choose n k))
choose_grows (suc d) n k = rw (suc-add d n) (le_trans (choose_grows d n k) (choose_more (d + n) k))
