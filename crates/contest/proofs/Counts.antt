-- How many of the vaults below n pass a test.
use mathlib.Core.Bool.{Bool, true, false, cond}
use mathlib.Core.Logic.{⊎_elim, ◌≢◌}
use mathlib.Core.Path.{◌≡◌, refl, sym, ap, ap₂}
use Prim.Native.Nat.{ℕ, zero, suc, ◌+◌, ◌<◌}
use native.Mathlib.Decide.{ℕ_discrete}
use native.Mathlib.Nat.{eq-or-lt_of_le, le_of_suc-le-suc, not-suc-le-zero}
use native.Mathlib.Omega.{arith}
use Rattle.base.proofs.Reflect.{by_cases, not_true_false}
use Rattle.base.specs.Search.{Some}
use Rattle.contest.specs.Game.{count}

abbrev one : Bool → ℕ
one b = cond b 1 0

-- where some are counted there is one
pub counted : (p : ℕ → Bool) (n : ℕ) → 0 < count n p → Some n (λ v. p v ≡ true)
unfolding count
counted p zero l = absurd (omega arith)
counted p (suc n) l =
    by_cases (λ _. Some (suc n) (λ v. p v ≡ true)) (p n)
    (λ e. record { which = n; below = omega arith; has = e })
    (λ e. let r = counted p n (omega (arith, ap one e)) in record { which = r.which; below = omega arith; has = r.has })

pub count_same : (p q : ℕ → Bool) (n : ℕ) → ((v : ℕ) → v < n → p v ≡ q v) → count n p ≡ count n q
unfolding count
count_same p q zero h = refl
count_same p q (suc n) h = ap₂ (λ (a b : ℕ). a + b) (ap one (h n (omega arith))) (count_same p q n (λ v l. h v (omega arith)))

pub count_none : (p : ℕ → Bool) (n : ℕ) → ((v : ℕ) → v < n → p v ≡ false) → count n p ≡ 0
unfolding count
count_none p zero h = refl
count_none p (suc n) h = omega (arith, ap one (h n (omega arith)), count_none p n (λ v l. h v (omega arith)))

-- q is p but for v, which no longer passes: one fewer
pub count_less : (p q : ℕ → Bool) (n v : ℕ) → v < n → p v ≡ true → q v ≡ false → ((j : ℕ) → j ≢ v → q j ≡ p j)
    → count n p ≡ 1 + count n q
unfolding count
count_less p q zero v l e d h = absurd (not-suc-le-zero l)
count_less p q (suc n) v l e d h =
    ⊎_elim
    (λ k.
    let same : count n q ≡ count n p = count_same q p n (λ j m. h j (λ i. absurd (omega arith))) in
    let here : p n ≡ true = rw k at e in
    let gone : q n ≡ false = rw k at d in
    omega (arith, ap one here, ap one gone))
    (λ m. let same : q n ≡ p n = h n (λ i. absurd (omega arith)) in omega (arith, ap one same, count_less p q n v m e d h))
    (eq-or-lt_of_le (le_of_suc-le-suc l))

-- where none is counted none passes
pub count_zero : (p : ℕ → Bool) (n : ℕ) → count n p ≡ 0 → (v : ℕ) → v < n → p v ≡ false
unfolding count
count_zero p zero z v l = absurd (not-suc-le-zero l)
count_zero p (suc n) z v l =
    ⊎_elim
    (λ k. rw k (not_true_false (p n) (λ e. absurd (omega (arith, ap one e)))))
    (λ m. count_zero p n (omega arith) v m)
    (eq-or-lt_of_le (le_of_suc-le-suc l))

-- the same at v and elsewhere: as many
pub count_at : (p q : ℕ → Bool) (n v : ℕ) → p v ≡ q v → ((j : ℕ) → j ≢ v → q j ≡ p j) → count n p ≡ count n q
count_at p q n v e h = count_same p q n (λ j _. by j (ℕ_discrete j v))
  where
    by : (j : ℕ) → Dec (j ≡ v) → p j ≡ q j
    by j (yes d) = rw d e
    by j (no d) = sym (h j d)
