-- Searches and sums over the numbers below a bound. Nearly every check is one of them.
use Rattle.std.specs.Prelude.{◌≡◌, Bool, true, false, cond, ◌&&◌, ◌||◌, ℕ, zero, suc, ◌+◌, ◌<◌, Option}
use Rattle.std.specs.Option.{MatchOption}

-- some number below n passes
unfoldable pub any_below : ℕ → (ℕ → Bool) → Bool
any_below zero p = false
any_below (suc n) p = p n || any_below n p

-- each number below n passes
unfoldable pub all_below : ℕ → (ℕ → Bool) → Bool
all_below zero p = true
all_below (suc n) p = p n && all_below n p

-- the least number below n that passes, or n
unfoldable pub first_below : ℕ → (ℕ → Bool) → ℕ
first_below zero p = zero
first_below (suc n) p = cond (any_below n p) (first_below n p) (cond (p n) n (suc n))

-- what a search below n hands back: the least number that passes, or none where none does
abbrev pub FirstFound : ℕ → (ℕ → Bool) → Option ℕ → Type 0
FirstFound n p r = MatchOption r (first_below n p ≡ n) (λ i. (i < n) × (first_below n p ≡ i))

-- f n + f (n + 1) + .. , k terms
unfoldable pub sum_from : (ℕ → ℕ) → ℕ → ℕ → ℕ
sum_from f n zero = 0
sum_from f n (suc k) = f n + sum_from f (suc n) k

-- ---- what the searches mean

-- some number below n has P
pub record Some (n : ℕ) (P : ℕ → Type 0) : Type 0 where
  pub which : ℕ
  pub below : which < n
  pub has : P which

-- each number below n has P
abbrev pub Every : ℕ → (ℕ → Type 0) → Type 0
Every n P = (i : ℕ) → i < n → P i

-- i is the least number below n that has P
pub record Least (n : ℕ) (P : ℕ → Type 0) (i : ℕ) : Type 0 where
  pub below : i < n
  pub has : P i
  pub none_before : (k : ℕ) → k < i → P k → ⊥
