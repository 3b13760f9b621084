-- A chain of places, each linked to the last before it, leads to the last that matches.
use mathlib.Core.Bool.{Bool, ◌||◌, cond, false, true, true≢false}
use mathlib.Core.Path.{◌∙◌, ◌≡◌, refl, sym}
use Prim.Native.Nat.{◌<◌, ◌≤◌, suc, zero, ℕ}
use native.Mathlib.Omega.{arith}
use Rattle.base.proofs.Reflect.{by_cases, by_test, not_true_false}
use Rattle.base.proofs.Search.{first_any, first_is, first_least, first_none, least_first}
use Rattle.base.specs.Search.{any_below, first_below}
use Rattle.index.specs.Chains.{last_below}

module _ (p : ℕ → Bool) where
  pub last_le : (n : ℕ) → last_below n p ≤ n
  unfolding last_below
  last_le zero = omega arith
  last_le (suc n) =
      by_cases (λ t. cond t (suc n) (last_below n p) ≤ suc n) (p n) (λ _. omega arith) (λ _. omega (arith, last_le n))

  pub last_zero : last_below 0 p ≡ 0
  unfolding last_below
  last_zero = refl

  pub last_yes : (n : ℕ) → p n ≡ true → last_below (suc n) p ≡ suc n
  unfolding last_below
  last_yes n e = simp e

  pub last_no : (n : ℕ) → p n ≡ false → last_below (suc n) p ≡ last_below n p
  unfolding last_below
  last_no n e = simp e

  -- the last passes
  pub last_has : (n x : ℕ) → last_below n p ≡ suc x → p x ≡ true
  unfolding last_below
  last_has zero x e = absurd (omega (arith, e))
  last_has (suc n) x e =
      by_cases (λ t. cond t (suc n) (last_below n p) ≡ suc x → p x ≡ true) (p n)
      (λ h q. let r : x ≡ n = omega arith in rw r h) (λ _. last_has n x) e

  -- none does where there is no last
  pub last_none : (n : ℕ) → last_below n p ≡ 0 → any_below n p ≡ false
  unfolding last_below any_below
  last_none zero e = refl
  last_none (suc n) e =
      by_cases (λ t. cond t (suc n) (last_below n p) ≡ 0 → (t || any_below n p) ≡ false) (p n) (λ _ q. absurd (omega arith)) (λ _. last_none n) e

  -- the first is the same below any bound past one that passes
  pub first_short : (n x : ℕ) → x < n → p x ≡ true → first_below n p ≡ first_below x p
  first_short n x l h =
      by_test (any_below x p)
      (λ e.
      let s = first_least p x (first_any p x e) in
      least_first p n (first_below x p) (record { below = omega (arith, s.below, l); has = s.has; none_before = s.none_before }))
      (λ e. first_is p n x l e h ∙ sym (first_none p x e))

-- what passes q passes p: the last of p is far enough to look for the last of q
pub last_skip : (p q : ℕ → Bool) → ((i : ℕ) → q i ≡ true → p i ≡ true) → (n : ℕ) → last_below (last_below n p) q ≡ last_below n q
unfolding last_below
last_skip p q h zero = refl
last_skip p q h (suc n) =
    by_cases (λ t. last_below (cond t (suc n) (last_below n p)) q ≡ cond (q n) (suc n) (last_below n q)) (p n)
    (λ _. refl) (λ e. simp (not_true_false (q n) (λ t. true≢false (sym (h n t) ∙ e))) (last_skip p q h n))

-- ---- the walk: x is one more than a place of the chain, or 0, and none past it matches
pub record Walk (p q : ℕ → Bool) (m x : ℕ) : Type 0 where
  pub below : x ≤ m
  pub on : last_below x p ≡ x
  pub left : last_below x q ≡ last_below m q

module _ (p q : ℕ → Bool) (sub : (i : ℕ) → q i ≡ true → p i ≡ true) (m : ℕ) where
  pub walk_start : (x : ℕ) → x ≡ last_below m p → Walk p q m x
  walk_start x e = rw e (record { below = last_le p m; on = last_skip p p (λ i h. h) m; left = last_skip p q sub m })

  -- the place is on the chain
  pub walk_on : (y : ℕ) → Walk p q m (suc y) → p y ≡ true
  walk_on y w = last_has p (suc y) y w.on

  pub walk_next : (y x : ℕ) → Walk p q m (suc y) → q y ≡ false → x ≡ last_below y p → Walk p q m x
  walk_next y x w miss e =
      rw e (record {
        below = omega (arith, last_le p y, w.below);
        on = last_skip p p (λ i h. h) y;
        left = last_skip p q sub y ∙ sym (last_no q y miss) ∙ w.left;
      })
