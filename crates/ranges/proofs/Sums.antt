-- Sums of a choice: how they move with one entry, and that every sum between that of the lowest counts and that of the highest is
-- the sum of some choice.
use mathlib.Core.Bool.{cond}
use mathlib.Core.Logic.{◌⊎◌, ◌≢◌, inl, ⊎_elim}
use mathlib.Core.Path.{◌≡◌, ap, refl}
use Prim.Native.Nat.{◌+◌, ◌-◌, ◌<◌, ◌≤◌, min, suc, zero, ℕ}
use native.Mathlib.Decide.{ℕ_discrete}
use native.Mathlib.Nat.{eq-or-lt_of_le}
use native.Mathlib.Omega.{arith}
use lib.Dec.{eqb}
use borrow.Author.Tests.{eq-eqb, ne_eqb}
use Rattle.base.proofs.Search.{sum_same}
use Rattle.base.specs.Search.{sum_from}

pub sum_le : (x y : ℕ → ℕ) (i n : ℕ) → ((j : ℕ) → i ≤ j → j < i + n → x j ≤ y j) → sum_from x i n ≤ sum_from y i n
unfolding sum_from
sum_le x y i zero h = omega arith
sum_le x y i (suc n) h = omega (arith, h i (omega arith) (omega arith), sum_le x y (suc i) n (λ j a b. h j (omega arith) (omega arith)))

-- x with v at i
unfoldable pub put : ℕ → ℕ → (ℕ → ℕ) → ℕ → ℕ
put i v x j = cond (eqb j i) v (x j)

pub put_here : (i v : ℕ) (x : ℕ → ℕ) → put i v x i ≡ v
unfolding put
put_here i v x = rw (eq-eqb i i refl)

pub put_there : (i v : ℕ) (x : ℕ → ℕ) (j : ℕ) → j ≢ i → put i v x j ≡ x j
unfolding put
put_there i v x j h = rw (ne_eqb j i h)

-- what holds at i of v alone, and elsewhere of x and y, holds with v put into both: the one way in which the two cases are told apart
pub at_put : (P : ℕ → ℕ → ℕ → Type 0) (i v : ℕ) (x y : ℕ → ℕ) (j : ℕ) → (j ≡ i → P i v v) → (j ≢ i → P j (x j) (y j))
    → P j (put i v x j) (put i v y j)
at_put P i v x y j here there = go (ℕ_discrete j i)
  where
    go : Dec (j ≡ i) → P j (put i v x j) (put i v y j)
    go (yes e) = rw e (rw (put_here i v x, put_here i v y) (here e))
    go (no e) = rw (put_there i v x j e, put_there i v y j e) (there e)

-- a change outside the sum, and inside
pub sum_put_out : (i v : ℕ) (x : ℕ → ℕ) (a n : ℕ) → (i < a) ⊎ (a + n ≤ i) → sum_from (put i v x) a n ≡ sum_from x a n
sum_put_out i v x a n h =
    sum_same (put i v x) x a n (λ j l m. put_there i v x j (λ e. ⊎_elim (λ b. absurd (omega arith)) (λ b. absurd (omega arith)) h))

pub sum_put : (i v : ℕ) (x : ℕ → ℕ) (a n : ℕ) → a ≤ i → i < a + n → sum_from (put i v x) a n + x i ≡ sum_from x a n + v
unfolding sum_from
sum_put i v x a zero h l = absurd (omega arith)
sum_put i v x a (suc n) h l =
    ⊎_elim
    (λ e. let p : put i v x a ≡ v = rw e (put_here i v x) in
    let s = sum_put_out i v x (suc a) n (inl (omega arith)) in
    let q : x a ≡ x i = ap x e in
    omega arith)
    (λ m. let p = put_there i v x a (λ e. absurd (omega arith)) in omega (arith, sum_put i v x (suc a) n m (omega arith)))
    (eq-or-lt_of_le h)

-- x lies between l and h at each of n entries from i on
abbrev pub Within : (ℕ → ℕ) → (ℕ → ℕ) → ℕ → ℕ → (ℕ → ℕ) → Type 0
Within l h i n x = (j : ℕ) → i ≤ j → j < i + n → (l j ≤ x j) × (x j ≤ h j)

pub record Filled (l h : ℕ → ℕ) (i n s : ℕ) : Type 0 where
  pub choice : ℕ → ℕ
  pub within : Within l h i n choice
  pub sums : sum_from choice i n ≡ s

-- the first entry takes what the others can leave it
pub fill : (l h : ℕ → ℕ) (i n s : ℕ) → ((j : ℕ) → i ≤ j → j < i + n → l j ≤ h j) → sum_from l i n ≤ s → s ≤ sum_from h i n → Filled l h i n s
unfolding sum_from
fill l h i zero s o a b = record { choice = l; within = λ j p q. absurd (omega arith); sums = omega arith }
fill l h i (suc n) s o a b =
    let v : ℕ = min (h i) (s - sum_from l (suc i) n) in
    let here : l i ≤ h i = o i (omega arith) (omega arith) in
    let rest : sum_from l (suc i) n ≤ sum_from h (suc i) n = sum_le l h (suc i) n (λ j p q. o j (omega arith) (omega arith)) in
    let r = fill l h (suc i) n (s - v) (λ j p q. o j (omega arith) (omega arith)) (omega arith) (omega arith) in
    let first : (l i ≤ v) × (v ≤ h i) = (omega arith, omega arith) in
    record {
      choice = put i v r.choice;
      within = λ j p q. at_put (λ k x y. (l k ≤ x) × (y ≤ h k)) i v r.choice r.choice j (λ e. first) (λ e. r.within j (omega arith) (omega arith));
      sums =
          let e = sum_put_out i v r.choice (suc i) n (inl (omega arith)) in
          let g = put_here i v r.choice in
          let u = r.sums in
          omega arith;
    }
