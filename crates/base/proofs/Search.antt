-- What the searches say, and rules by which a loop that counts up computes one.
-- A loop tests a callee's flag r, which is p i, and returns at the first that decides; its invariant says that none
-- below i has. Each rule takes the flag as the code has it, so `search (searches, needs)` closes every need.
use mathlib.Core.Bool.{Bool, ◌||◌, false, true, true≢false, ◌&&◌}
use mathlib.Core.Logic.{◌⊎◌, inl, inr, ⊎_elim}
use mathlib.Core.Path.{◌∙◌, ◌≡◌, ap, refl, sym}
use Prim.Native.Nat.{◌+◌, ◌-◌, ◌<◌, ◌≤◌, suc, zero, ℕ}
use native.Mathlib.Nat.{eq-or-lt_of_le, le_antisymm, le_of_suc-le-suc, le_refl, not-suc-le-zero, suc-add, zero-add}
use native.Mathlib.Numerals.{add-one}
use native.Mathlib.Omega.{arith}
use lib.Dec.{ltb}
use borrow.Author.Rules.{rules}
use borrow.Author.Tests.{le-ltb, ltb-false, not-false, not-true}
use Rattle.base.proofs.Reflect.{and_true, by_cases, not_true_false, or_intro, or_true}
use Rattle.base.specs.Reflect.{Reflects}
use Rattle.base.specs.Search.{Every, Least, Some, all_below, any_below, first_below, sum_from}

-- a number below suc n is n or below n
pub last_or_below : {n i : ℕ} → i < suc n → (i ≡ n) ⊎ (i < n)
last_or_below l = eq-or-lt_of_le (le_of_suc-le-suc l)

module _ (p : ℕ → Bool) where
  -- ---- some number below n passes
  pub any_intro : (n i : ℕ) → i < n → p i ≡ true → any_below n p ≡ true
  unfolding any_below
  any_intro zero i l e = absurd (not-suc-le-zero l)
  any_intro (suc n) i l e =
      or_intro (p n) (any_below n p) (⊎_elim (λ q. inl (sym (ap p q) ∙ e)) (λ m. inr (any_intro n i m e)) (last_or_below l))

  pub any_elim : (n : ℕ) → any_below n p ≡ true → Some n (λ i. p i ≡ true)
  unfolding any_below
  any_elim zero e = absurd (true≢false (sym e))
  any_elim (suc n) e =
      ⊎_elim
      (λ h. record { which = n; below = le_refl (suc n); has = h })
      (λ h. let s = any_elim n h in record { which = s.which; below = omega (arith, s.below); has = s.has })
      (or_true (p n) (any_below n p) e)

  pub any_none : (n : ℕ) → any_below n p ≡ false → (i : ℕ) → i < n → p i ≡ false
  any_none n e i l = not_true_false (p i) (λ t. true≢false (sym (any_intro n i l t) ∙ e))

  pub none_any : (n : ℕ) → ((i : ℕ) → i < n → p i ≡ false) → any_below n p ≡ false
  none_any n h = not_true_false (any_below n p) (λ t. let s = any_elim n t in true≢false (sym s.has ∙ h s.which s.below))

  -- ---- each number below n passes
  pub all_at : (n : ℕ) → all_below n p ≡ true → (i : ℕ) → i < n → p i ≡ true
  unfolding all_below
  all_at zero e i l = absurd (not-suc-le-zero l)
  all_at (suc n) e i l =
      let h = and_true (p n) (all_below n p) e in
      ⊎_elim (λ q. ap p q ∙ h.0) (λ m. all_at n h.1 i m) (last_or_below l)

  pub all_intro : (n : ℕ) → ((i : ℕ) → i < n → p i ≡ true) → all_below n p ≡ true
  unfolding all_below
  all_intro zero h = refl
  all_intro (suc n) h = simp (h n (le_refl (suc n)), all_intro n (λ i l. h i (omega arith)))

  -- ---- the least number below n that passes
  pub first_none : (n : ℕ) → any_below n p ≡ false → first_below n p ≡ n
  unfolding first_below
  first_none zero h = refl
  first_none (suc n) h = simp (none_any n (λ i l. any_none (suc n) h i (omega arith)), any_none (suc n) h n (le_refl (suc n)))

  pub first_is : (n i : ℕ) → i < n → any_below i p ≡ false → p i ≡ true → first_below n p ≡ i
  unfolding first_below
  first_is zero i l h e = absurd (not-suc-le-zero l)
  first_is (suc n) i l h e =
      ⊎_elim
      (λ q. simp (rw q at h, rw q at e, q))
      (λ m. simp (any_intro n i m e, first_is n i m h e))
      (last_or_below l)

  -- a search ends at the least number that passes, or none does
  abbrev Passes : ℕ → Type 0
  Passes i = p i ≡ true

  pub least_first : (n i : ℕ) → Least n Passes i → first_below n p ≡ i
  least_first n i s =
      first_is n i s.below (none_any i (λ k l. not_true_false (p k) (s.none_before k l))) s.has

  search_view : (n : ℕ) → ((i : ℕ) × Least n Passes i) ⊎ (any_below n p ≡ false)
  unfolding any_below
  search_view zero = inr refl
  search_view (suc n) =
      ⊎_elim
      (λ s. inl (wider s))
      (λ none.
      by_cases (λ b. ((i : ℕ) × Least (suc n) Passes i) ⊎ ((b || any_below n p) ≡ false)) (p n)
      (λ e. inl (n, record { below = le_refl (suc n); has = e; none_before = λ k l t. true≢false (sym t ∙ any_none n none k l) }))
      (λ e. inr none))
      (search_view n)
    where
      wider : (i : ℕ) × Least n Passes i → (i : ℕ) × Least (suc n) Passes i
      wider s = (s.0, record { below = omega (arith, s.1.below); has = s.1.has; none_before = s.1.none_before })

  pub first_least : (n : ℕ) → first_below n p < n → Least n Passes (first_below n p)
  first_least n l =
      ⊎_elim (λ s. rw (least_first n s.0 s.1) s.1) (λ none. absurd (omega (arith, first_none n none))) (search_view n)

  pub first_le : (n : ℕ) → first_below n p ≤ n
  first_le n =
      ⊎_elim (λ s. omega (arith, least_first n s.0 s.1, s.1.below)) (λ none. omega (arith, first_none n none)) (search_view n)

  pub first_any : (n : ℕ) → any_below n p ≡ true → first_below n p < n
  first_any n e =
      ⊎_elim (λ s. rw (least_first n s.0 s.1) s.1.below) (λ none. absurd (true≢false (sym e ∙ none))) (search_view n)

  -- a search that ends past the bound found none
  pub unfound : (n : ℕ) → ltb (first_below n p) n ≡ false → first_below n p ≡ n
  unfound n e = omega (arith, ltb-false (first_below n p) n e, first_le n)

  pub found_none : (n : ℕ) → first_below n p ≡ n → ltb (first_below n p) n ≡ false
  found_none n e = le-ltb (first_below n p) n (omega (arith, e))

-- ---- searches decide what they say
module _ {p : ℕ → Bool} {P : ℕ → Type 0} (n : ℕ) (r : (i : ℕ) → i < n → Reflects (p i) (P i)) where
  pub reflect_any : Reflects (any_below n p) (Some n P)
  reflect_any = record {
    sound = λ e. let s = any_elim p n e in record { which = s.which; below = s.below; has = (r s.which s.below).sound s.has };
    complete = λ s. any_intro p n s.which s.below ((r s.which s.below).complete s.has);
  }

  pub reflect_all : Reflects (all_below n p) (Every n P)
  reflect_all = record {
    sound = λ e i l. (r i l).sound (all_at p n e i l);
    complete = λ h. all_intro p n (λ i l. (r i l).complete (h i l));
  }

  -- the search finds i exactly where i is the least with P
  pub first_sound : (i : ℕ) → i < n → first_below n p ≡ i → Least n P i
  first_sound i l e =
      let s = rw e at (first_least p n (rw e l)) in
      record { below = l; has = (r i l).sound s.has; none_before = λ k m h. s.none_before k m ((r k (omega arith)).complete h) }

  pub first_complete : (i : ℕ) → Least n P i → first_below n p ≡ i
  first_complete i s =
      least_first p n i (record {
        below = s.below;
        has = (r i s.below).complete s.has;
        none_before = λ k m e. s.none_before k m ((r k (omega (arith, s.below))).sound e);
      })

  -- it finds none exactly where none has P
  pub first_end_sound : first_below n p ≡ n → Every n (λ i. P i → ⊥)
  first_end_sound e i l h = absurd (omega (arith, first_any p n (any_intro p n i l ((r i l).complete h))))

  pub first_end_complete : Every n (λ i. P i → ⊥) → first_below n p ≡ n
  first_end_complete h = first_none p n (none_any p n (λ i l. not_true_false (p i) (λ e. h i l ((r i l).sound e))))

-- equal tests give equal searches
pub any_same : (p q : ℕ → Bool) (n : ℕ) → ((i : ℕ) → i < n → p i ≡ q i) → any_below n p ≡ any_below n q
unfolding any_below
any_same p q zero h = refl
any_same p q (suc n) h = rw (h n (le_refl (suc n)), any_same p q n (λ i l. h i (omega arith)))

-- a test that all have in common can stand before the search
pub any_and : (b : Bool) (p : ℕ → Bool) (n : ℕ) → any_below n (λ e. b && p e) ≡ (b && any_below n p)
any_and true p n = refl
any_and false p n = none_any (λ e. false) n (λ i l. refl)

pub first_same : (p q : ℕ → Bool) (n : ℕ) → ((i : ℕ) → i < n → p i ≡ q i) → first_below n p ≡ first_below n q
unfolding first_below
first_same p q zero h = refl
first_same p q (suc n) h =
    let rest : (i : ℕ) → i < n → p i ≡ q i = λ i l. h i (omega arith) in
    rw (h n (le_refl (suc n)), any_same p q n rest, first_same p q n rest)

-- ---- the rules of a loop
module _ (p : ℕ → Bool) where
  pub any_start : any_below 0 p ≡ false
  unfolding any_below
  any_start = refl

  pub any_more : (i : ℕ) (r : Bool) → r ≡ p i → r ≡ false → any_below i p ≡ false → any_below (i + 1) p ≡ false
  unfolding any_below
  any_more i r q f h = rw add-one (simp (sym q ∙ f, h))

  pub any_found : (n i : ℕ) (r : Bool) → r ≡ p i → r ≡ true → i < n → true ≡ any_below n p
  any_found n i r q t l = sym (any_intro p n i l (sym q ∙ t))

  pub any_end : (n i : ℕ) → any_below i p ≡ false → i ≤ n → n ≤ i → false ≡ any_below n p
  any_end n i h a b = sym (rw (le_antisymm a b) at h)

  pub first_at : (n i : ℕ) (r : Bool) → r ≡ p i → r ≡ true → any_below i p ≡ false → i < n → i ≡ first_below n p
  first_at n i r q t h l = sym (first_is p n i l h (sym q ∙ t))

  pub first_past : (n i : ℕ) → any_below i p ≡ false → i ≤ n → n ≤ i → n ≡ first_below n p
  first_past n i h a b = sym (first_none p n (rw (le_antisymm a b) at h))

  pub all_start : all_below 0 p ≡ true
  unfolding all_below
  all_start = refl

  pub all_more : (i : ℕ) (r : Bool) → r ≡ p i → r ≡ true → all_below i p ≡ true → all_below (i + 1) p ≡ true
  unfolding all_below
  all_more i r q t h = rw add-one (simp (sym q ∙ t, h))

  pub all_failed : (n i : ℕ) (r : Bool) → r ≡ p i → r ≡ false → i < n → false ≡ all_below n p
  all_failed n i r q f l =
      sym (not_true_false (all_below n p) (λ e. true≢false (sym (all_at p n e i l) ∙ sym q ∙ f)))

  pub all_end : (n i : ℕ) → all_below i p ≡ true → i ≤ n → n ≤ i → true ≡ all_below n p
  all_end n i h a b = sym (rw (le_antisymm a b) at h)

-- `not-true` and `not-false` serve a flag that the loop negates
pub ruleset searches = (
  any_start,
  any_more,
  any_found,
  any_end,
  first_at,
  first_past,
  all_start,
  all_more,
  all_failed,
  all_end,
  not-true,
  not-false,
)

pub ruleset loops = (searches, rules)

-- the invariant of a loop that returns at the first of n numbers that passes
abbrev pub NoneBefore : ℕ → (ℕ → Bool) → ℕ → Type 0
NoneBefore n p i = (i ≤ n) × (any_below i p ≡ false)

-- ---- the loop `for i in 0..k { sum += f(n + i); }`, whose invariant is `sum + sum_from f (n + i) (k - i) ≡ r`
module _ (f : ℕ → ℕ) (n k r : ℕ) where
  pub sum_start : sum_from f n k ≡ r → 0 + sum_from f (n + 0) (k - 0) ≡ r
  sum_start e = let a : n + 0 ≡ n = omega arith in let b : k - 0 ≡ k = omega arith in rw (a, b) (omega (arith, e))

  pub sum_next : (i acc : ℕ) → i < k → acc + sum_from f (n + i) (k - i) ≡ r → acc + f (n + i) + sum_from f (n + (i + 1)) (k - (i + 1)) ≡ r
  unfolding sum_from
  sum_next i acc h e =
      let a : k - i ≡ suc (k - (i + 1)) = omega arith in
      let b : n + (i + 1) ≡ suc (n + i) = omega arith in
      rw b (omega (arith, rw a at e))

  pub sum_end : (i acc : ℕ) → k ≤ i → acc + sum_from f (n + i) (k - i) ≡ r → acc ≡ r
  unfolding sum_from
  sum_end i acc h e = let a : k - i ≡ 0 = omega arith in omega (arith, rw a at e)

-- equal terms give equal sums
pub sum_same : (f g : ℕ → ℕ) (n k : ℕ) → ((i : ℕ) → n ≤ i → i < n + k → f i ≡ g i) → sum_from f n k ≡ sum_from g n k
unfolding sum_from
sum_same f g n zero h = refl
sum_same f g n (suc k) h = rw (h n (omega arith) (omega arith), sum_same f g (suc n) k (λ i a b. h i (omega arith) (omega arith)))

-- the start of a sum, at another number
from_at : (f : ℕ → ℕ) (k n m : ℕ) → n ≡ m → sum_from f n k ≡ sum_from f m k
from_at f k n m e = ap (λ (a : ℕ). sum_from f a k) e

-- a sum from n + m on is one from m on of what stands n further
pub sum_from_lem : (f : ℕ → ℕ) (n m k : ℕ) → sum_from f (n + m) k ≡ sum_from (λ i. f (n + i)) m k
unfolding sum_from
sum_from_lem f n m zero = refl
sum_from_lem f n m (suc k) =
    ap (λ (x : ℕ). f (n + m) + x) (from_at f k (suc (n + m)) (n + suc m) (omega arith) ∙ sum_from_lem f n (suc m) k)

-- a sum of k + m terms is one of k and one of m
pub sum_append : (f : ℕ → ℕ) (n k m : ℕ) → sum_from f n (k + m) ≡ sum_from f n k + sum_from f (n + k) m
unfolding sum_from
sum_append f n zero m =
    rw (zero-add m) (omega (arith, from_at f m n (n + 0) (omega arith)))
sum_append f n (suc k) m =
    rw suc-add (omega (arith, sum_append f (suc n) k m, from_at f m (suc n + k) (n + suc k) (omega arith)))
