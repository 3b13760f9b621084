-- The triangle's rule, by one computed test over the whole of it; by the rule and the law of C each entry is C of its row and place.
use mathlib.Core.Bool.{Bool, cond, true}
use mathlib.Core.Path.{◌∙◌, ◌≡◌, refl, sym}
use Prim.Native.Nat.{◌+◌, ◌<◌, ◌≤◌, suc, zero, ℕ}
use native.Mathlib.Omega.{arith}
use lib.Dec.{eqb, leb, ltb}
use borrow.Author.Tests.{eq-eqb, eqb-true, leb-true, ltb-false, ltb-true, ne_eqb}
use Rattle.base.proofs.Reflect.{by_cases}
use Rattle.base.proofs.Search.{all_at}
use Rattle.base.specs.Search.{all_below}
use Rattle.binomials.proofs.Binomials.{choose_first, choose_last, choose_sum}
use Rattle.binomials.specs.Binomials.{choose}
use Rattle.binomials.specs.Triangle.{Pascal, entry_at}

-- a test over rows and places is a fact at each
pub at_both : (p : ℕ → ℕ → Bool) (rows : ℕ) (places : ℕ → ℕ) → all_below rows (λ n. all_below (places n) (p n)) ≡ true → (n k : ℕ) → n < rows → k < places n
    → p n k ≡ true
at_both p rows places e n k h l = all_at (p n) (places n) (all_at (λ n. all_below (places n) (p n)) rows e n h) k l

-- 1 at both ends, elsewhere the sum of the two above
rule_at : ℕ → ℕ → ℕ
rule_at n zero = 1
rule_at zero (suc k) = 0
rule_at (suc n) (suc k) = cond (eqb k n) 1 (entry_at n k + entry_at n (suc k))

whole : all_below 17 (λ n. all_below (suc n) (λ k. eqb (entry_at n k) (rule_at n k))) ≡ true
unfolding all_below entry_at rule_at
whole = refl

by_rule : (n k : ℕ) → n ≤ 16 → k ≤ n → entry_at n k ≡ rule_at n k
by_rule n k h l =
    eqb-true (entry_at n k) (rule_at n k) (at_both (λ n k. eqb (entry_at n k) (rule_at n k)) 17 suc whole n k (omega (arith, h)) (omega (arith, l)))

entry_first : (n : ℕ) → n ≤ 16 → entry_at n 0 ≡ 1
unfolding rule_at
entry_first n h = by_rule n 0 h (omega arith)

entry_last : (n : ℕ) → n ≤ 16 → entry_at n n ≡ 1
unfolding rule_at
entry_last zero h = by_rule 0 0 h (omega arith)
entry_last (suc n) h = by_rule (suc n) (suc n) h (omega arith) ∙ simp (eq-eqb n n refl)

entry_sum : (n k : ℕ) → n < 16 → k < n → entry_at (suc n) (suc k) ≡ entry_at n k + entry_at n (suc k)
unfolding rule_at
entry_sum n k h l = by_rule (suc n) (suc k) h (omega (arith, l)) ∙ simp (ne_eqb k n (λ e. absurd (omega (arith, e, l))))

-- by the rule and the law of C
entry_choose : (n k : ℕ) → n ≤ 16 → k ≤ n → entry_at n k ≡ choose n k
entry_choose n zero h l = entry_first n h ∙ sym (choose_first n)
entry_choose zero (suc k) h l = absurd (omega (arith, l))
entry_choose (suc n) (suc k) h l =
    by_cases (λ _. entry_at (suc n) (suc k) ≡ choose (suc n) (suc k)) (ltb k n)
    (λ e.
    let i = ltb-true k n e in
    let left = entry_choose n k (omega (arith, h)) (omega (arith, i)) in
    let right = entry_choose n (suc k) (omega (arith, h)) i in
    entry_sum n k h i ∙ rw (left, right) (sym (choose_sum n k i)))
    (λ e. let q : k ≡ n = omega (arith, l, ltb-false k n e) in rw q (entry_last (suc n) h ∙ sym (choose_last (suc n))))

pub pascal : Pascal entry_at
pascal = record { first = entry_first; last = entry_last; inner = entry_sum; is_choose = entry_choose }

-- the largest of them is in the middle of row 16
none_larger : all_below 17 (λ n. all_below 17 (λ k. leb (entry_at n k) 12870)) ≡ true
unfolding all_below entry_at
none_larger = refl

pub choose_bound : (n k : ℕ) → n ≤ 16 → k ≤ n → choose n k ≤ 12870
choose_bound n k h l =
    let t = at_both (λ n k. leb (entry_at n k) 12870) 17 (λ _. 17) none_larger n k (omega (arith, h)) (omega (arith, h, l)) in
    rw (sym (entry_choose n k h l)) (leb-true (entry_at n k) 12870 t)
