-- A set has at least m members exactly where `ones` counts as many. Those that it has can be listed; and a list of different members is
-- itself a set, of as many members as the list is long, within the whole.
use mathlib.Core.Bool.{cond, true, true≢false}
use mathlib.Core.List.{List, [], ◌∷◌}
use mathlib.Core.Logic.{inl, inr}
use mathlib.Core.Path.{◌∙◌, ◌≡◌, ap, refl, sym}
use Prim.Native.Nat.{◌+◌, ◌<◌, ◌^◌, ◌≤◌, suc, zero, ℕ}
use native.Mathlib.Omega.{arith}
use lib.Count.{ones, ones-ones}
use lib.Dec.{eqb, leb}
use lib.ListN.{length}
use lib.Pow.{pow_pos}
use borrow.Author.Tests.{eqb-false, eqb-true}
use Rattle.base.proofs.Members.{distinct_keep, keep_in}
use Rattle.base.proofs.Reflect.{by_cases, by_test, not_true_false, reflect_as, reflect_le}
use Rattle.base.specs.Lists.{Distinct, In, keep_if}
use Rattle.base.specs.Reflect.{Reflects}
use Rattle.base.specs.Search.{sum_from}
use Rattle.sets.proofs.Bits.{bit_of_has, has_none, has_with_other, ones_counts, ones_subset, ones_with, reflect_subset}
use Rattle.sets.specs.Bits.{bit, has_bit, with_bit}
use Rattle.sets.specs.Quorum.{AtLeast}

-- any number is a set of as many bits
pub below_power : (k : ℕ) → k < 2 ^ k
below_power zero = pow_pos 0
below_power (suc k) = omega (arith, below_power k)

-- ---- the members, listed
numbers : ℕ → ℕ → List ℕ
numbers a zero = []
numbers a (suc k) = a ∷ numbers (suc a) k

numbers_from : (a k i : ℕ) → In i (numbers a k) → a ≤ i
unfolding numbers
numbers_from a zero i m = absurd m
numbers_from a (suc k) i (inl e) = omega (arith, e)
numbers_from a (suc k) i (inr m) = omega (arith, numbers_from (suc a) k i m)

numbers_once : (a k : ℕ) → Distinct (numbers a k)
unfolding numbers
numbers_once a zero = tt
numbers_once a (suc k) = ((λ m. let h = numbers_from (suc a) k a m in omega (arith, h)), numbers_once (suc a) k)

counted : (s a k : ℕ) → length (keep_if (has_bit s) (numbers a k)) ≡ sum_from (λ i. bit s i) a k
unfolding numbers sum_from
counted s a zero = refl
counted s a (suc k) =
    let rest = keep_if (has_bit s) (numbers (suc a) k) in
    by_cases (λ b. bit s a ≡ cond b 1 0 → length (cond b (a ∷ rest) rest) ≡ bit s a + sum_from (λ i. bit s i) (suc a) k) (has_bit s a)
    (λ _ e. omega (arith, e, counted s (suc a) k)) (λ _ e. omega (arith, e, counted s (suc a) k)) (bit_of_has s a)

listed : (s : ℕ) → AtLeast (ones s) s
listed s = record {
  members = keep_if (has_bit s) (numbers 0 s);
  once = distinct_keep (has_bit s) (numbers 0 s) (numbers_once 0 s);
  each = λ i m. (keep_in (has_bit s) (numbers 0 s) i m).1;
  enough = omega (arith, counted s 0 s, ones_counts s s (below_power s));
}

-- ---- a list as a set
set_of : List ℕ → ℕ
set_of [] = 0
set_of (i ∷ l) = with_bit (set_of l) i

set_in_lem : (l : List ℕ) (i : ℕ) → has_bit (set_of l) i ≡ true → In i l
unfolding set_of
set_in_lem [] i h = absurd (true≢false (sym h ∙ has_none i))
set_in_lem (x ∷ l) i h =
    by_test (eqb i x) (λ e. inl (eqb-true i x e)) (λ e. inr (set_in_lem l i (sym (has_with_other (set_of l) x i (eqb-false i x e)) ∙ h)))

set_ones : (l : List ℕ) → Distinct l → ones (set_of l) ≡ length l
unfolding set_of
set_ones [] d = ones-ones 0
set_ones (x ∷ l) (nx, d) = ones_with (set_of l) x (not_true_false _ (λ h. nx (set_in_lem l x h))) ∙ ap suc (set_ones l d)

counts : (m s : ℕ) → AtLeast m s → m ≤ ones s
counts m s a =
    let l = a.members in
    let w = set_of l in
    let within = (reflect_subset w w s (below_power w)).complete (λ i b h. a.each i (set_in_lem l i h)) in
    omega (arith, a.enough, set_ones l a.once, ones_subset w w s (below_power w) within)

pub reflect_at_least : (m s : ℕ) → Reflects (leb m (ones s)) (AtLeast m s)
reflect_at_least m s =
    reflect_as (reflect_le m (ones s))
    (λ h. let a = listed s in record { members = a.members; once = a.once; each = a.each; enough = omega (arith, h, a.enough) })
    (counts m s)
