-- A search over a range by an iterator, `(0..n).all(..)`, `any` or `find`, is the search that a contract names: the iterator gives the numbers below n in their
-- order, and the closure, which changes nothing, computes the test.
use Rattle.std.specs.Prelude.{◌≡◌, Bool, true, false, ℕ, ◌<◌, ◌≤◌, ◌+◌, ◌-◌, length, Option, Some, None, get_or, List}
use Rattle.std.specs.Bool.{MatchBool}
use Rattle.std.specs.Option.{MatchOption}
use Rattle.std.specs.List.{range_with_len, AllWithin, HoldsAt}
use Rattle.std.specs.declared.ops.Range.{Range}
use Rattle.std.specs.Fn.{Called, CalledAt}
use Rattle.std.specs.Iterator.{ChecksAll, ChecksAny, FindsItem, ActsAs, ActsAsAt}
use Rattle.std.proofs.iter.Yields.{nat_range_steps}
use Rattle.std.proofs.lemmas.Iterator.{cases_from_all, cases_from_any, first_from_Range, YieldsList-from_range}
use Rattle.std.proofs.lemmas.List.FromFn.{length-range_with_len, get_or-range_with_len}
use denote.Param.Members.{Mut}
use denote.Ref.{Bor}
use mathlib.Core.Bool.{true≢false}
use mathlib.Core.Path.{refl, sym, ◌∙◌, ap}
use native.Mathlib.Omega.{arith}
use Rattle.base.proofs.Reflect.{not_true_false}
use Rattle.base.proofs.Search.{all_intro, all_at, any_intro, none_any, first_is, first_none}
use Rattle.base.specs.Search.{FirstFound, all_below, any_below, first_below}

module _ {F : Type 0} {g : Mut F (ℕ × Unit {0}) Bool} {s : Range ℕ} (u : Range ℕ) (f : F) (n : ℕ) (r : Bool) (p : ℕ → Bool) (from : s ≡ record { start = 0; end = n }) (acts : ActsAs g f p) where
  abbrev numbers : List ℕ
  numbers = range_with_len 0 n

  number : (k : ℕ) → k < length numbers → (get_or numbers k 0 ≡ k) × (k < n)
  number k l = let b : k < n = omega (arith, length-range_with_len 0 n) in (omega (arith, get_or-range_with_len 0 n k 0 b), b)

  pub all_of_range : ChecksAll nat_range_steps g s f r u → r ≡ all_below n p
  all_of_range ran =
      by r (cases_from_all u f r (λ x. p x ≡ true) (λ x. p x ≡ false) ran (YieldsList-from_range 0 n n from (omega arith))
      (λ x q k. let h = acts x true q k in (h.0, sym h.1)) (λ x q k. sym (acts x false q k).1))
    where
      by : (b : Bool) → MatchBool b (AllWithin (λ x. p x ≡ true) numbers 0 (length numbers)) ((k : ℕ) × (k < length numbers) × HoldsAt (λ x. p x ≡ false) numbers k)
          → b ≡ all_below n p
      by true h = sym (all_intro p n (λ i l. let b : i < length numbers = omega (arith, length-range_with_len 0 n) in ap p (sym (number i b).0) ∙ h i 0 (omega arith) b))
      by false h =
          sym (not_true_false (all_below n p) (λ t. let m = number h.0 h.1 in true≢false (sym (all_at p n t h.0 m.1) ∙ ap p (sym m.0) ∙ h.2 0)))

  pub any_of_range : ChecksAny nat_range_steps g s f r u → r ≡ any_below n p
  any_of_range ran =
      by r (cases_from_any u f r (λ x. p x ≡ true) (λ x. p x ≡ false) ran (YieldsList-from_range 0 n n from (omega arith))
      (λ x q k. sym (acts x true q k).1) (λ x q k. let h = acts x false q k in (h.0, sym h.1)))
    where
      by : (b : Bool) → MatchBool b ((k : ℕ) × (k < length numbers) × HoldsAt (λ x. p x ≡ true) numbers k) (AllWithin (λ x. p x ≡ false) numbers 0 (length numbers))
          → b ≡ any_below n p
      by true h = let m = number h.0 h.1 in sym (any_intro p n h.0 m.1 (ap p (sym m.0) ∙ h.2 0))
      by false h = sym (none_any p n (λ i l. let b : i < length numbers = omega (arith, length-range_with_len 0 n) in ap p (sym (number i b).0) ∙ h i 0 (omega arith) b))

pub first_of_range : {F : Type 0} {g : Mut F (Bor ℕ × Unit {0}) Bool} {s : Range ℕ} (u : Range ℕ) (f : F) (n : ℕ) (r : Option ℕ) (p : ℕ → Bool)
    → s ≡ record { start = 0; end = n } → ActsAsAt g f p → FindsItem nat_range_steps g s f r u → FirstFound n p r
first_of_range {s = s} u f n r p from acts ran =
    by r (first_from_Range s u f r (λ x. p x ≡ true) (λ x. p x ≡ false) ran (λ x q k. sym (acts x true q k).1) (λ x q k. let h = acts x false q k in (h.0, sym h.1)))
  where
    start : s.start ≡ 0
    start = ap (λ (t : Range ℕ). t.start) from

    end : s.end ≡ n
    end = ap (λ (t : Range ℕ). t.end) from

    by : (o : Option ℕ) → MatchOption o ((k : ℕ) → s.start ≤ k → k < s.end → p k ≡ false) (λ i. (s.start ≤ i) × (i < s.end) × (p i ≡ true) × ((k : ℕ) → s.start ≤ k → k < i → p k ≡ false))
        → FirstFound n p o
    by None h = first_none p n (none_any p n (λ i l. h i (omega (arith, start)) (omega (arith, end))))
    by (Some i) h = let l : i < n = omega (arith, end, h.1) in (l, first_is p n i l (none_any p i (λ k m. h.3 k (omega (arith, start)) m)) h.2)
