-- Of an estimate whose ranges are ordered: the test of 25 decides whether some choice balances, and the ranges that are answered then
-- are the tightest. No other ranges are.
use mathlib.Core.Bool.{cond, true}
use mathlib.Core.List.{List}
use mathlib.Core.Logic.{◌↔◌, inl, inr}
use mathlib.Core.Path.{◌∙◌, ◌≡◌, refl, sym}
use Prim.Native.Nat.{◌<◌, ◌≤◌, ℕ}
use native.Mathlib.Nat.{zero-add}
use native.Mathlib.Omega.{arith}
use lib.Dec.{eqb, ltb}
use lib.ListN.{length}
use lib.Seq.{ext_get_or}
use borrow.Author.Tests.{eqb-false, eqb-true, ltb-false, ltb-true}
use Rattle.base.proofs.Reflect.{by_cases, by_test}
use Rattle.base.specs.Reflect.{Reflects}
use Rattle.base.specs.Search.{Every}
use Rattle.ranges.proofs.Feasible.{Feasible, Fits, feasible_only, feasible_some, fixed_only, fixed_some, fixed_within}
use Rattle.ranges.proofs.Lists.{list_at, list_length}
use Rattle.ranges.proofs.Meets.{migration_meets, reflect_meets, turned}
use Rattle.ranges.proofs.Sums.{at_put, put, put_here}
use Rattle.ranges.specs.Meaning.{Balancing, Possible, Tightest}
use Rattle.ranges.specs.Ranges.{high, list_from, low, no_range, range_at}
use Rattle.ranges.specs.Tighten.{can_balance, inflow, meets, outflow, tightest_at, tightest_by, tightest_in, tightest_of}
use Rattle.ranges.specs.declared.Estimate.{Estimate}
use Rattle.ranges.specs.declared.Range.{Range}

-- v lies in the range
abbrev Holds : Range → ℕ → Type 0
Holds r v = (r.lowest ≤ v) × (v ≤ r.highest)

module _ (e : Estimate) where
  fits : (x : ℕ → ℕ) → e.kind ≡ 1 → Balancing e x → Fits (low e) (high e) e.trimmed x
  fits x k c = record { within = c.within; balances = c.balances k }

  balancing : (x : ℕ → ℕ) → Fits (low e) (high e) e.trimmed x → Balancing e x
  balancing x c = record { within = c.within; balances = λ _. c.balances }

  migration_feasible : e.kind ≡ 1 → can_balance e ≡ true → Feasible (low e) (high e) e.trimmed
  unfolding inflow outflow
  migration_feasible k t = (reflect_meets (inflow e) (outflow e)).sound (sym (migration_meets e k) ∙ t)

  -- ---- an entry's range
  module _ (ordered : Every 8 (λ i. low e i ≤ high e i)) (i v : ℕ) (entry : i < 8) where
    -- of a migration: v is in the old range, and with v alone there some choice balances
    abbrev Fixed : Type 0
    Fixed = ((low e i ≤ v) × (v ≤ high e i)) × Feasible (put i v (low e)) (put i v (high e)) e.trimmed

    possible : Fixed → Possible e i v
    possible w =
        let c = fixed_some (low e) (high e) e.trimmed i v entry ordered w.0.0 w.0.1 w.1 in
        (c.0, balancing c.0 c.1, c.2)

    feasible : e.kind ≡ 1 → Possible e i v → Fixed
    feasible k c =
        let w = c.1.within i entry in
        let at = c.2 in
        ((omega arith, omega arith), fixed_only (low e) (high e) e.trimmed i v c.0 (fits c.0 k c.1) at)

    moved : e.kind ≡ 1 → Feasible (low e) (high e) e.trimmed → Holds (tightest_at e i) v ↔ Possible e i v
    unfolding tightest_at tightest_by inflow outflow
    moved k m =
        let l = low e in
        let h = high e in
        let t = e.trimmed in
        let r = range_at e.ranges i in
        by_cases
        (λ b. Holds (cond b (tightest_in (inflow e) (outflow e) r) (tightest_in (outflow e) (inflow e) r)) v ↔ Possible e i v)
        (ltb i 4)
        (λ d.
        let k4 = ltb-true i 4 d in
        let f = fixed_within l h 0 0 4 t i v (omega arith) k4 (inl k4) m in
        ((λ w. possible (f.0 w)), (λ c. f.1 (feasible k c))))
        (λ d.
        let k4 = ltb-false i 4 d in
        let f = fixed_within l h 4 t 0 0 i v k4 entry (inr k4) (turned m) in
        ((λ w. let g = f.0 w in possible (g.0, turned g.1)), (λ c. let g = feasible k c in f.1 (g.0, turned g.1))))

    -- of an accession: the others have their lowest counts
    kept : (e.kind ≡ 1 → ⊥) → Holds (range_at e.ranges i) v ↔ Possible e i v
    kept n = (
      (λ w. (
        put i v (low e),
        record {
          within = λ j q.
              at_put (λ n y _. (low e n ≤ y) × (y ≤ high e n)) i v (low e) (low e) j (λ d. w) (λ d. (omega arith, ordered j q));
          balances = λ k. absurd (n k);
        },
        put_here i v (low e),
      )),
      (λ c. let w = c.1.within i entry in let at = c.2 in (omega arith, omega arith)),
    )

    pub exact : can_balance e ≡ true → Holds (range_at (tightest_of e) i) v ↔ Possible e i v
    unfolding tightest_of
    exact t =
        by_cases (λ b. Holds (range_at (cond b (list_from (tightest_at e) 0 8) e.ranges) i) v ↔ Possible e i v) (eqb e.kind 1)
        (λ d. let k = eqb-true e.kind 1 d in rw (list_at (tightest_at e) 0 8 i no_range entry, zero-add i) (moved k (migration_feasible k t)))
        (λ d. kept (eqb-false e.kind 1 d))

  -- ---- 25
  pub reflect_balance : Every 8 (λ i. low e i ≤ high e i) → Reflects (can_balance e) ((x : ℕ → ℕ) × Balancing e x)
  unfolding can_balance inflow outflow
  reflect_balance ordered = record {
    sound = λ t.
        by_test (eqb e.kind 1)
        (λ d.
        let found = feasible_some (low e) (high e) e.trimmed ordered (migration_feasible (eqb-true e.kind 1 d) t) in
        (found.0, balancing found.0 found.1))
        (λ d. (low e, record { within = λ i q. (omega arith, ordered i q); balances = λ k. absurd (eqb-false e.kind 1 d k) }));
    complete = λ c.
        by_cases (λ b. cond b (meets (inflow e) (outflow e)) true ≡ true) (eqb e.kind 1)
        (λ d.
        (reflect_meets (inflow e) (outflow e)).complete
        (feasible_only (low e) (high e) e.trimmed c.0 (fits c.0 (eqb-true e.kind 1 d) c.1)))
        (λ d. refl);
  }

  -- ---- the tightest ranges
  eight : length e.ranges ≡ 8 → length (tightest_of e) ≡ 8
  unfolding tightest_of
  eight n = by_cases (λ b. length (cond b (list_from (tightest_at e) 0 8) e.ranges) ≡ 8) (eqb e.kind 1) (λ d. list_length (tightest_at e) 0 8) (λ d. n)

  pub tightest : length e.ranges ≡ 8 → Every 8 (λ i. low e i ≤ high e i) → can_balance e ≡ true → Tightest e (tightest_of e)
  tightest n ordered t =
      let some = (reflect_balance ordered).sound t in
      let around : (i : ℕ) → i < 8 → Holds (range_at (tightest_of e) i) (some.0 i) = λ i q. (exact ordered i (some.0 i) q t).1 (some.0, some.1, refl) in
      record {
        eight = eight n;
        lowest = λ i q. let w = around i q in (exact ordered i _ q t).0 (omega arith, omega arith);
        highest = λ i q. let w = around i q in (exact ordered i _ q t).0 (omega arith, omega arith);
        between = λ i q v a b. (exact ordered i v q t).0 (a, b);
        none_outside = λ i q v c. (exact ordered i v q t).1 c;
      }

  -- ---- and no others
  same_range : (r s : Range) → r.lowest ≡ s.lowest → r.highest ≡ s.highest → r ≡ s
  same_range r s p q i = record { lowest = p i; highest = q i }

  pub one_tightest : (a b : List Range) → Tightest e a → Tightest e b → a ≡ b
  one_tightest a b s t =
      ext_get_or no_range a b (s.eight ∙ sym t.eight) (λ i l.
      let q : i < 8 = omega (arith, s.eight) in
      let lower = t.none_outside i q _ (s.lowest i q) in
      let upper = t.none_outside i q _ (s.highest i q) in
      let lower_back = s.none_outside i q _ (t.lowest i q) in
      let upper_back = s.none_outside i q _ (t.highest i q) in
      same_range (range_at a i) (range_at b i) (omega arith) (omega arith))
