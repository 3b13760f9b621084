-- Some choice within ordered ranges balances exactly where the two sides' spans meet. With v alone at entry i it is the same
-- question, of ranges that hold v alone there; and that is arithmetic on the entry's own ends.
use mathlib.Core.Bool.{cond}
use mathlib.Core.Logic.{◌⊎◌, ◌↔◌}
use mathlib.Core.Path.{◌≡◌, ap}
use Prim.Native.Nat.{◌+◌, ◌-◌, ◌<◌, ◌≤◌, max, ℕ}
use native.Mathlib.Omega.{arith}
use lib.Dec.{ltb}
use borrow.Author.Tests.{le-ltb, lt-ltb, ltb-false, ltb-true}
use Rattle.base.proofs.Reflect.{by_cases}
use Rattle.base.proofs.Search.{sum_same}
use Rattle.base.specs.Search.{Every, sum_from}
use Rattle.ranges.proofs.Meets.{Meet}
use Rattle.ranges.proofs.Sums.{at_put, fill, put, put_here, sum_le, sum_put, sum_put_out}
use Rattle.ranges.specs.Tighten.{span_of, tightest_in, lower_end, upper_end}
use Rattle.ranges.specs.declared.Range.{Range}

module _ (l h : ℕ → ℕ) where
  -- a choice within the ranges, by which four entries come to as much as the other four with t
  pub record Fits (t : ℕ) (x : ℕ → ℕ) : Type 0 where
    pub within : Every 8 (λ i. (l i ≤ x i) × (x i ≤ h i))
    pub balances : sum_from x 0 4 ≡ sum_from x 4 4 + t

  abbrev pub Feasible : ℕ → Type 0
  Feasible t = Meet (span_of l h 0 0) (span_of l h 4 t)

  pub feasible_only : (t : ℕ) (x : ℕ → ℕ) → Fits t x → Feasible t
  unfolding span_of
  feasible_only t x c =
      let a = sum_le l x 0 4 (λ j p q. (c.within j (omega arith)).0) in
      let b = sum_le x h 0 4 (λ j p q. (c.within j (omega arith)).1) in
      let d = sum_le l x 4 4 (λ j p q. (c.within j (omega arith)).0) in
      let e = sum_le x h 4 4 (λ j p q. (c.within j (omega arith)).1) in
      let z = c.balances in
      record { there = omega arith; back = omega arith }

  -- both sides come to the larger of their least sums
  pub feasible_some : (t : ℕ) → Every 8 (λ i. l i ≤ h i) → Feasible t → (x : ℕ → ℕ) × Fits t x
  unfolding span_of
  feasible_some t o m =
      let s : ℕ = max (sum_from l 0 4) (sum_from l 4 4 + t) in
      let there = m.there in
      let back = m.back in
      let li = sum_le l h 0 4 (λ j p q. o j (omega arith)) in
      let lo = sum_le l h 4 4 (λ j p q. o j (omega arith)) in
      let a = fill l h 0 4 s (λ j p q. o j (omega arith)) (omega arith) (omega arith) in
      let b = fill l h 4 4 (s - t) (λ j p q. o j (omega arith)) (omega arith) (omega arith) in
      let x : ℕ → ℕ = λ j. cond (ltb j 4) (a.choice j) (b.choice j) in
      let front : sum_from x 0 4 ≡ sum_from a.choice 0 4 =
      sum_same x a.choice 0 4 (λ j p q. ap (λ d. cond d (a.choice j) (b.choice j)) (lt-ltb j 4 (omega arith))) in
      let rear : sum_from x 4 4 ≡ sum_from b.choice 4 4 =
      sum_same x b.choice 4 4 (λ j p q. ap (λ d. cond d (a.choice j) (b.choice j)) (le-ltb j 4 p)) in
      let u = a.sums in
      let v = b.sums in (
        x,
        record {
          within = λ j q.
              by_cases (λ d. (l j ≤ cond d (a.choice j) (b.choice j)) × (cond d (a.choice j) (b.choice j) ≤ h j)) (ltb j 4)
              (λ e. let k = ltb-true j 4 e in a.within j (omega arith) (omega arith))
              (λ e. b.within j (ltb-false j 4 e) (omega arith));
          balances = omega arith;
        },
      )

-- ---- with v at entry i
module _ (l h : ℕ → ℕ) (t i v : ℕ) where
  pub fixed_only : (x : ℕ → ℕ) → Fits l h t x → x i ≡ v → Feasible (put i v l) (put i v h) t
  fixed_only x c e =
      feasible_only (put i v l) (put i v h) t x (record {
        within = λ j q. at_put (λ k y z. (y ≤ x k) × (x k ≤ z)) i v l h j (λ d. (omega arith, omega arith)) (λ d. c.within j q);
        balances = c.balances;
      })

  pub fixed_some : i < 8 → Every 8 (λ j. l j ≤ h j) → l i ≤ v → v ≤ h i → Feasible (put i v l) (put i v h) t → (x : ℕ → ℕ) × Fits l h t x × (x i ≡ v)
  fixed_some k o a b m =
      let found = feasible_some (put i v l) (put i v h) t (λ j q. at_put (λ _ y z. y ≤ z) i v l h j (λ d. omega arith) (λ d. o j q)) m in
      let x : ℕ → ℕ = found.0 in
      let within = found.1.within in
      let inner : Every 8 (λ j. (l j ≤ x j) × (x j ≤ h j)) = λ j q.
      at_put (λ n y z. (y ≤ x n) × (x n ≤ z) → (l n ≤ x n) × (x n ≤ h n)) i v l h j (λ d w. (omega arith, omega arith)) (λ d w. w) (within j q) in
      let here : (put i v l i ≤ x i) × (x i ≤ put i v h i) = within i k in
      let p = put_here i v l in
      let q = put_here i v h in
      (x, record { within = inner; balances = found.1.balances }, omega arith)

-- ---- and that is arithmetic on one entry: its own side is that from a on, with ta, the other that from b on, with tb
module _ (l h : ℕ → ℕ) (a ta b tb i v : ℕ) (from : a ≤ i) (to : i < a + 4) (apart : (i < b) ⊎ (b + 4 ≤ i)) where
  abbrev Own : Range
  Own = tightest_in (span_of l h a ta) (span_of l h b tb) (record { lowest = l i; highest = h i })

  pub fixed_within : Meet (span_of l h a ta) (span_of l h b tb)
      → ((Own.lowest ≤ v) × (v ≤ Own.highest)) ↔ (((l i ≤ v) × (v ≤ h i)) × Meet (span_of (put i v l) (put i v h) a ta) (span_of (put i v l) (put i v h) b tb))
  unfolding span_of tightest_in lower_end upper_end
  fixed_within m =
      let there = m.there in
      let back = m.back in
      let p = sum_put i v l a 4 from to in
      let q = sum_put i v h a 4 from to in
      let r = sum_put_out i v l b 4 apart in
      let s = sum_put_out i v h b 4 apart in (
        (λ w. ((omega arith, omega arith), record { there = omega arith; back = omega arith })),
        (λ w. let f = w.1.there in let g = w.1.back in (omega arith, omega arith)),
      )
