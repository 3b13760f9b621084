-- Where each input of the job at p has one creator before p, `generation_at` is what the sentence says, and only that.
use mathlib.Core.Bool.{true≢false}
use mathlib.Core.Logic.{⊎_elim}
use mathlib.Core.Path.{◌∙◌, ◌≡◌, ap, sym}
use Prim.Native.Nat.{◌<◌, ◌≤◌, suc, zero, ℕ}
use native.Mathlib.Nat.{eq-or-lt_of_le, le_antisymm, le_of_suc-le-suc, le_refl, not-suc-le-zero}
use native.Mathlib.Omega.{arith}
use Rattle.base.proofs.Reflect.{not_true_false}
use Rattle.base.proofs.Search.{any_elim, any_none, least_first}
use Rattle.base.specs.Search.{Some, any_below}
use Rattle.record.specs.Entries.{is_used}
use Rattle.record.specs.declared.Job.{Job}
use Rattle.generations.proofs.Ages.{by_test, generation_is, input_from, input_none, lt_or_le, none_from}
use Rattle.generations.specs.Generations.{created_at, creator_of, generation_at, highest}
use Rattle.generations.specs.Meaning.{Created, Generations, InputAt}
use Rattle.generations.specs.Memo.{from_input}

-- none is above the largest, and one that is not 0 is reached
highest_above : (k : ℕ) (f : ℕ → ℕ) (e : ℕ) → e < k → f e ≤ highest k f
unfolding highest
highest_above zero f e l = absurd (not-suc-le-zero l)
highest_above (suc k) f e l =
    ⊎_elim
    (λ q. omega (arith, ap f q))
    (λ m. omega (arith, highest_above k f e m))
    (eq-or-lt_of_le (le_of_suc-le-suc l))

highest_reached : (k : ℕ) (f : ℕ → ℕ) → 0 < highest k f → Some k (λ e. highest k f ≡ f e)
unfolding highest
highest_reached zero f l = absurd (omega arith)
highest_reached (suc k) f l =
    ⊎_elim
    (λ (m : highest k f < f k). record { which = k; below = le_refl (suc k); has = omega arith })
    (λ (g : f k ≤ highest k f).
    let s = highest_reached k f (omega arith) in
    record { which = s.which; below = omega (arith, s.below); has = omega (arith, s.has) })
    (lt_or_le (highest k f) (f k))

module _ (job : ℕ → Job) (order : ℕ → ℕ) (p : ℕ) (c : ℕ → ℕ) (created : (i : ℕ) → InputAt job order p i → Created job order p i (c i)) where
  creator : (i : ℕ) → InputAt job order p i → c i ≡ creator_of job order p i
  unfolding creator_of
  creator i t =
      let h = created i t in
      sym (least_first (created_at job order p i) p (c i) (record {
        below = h.earlier;
        has = h.made;
        none_before = λ k l e. omega (arith, h.only k (omega (arith, h.earlier)) e);
      }))

  from : (i : ℕ) → InputAt job order p i → from_input job order p i ≡ suc (generation_at job order (c i))
  from i t = input_from job order p i (c i) t.used (creator i t) (created i t).earlier

  above : (i : ℕ) → InputAt job order p i → generation_at job order (c i) < generation_at job order p
  above i t = omega (arith, generation_is job order p, from i t, highest_above 4 (from_input job order p) i t.four)

  -- what brings more than 0 is an input
  is_input : (i : ℕ) → i < 4 → 0 < from_input job order p i → InputAt job order p i
  is_input i l h =
      ⊎_elim
      (λ t. record { four = l; used = t })
      (λ t. absurd (omega (arith, input_none job order p i t)))
      (by_test (is_used (job (order p)) i))

  pub generation_means : Generations job order p c (generation_at job order p)
  generation_means = record {
    accession = λ none. none_from job order p (λ i l. not_true_false _ (λ t. none i (record { four = l; used = t })));
    reached = λ i t.
        let e = generation_is job order p in
        let s = highest_reached 4 (from_input job order p) (omega (arith, e, above i t)) in
        let k = is_input s.which s.below (omega (arith, e, above i t, s.has)) in
        record { which = s.which; below = s.below; has = (k, e ∙ s.has ∙ from s.which k) };
    above = above;
  }

  -- it has no other
  no_more : (g h : ℕ) → Generations job order p c g → Generations job order p c h → (i : ℕ) → InputAt job order p i → g ≤ h
  no_more g h a b i t = let s = a.reached i t in omega (arith, s.has.1, b.above s.which s.has.0)

  pub means_generation : (g : ℕ) → Generations job order p c g → g ≡ generation_at job order p
  means_generation g a =
      ⊎_elim
      (λ e.
      let s = any_elim (is_used (job (order p))) 4 e in
      let t : InputAt job order p s.which = record { four = s.below; used = s.has } in
      le_antisymm (no_more g _ a generation_means s.which t) (no_more _ g generation_means a s.which t))
      (λ e.
      let none : (i : ℕ) → InputAt job order p i → ⊥ = λ i t. true≢false (sym t.used ∙ any_none _ 4 e i t.four) in
      a.accession none ∙ sym (generation_means.accession none))
      (by_test (any_below 4 (is_used (job (order p)))))
