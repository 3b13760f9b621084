-- The call's answer is right about choices of counts, and no other answer is. That there are eight ranges is what the struct says of every estimate
-- that a program can hand in.
use mathlib.Core.Bool.{cond, false, true}
use mathlib.Core.Path.{◌≡◌, refl}
use Prim.Native.Nat.{◌<◌, ◌≤◌, ℕ}
use native.Mathlib.Omega.{arith}
use lib.Dec.{ltb}
use lib.ListN.{length}
use borrow.Author.Tests.{lt-ltb, ltb-true, ne_eqb}
use Rattle.base.proofs.Reflect.{by_cases, by_test, reflect_as, reflect_eq, reflect_if, reflect_lt, reflect_true, refuted, refutes}
use Rattle.base.proofs.Search.{first_complete, first_end_complete, first_end_sound, first_sound, found_none, reflect_all, unfound}
use Rattle.base.specs.Reflect.{Reflects}
use Rattle.base.specs.Search.{Every, all_below, first_below}
use Rattle.outcome.specs.declared.Refusal.TheVariants.{Malformed, NoneBalances, Reversed}
use Rattle.outcome.specs.Figures.{Verdict}
use Rattle.std.specs.Prelude.{Ok, Err}
use Rattle.record.proofs.Meaning.{reflect_used}
use Rattle.record.specs.Meaning.{Label, Used}
use Rattle.record.specs.declared.Job.{Job}
use Rattle.checks.proofs.Meaning.{answers_check, check_answers, reflect_balanced}
use Rattle.checks.specs.Checks.{balanced, check_of}
use Rattle.checks.specs.Meaning as checks
use Rattle.ranges.proofs.Exact.{one_tightest, reflect_balance, tightest}
use Rattle.ranges.specs.Form.{form_of, is_bounded, lowest_job, without_balance}
use Rattle.ranges.specs.Meaning.{Balancing, Fit, Formed, ReversedAt, Told, malformed, none_balances, repeated, reversed, tightened, unsupported}
use Rattle.ranges.specs.Ranges.{high, low}
use Rattle.ranges.specs.Tighten.{balance_of, can_balance, checks_of, first_failing, is_reversed, order_of, settle, tighten_of, tightest_of}
use Rattle.ranges.specs.declared.Estimate.{Estimate}
use Rattle.ranges.specs.declared.Tightened.{Tightened}

module _ (e : Estimate) where
  abbrev Lowest : Job
  Lowest = lowest_job e

  -- ---- what 6 asks beyond the job of the lowest counts
  abbrev Bounds : Type 0
  Bounds = Every 8 (λ i. (Used Lowest i → ⊥) → high e i ≡ 0)

  reflect_bounds : Reflects (all_below 8 (is_bounded e Lowest)) Bounds
  unfolding is_bounded
  reflect_bounds =
      reflect_all 8 (λ i q.
      reflect_as (reflect_if (reflect_used Lowest i) (reflect_true true) (reflect_eq (high e i) 0)) (λ h. h.1) (λ h. ((λ _. refl), h)))

  formed : Bounds → checks.WellFormed Label Lowest → Formed e
  formed b w = record { job = w; unused = b }

  -- ---- 24
  reverses : (i : ℕ) → i < 8 → Reflects (is_reversed e i) (ReversedAt e i)
  unfolding is_reversed
  reverses i q = reflect_lt (high e i) (low e i)

  ordered : checks.Nowhere (ReversedAt e) → Every 8 (λ i. low e i ≤ high e i)
  ordered none i q = omega (arith, none i q)

  -- ---- the answer where 6 to 8 pass
  abbrev Later : Verdict
  Later = first_failing (order_of e) (balance_of e)

  ranged : length e.ranges ≡ 8 → Fit e → Told e (settle Later e)
  unfolding order_of balance_of
  ranged n fit =
      by_cases (λ b. Told e (settle (first_failing (cond b (Err (Reversed (first_below 8 (is_reversed e)))) (Ok (tt {0}))) (balance_of e)) e))
      (ltb (first_below 8 (is_reversed e)) 8)
      (λ d. reversed _ fit (first_sound 8 reverses _ (ltb-true _ _ d) refl))
      (λ d.
      let none = first_end_sound 8 reverses (unfound _ 8 d) in
      by_cases (λ b. Told e (settle (cond b (Ok (tt {0})) (Err NoneBalances)) e)) (can_balance e)
      (λ t. tightened fit none _ (tightest e n (ordered none) t))
      (λ t. none_balances fit none (λ x c. refuted (reflect_balance e (ordered none)) t (x, c))))

  -- ---- the whole answer
  answered : length e.ranges ≡ 8 → Bounds → (v : Verdict) → checks.Answer Lowest v → Told e (settle (first_failing (without_balance v) Later) e)
  answered n b v (checks.passes w r u level) = ranged n (record { formed = formed b w; apart = r; supported = u })
  answered n b v (checks.unbalanced w r u level) = ranged n (record { formed = formed b w; apart = r; supported = u })
  answered n b v (checks.malformed w) = malformed (λ f. w f.job)
  answered n b v (checks.repeated i w r) = repeated i (formed b w) r
  answered n b v (checks.unsupported i w r u) = unsupported i (formed b w) r u

  pub tighten_told : length e.ranges ≡ 8 → Told e (tighten_of e)
  unfolding tighten_of checks_of form_of
  tighten_told n =
      by_cases
      (λ b. Told e (settle (first_failing (cond b (without_balance (check_of Lowest)) (Err Malformed)) Later) e))
      (all_below 8 (is_bounded e Lowest))
      (λ d. answered n (reflect_bounds.sound d) (check_of Lowest) (check_answers Lowest))
      (λ d. malformed (λ f. refuted reflect_bounds d f.unused))

  -- ---- no other answer is right
  bounded : Formed e → all_below 8 (is_bounded e Lowest) ≡ true
  bounded f = reflect_bounds.complete f.unused

  formed_form : Formed e → (v : Verdict) → checks.Answer Lowest v → form_of e ≡ without_balance v
  unfolding form_of
  formed_form f v a = simp (bounded f, answers_check Lowest v a)

  malformed_form : (Formed e → ⊥) → form_of e ≡ Err Malformed
  unfolding form_of
  malformed_form f =
      by_test (all_below 8 (is_bounded e Lowest))
      (λ t. simp (t, answers_check Lowest _ (checks.malformed (λ w. f (formed (reflect_bounds.sound t) w)))))
      (λ t. simp t)

  -- what check 9 says of the lowest counts makes no difference
  fit_form : Fit e → form_of e ≡ Ok (tt {0})
  fit_form fit =
      let f = fit.formed in
      by_test (balanced Lowest)
      (λ t. formed_form f _ (checks.passes f.job fit.apart fit.supported ((reflect_balanced Lowest).sound t)))
      (λ t. formed_form f _ (checks.unbalanced f.job fit.apart fit.supported (refuted (reflect_balanced Lowest) t)))

  orderly : checks.Nowhere (ReversedAt e) → ltb (first_below 8 (is_reversed e)) 8 ≡ false
  orderly none = found_none (is_reversed e) 8 (first_end_complete 8 reverses none)

  pub told_tighten : (r : Tightened) → length e.ranges ≡ 8 → Told e r → tighten_of e ≡ r
  unfolding tighten_of checks_of order_of balance_of
  told_tighten r n (reversed i fit s) =
      let at : first_below 8 (is_reversed e) ≡ i = first_complete 8 reverses i s in
      simp (fit_form fit, at, lt-ltb i 8 s.below)
  told_tighten r n (none_balances fit none c) =
      simp (fit_form fit, orderly none, refutes (reflect_balance e (ordered none)) (λ s. c s.0 s.1))
  told_tighten r n (tightened fit none ranges t) =
      let some = t.lowest 0 (omega arith) in
      let can = (reflect_balance e (ordered none)).complete (some.0, some.1) in
      simp (fit_form fit, orderly none, can, one_tightest e _ _ (tightest e n (ordered none) can) t)
  told_tighten r n (malformed f) = simp (malformed_form f)
  told_tighten r n (repeated i f s) = simp (formed_form f _ (checks.repeated i f.job s))
  told_tighten r n (unsupported i f s u) = simp (formed_form f _ (checks.unsupported i f.job s u))

  -- ---- "An accession keeps its ranges.", whatever is answered
  pub accession_keeps : e.kind ≡ 0 → (tighten_of e).ranges ≡ e.ranges
  unfolding tighten_of tightest_of
  accession_keeps k = kept (checks_of e)
    where
      kept : (v : Verdict) → (settle v e).ranges ≡ e.ranges
      kept (Ok _) = simp (ne_eqb e.kind 1 (λ d. absurd (omega arith)))
      kept (Err r) = refl

  -- a choice gives an unused entry 0
  pub unused_zero : (x : ℕ → ℕ) → Formed e → Balancing e x → Every 8 (λ i. (Used Lowest i → ⊥) → x i ≡ 0)
  unused_zero x f c i q n = let w = c.within i q in omega (arith, f.unused i q n)
