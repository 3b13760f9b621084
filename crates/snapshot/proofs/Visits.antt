-- The vaults are visited in turn, and what is seen in a round is what was seen before in it and what the visited vault shows.
use mathlib.Core.Bool.{cond, false, true, true≢false}
use mathlib.Core.Logic.{◌≢◌, ◌⊎◌, inl, inr, ⊎_elim}
use mathlib.Core.Path.{◌∙◌, ◌≡◌, refl, sym}
use Prim.Native.Nat.{◌+◌, ◌<◌, ◌≤◌, ℕ}
use native.Mathlib.Omega.{arith}
use lib.Dec.{eqb, ltb}
use borrow.Author.Tests.{eqb-false, le-ltb, lt-ltb, ltb-true, ne_eqb}
use Rattle.base.proofs.Reflect.{by_cases, or_intro, or_true}
use Rattle.job_sets.proofs.Jobs.{has_no_jobs, job_union_has}
use Rattle.sets.specs.Bits.{has_bit}
use Rattle.job_sets.specs.Jobs.{job_has, no_jobs}
use Rattle.job_sets.specs.declared.job_set.JobSet.{JobSet}
use Rattle.federation.specs.declared.Settings.{Settings}
use Rattle.snapshot.specs.Snapshot.{following, seen_after, seen_before, visible}

-- ---- whose turn it is
pub goes_on : (n next : ℕ) → next + 1 < n → following n next ≡ next + 1
unfolding following
goes_on n next h = simp (lt-ltb (next + 1) n h)

pub begins_anew : (n next : ℕ) → n ≤ next + 1 → following n next ≡ 0
unfolding following
begins_anew n next h = simp (le-ltb (next + 1) n h)

pub stays_below : (n next : ℕ) → 0 < n → following n next < n
unfolding following
stays_below n next h = by_cases (λ b. cond b (next + 1) 0 < n) (ltb (next + 1) n) (λ e. ltb-true (next + 1) n e) (λ e. h)

-- ---- what is seen
module _ (s : Settings) (next : ℕ) (seen held : JobSet) (k : ℕ) where
  none : {A : Type 0} → job_has no_jobs k ≡ true → A
  none e = absurd (true≢false (sym e ∙ has_no_jobs k))

  -- only a correct vault shows something, and it shows what it holds
  shows : has_bit s.faulty next ≡ false → job_has held k ≡ true → job_has (visible s held next) k ≡ true
  unfolding visible
  shows f h = simp f h

  shown : job_has (visible s held next) k ≡ true → (has_bit s.faulty next ≡ false) × (job_has held k ≡ true)
  unfolding visible
  shown =
      by_cases (λ b. job_has (cond b no_jobs held) k ≡ true → (b ≡ false) × (job_has held k ≡ true)) (has_bit s.faulty next)
      (λ e. none) (λ e h. (refl, h))

  -- what was seen before counts but at the start of a round
  remembers : 0 < next → job_has seen k ≡ true → job_has (seen_before next seen) k ≡ true
  unfolding seen_before
  remembers p h = let e : eqb next 0 ≡ false = ne_eqb next 0 (λ q. omega (arith, q)) in simp e h

  remembered : job_has (seen_before next seen) k ≡ true → (0 < next) × (job_has seen k ≡ true)
  unfolding seen_before
  remembered =
      by_cases (λ b. eqb next 0 ≡ b → job_has (cond b no_jobs seen) k ≡ true → (0 < next) × (job_has seen k ≡ true)) (eqb next 0)
      (λ _ e. none) (λ _ e h. let n = eqb-false next 0 e in (positive n, h)) refl
    where
      positive : next ≢ 0 → 0 < next
      positive n = omega (arith, n)

  pub sees_held : has_bit s.faulty next ≡ false → job_has held k ≡ true → job_has (seen_after s next seen held) k ≡ true
  unfolding seen_after
  sees_held f h = job_union_has (seen_before next seen) (visible s held next) k ∙ or_intro (job_has (seen_before next seen) k) _ (inr (shows f h))

  pub sees_still : 0 < next → job_has seen k ≡ true → job_has (seen_after s next seen held) k ≡ true
  unfolding seen_after
  sees_still p h = job_union_has (seen_before next seen) (visible s held next) k ∙ or_intro _ _ (inl (remembers p h))

  -- and nothing else is seen
  pub sees_only : job_has (seen_after s next seen held) k ≡ true
      → ((0 < next) × (job_has seen k ≡ true)) ⊎ ((has_bit s.faulty next ≡ false) × (job_has held k ≡ true))
  unfolding seen_after
  sees_only h =
      ⊎_elim (λ a. inl (remembered a)) (λ b. inr (shown b)) (or_true _ _ (sym (job_union_has (seen_before next seen) (visible s held next) k) ∙ h))
