-- Sets of at most one job: a member is one of the count, and two different members are two of it.
use mathlib.Core.Bool.{Bool, cond, false, true, true≢false}
use mathlib.Core.Path.{◌∙◌, ◌≡◌, ap, ap₂, refl, sym}
use Prim.Native.Nat.{◌<◌, ◌≤◌, suc, zero, ℕ}
use native.Mathlib.Omega.{arith}
use lib.Count.{ones}
use lib.Dec.{eqb}
use borrow.Author.Tests.{eqb-false, eqb-true}
use Rattle.base.proofs.Reflect.{and_true, by_test, not_true_false}
use Rattle.job_sets.proofs.Jobs.{count_within, has_no_jobs, job_below, job_count_with}
use Rattle.job_sets.proofs.Jobs.{job_with_other, job_with_same, jobs_same, no_jobs_words, with_words}
use Rattle.job_sets.specs.Jobs.{InWords, is_empty, job_count, job_has, job_with, jobs_below, no_jobs}
use Rattle.job_sets.specs.declared.job_set.JobSet.{JobSet}

-- the set of k alone
abbrev pub one : ℕ → JobSet
one k = job_with no_jobs k

no_count : job_count no_jobs ≡ 0
unfolding job_count no_jobs ones
no_count = refl

pub one_words : (k : ℕ) → InWords (one k)
one_words k = with_words no_jobs k no_jobs_words

one_count : (k : ℕ) → k < 128 → job_count (one k) ≡ 1
one_count k h = job_count_with no_jobs k h (has_no_jobs k) ∙ ap suc no_count

-- its member is k
pub one_is : (k m : ℕ) → job_has (one k) m ≡ true → m ≡ k
one_is k m h = by_test (eqb m k) (eqb-true m k) (λ e. absurd (true≢false (sym h ∙ (job_with_other no_jobs k m (eqb-false m k e) ∙ has_no_jobs m))))

-- a set whose words are 0
pub empty_is : (s : JobSet) → is_empty s ≡ true → s ≡ no_jobs
unfolding is_empty no_jobs
empty_is s e =
    let h = and_true (eqb s.low 0) _ e in
    ap₂ (λ (x y : ℕ). record { low = x; high = y }) (eqb-true s.low 0 h.0) (eqb-true s.high 0 h.1)

module _ (s : JobSet) (w : InWords s) where
  -- no member, where there are none
  pub none_of : job_count s ≤ 0 → (m : ℕ) → job_has s m ≡ false
  none_of h m = not_true_false _ (λ t.
      let e = one_count m (job_below s m t) in
      let l = count_within (one m) s (one_words m) w (λ i g. rw (one_is m i g) t) in
      omega (arith, e, l))

  pub none_count : ((m : ℕ) → job_has s m ≡ false) → job_count s ≤ 0
  none_count h =
      let e : s ≡ no_jobs = jobs_same s no_jobs w no_jobs_words (λ i l. h i ∙ sym (has_no_jobs i)) in
      let q : job_count s ≡ 0 = ap job_count e ∙ no_count in
      omega (arith, q)

  -- no two members, where there is one
  pub one_of : job_count s ≤ 1 → (k m : ℕ) → job_has s k ≡ true → job_has s m ≡ true → m ≡ k
  one_of h k m tk tm = by_test (eqb m k) (eqb-true m k) (λ ne.
      let out : job_has (one k) m ≡ false = job_with_other no_jobs k m (eqb-false m k ne) ∙ has_no_jobs m in
      let e = job_count_with (one k) m (job_below s m tm) out in
      let q = one_count k (job_below s k tk) in
      let l = count_within (job_with (one k) m) s (with_words (one k) m (one_words k)) w within in
      absurd (omega (arith, e, q, l)))
    where
      within : (i : ℕ) → job_has (job_with (one k) m) i ≡ true → job_has s i ≡ true
      within i g = by_test (eqb i m) (λ e. rw (eqb-true i m e) tm) (λ e. rw (one_is k i (sym (job_with_other (one k) m i (eqb-false i m e)) ∙ g)) tk)

  pub one_member : (k : ℕ) → k < 128 → ((m : ℕ) → job_has s m ≡ true → m ≡ k) → job_count s ≤ 1
  one_member k h only =
      let l = count_within s (one k) w (one_words k) (λ i g. rw (only i g) (job_with_same no_jobs k h)) in
      omega (arith, l, one_count k h)

-- the same jobs pass
pub jobs_below_same : (p q : ℕ → Bool) (n : ℕ) → ((i : ℕ) → i < n → p i ≡ q i) → jobs_below n p ≡ jobs_below n q
unfolding jobs_below
jobs_below_same p q zero h = refl
jobs_below_same p q (suc n) h =
    rw (h n (omega arith)) (ap (λ (s : JobSet). cond (q n) (job_with s n) s) (jobs_below_same p q n (λ i l. h i (omega arith))))
