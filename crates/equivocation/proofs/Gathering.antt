-- The loops of kind 13: jobs and vaults are gathered one after another.
use mathlib.Core.Bool.{Bool, cond, true}
use mathlib.Core.List.{List}
use mathlib.Core.Path.{◌∙◌, ◌≡◌, ap, refl, sym}
use Prim.Native.Nat.{◌+◌, ◌≤◌, suc, zero, ℕ}
use native.Mathlib.Numerals.{add-one}
use native.Mathlib.Omega.{arith}
use lib.Bits.{bit_and, bit_or}
use lib.Count.{ones}
use lib.Dec.{leb}
use lib.ListN.{get_or}
use Rattle.federation.specs.Federation.{threshold_of}
use Rattle.federation.specs.declared.Settings.{Settings}
use Rattle.rivalry.specs.Rivals.{rivals_of}
use Rattle.ledger.specs.Equivocation.{is_certified}
use Rattle.record.specs.declared.Job.{Job}
use Rattle.job_sets.proofs.Few.{empty_is}
use Rattle.job_sets.proofs.Jobs.{has_no_jobs}
use Rattle.job_sets.specs.Jobs.{is_empty, job_count, job_has, jobs_below, jobs_common, no_jobs}
use Rattle.job_sets.specs.declared.job_set.JobSet.{JobSet}
use Rattle.vaults.specs.Votes.{no_votes}
use Rattle.vaults.specs.declared.Votes.{Votes}
use Rattle.equivocation.specs.Partners.{certified_jobs, has_few, jobs_with_few, partners_by, recorded_in, signed_pairs, signers_among, with_if}

-- ---- the jobs below k that pass
module _ (p : ℕ → Bool) where
  pub below_start : (s : JobSet) → s ≡ no_jobs → s ≡ jobs_below 0 p
  unfolding jobs_below
  below_start s e = e

  pub below_more : (k : ℕ) (found r : JobSet) → found ≡ jobs_below k p → r ≡ with_if (p k) found k → r ≡ jobs_below (k + 1) p
  unfolding jobs_below with_if
  below_more k found r e h = rw add-one (h ∙ rw e refl)

  pub below_end : (n k : ℕ) (found : JobSet) → found ≡ jobs_below k p → k ≤ n → n ≤ k → found ≡ jobs_below n p
  below_end n k found e a b = let q : k ≡ n = omega arith in e ∙ ap (λ (m : ℕ). jobs_below m p) q

pub ruleset gathering = (below_start, below_more, below_end)

-- ---- certified jobs
abbrev pub enough_signed : List Votes → ℕ → ℕ → Bool
enough_signed votes threshold k = leb threshold (ones (recorded_in votes k))

module _ (votes : List Votes) (threshold : ℕ) where
  pub certify_more : (k n : ℕ) (found r : JobSet) → found ≡ jobs_below k (enough_signed votes threshold) → n ≡ ones (get_or votes k no_votes).signatures
      → r ≡ with_if (leb threshold n) found k → r ≡ jobs_below (k + 1) (enough_signed votes threshold)
  unfolding recorded_in
  certify_more k n found r e en h = below_more (enough_signed votes threshold) k found r e (h ∙ ap (λ (x : ℕ). with_if (leb threshold x) found k) en)

  pub certify_end : (s : Settings) (booked k : ℕ) (found : JobSet) → found ≡ jobs_below k (enough_signed votes threshold) → threshold ≡ threshold_of s
      → k ≤ booked → booked ≤ k → found ≡ certified_jobs s (recorded_in votes) booked
  unfolding certified_jobs is_certified
  certify_end s booked k found e et a b =
      below_end (enough_signed votes threshold) booked k found e a b ∙ ap (λ (t : ℕ). jobs_below booked (enough_signed votes t)) et

pub ruleset certifying = (below_start, certify_more, certify_end)

-- ---- jobs with few certified rivals
module _ (certified : JobSet) (job : ℕ → Job) (booked most : ℕ) where
  pub few_more : (k n : ℕ) (rivals common found r : JobSet) → found ≡ jobs_below k (has_few certified job booked most) → rivals ≡ rivals_of job booked k
      → common ≡ jobs_common rivals certified → n ≡ job_count common → r ≡ with_if (leb n most) found k → r ≡ jobs_below (k + 1) (has_few certified job booked most)
  unfolding has_few
  few_more k n rivals common found r e er ec en h =
      below_more (has_few certified job booked most) k found r e
      (h ∙ ap (λ (x : ℕ). with_if (leb x most) found k) (en ∙ ap job_count (ec ∙ ap (λ (x : JobSet). jobs_common x certified) er)))

  pub few_end : (k : ℕ) (found : JobSet) → found ≡ jobs_below k (has_few certified job booked most) → k ≤ booked → booked ≤ k
      → found ≡ jobs_with_few certified job booked most
  unfolding jobs_with_few
  few_end k found e a b = below_end (has_few certified job booked most) booked k found e a b

pub ruleset counting = (below_start, few_more, few_end)

-- ---- the signers of the jobs below k that are in a set
none_among : (signers : ℕ → ℕ) (n : ℕ) → signers_among signers no_jobs n ≡ 0
unfolding signers_among
none_among signers zero = refl
none_among signers (suc n) = rw (has_no_jobs n) (none_among signers n)

module _ (votes : List Votes) (jobs : JobSet) where
  pub among_none : (r : Bool) (n : ℕ) → r ≡ is_empty jobs → r ≡ true → 0 ≡ signers_among (recorded_in votes) jobs n
  among_none r n p q = rw (empty_is jobs (sym p ∙ q)) (sym (none_among (recorded_in votes) n))

  pub among_start : 0 ≡ signers_among (recorded_in votes) jobs 0
  unfolding signers_among
  among_start = refl

  pub among_more : (k all r : ℕ) → all ≡ signers_among (recorded_in votes) jobs k → r ≡ cond (job_has jobs k) (bit_or (get_or votes k no_votes).signatures all) all
      → r ≡ signers_among (recorded_in votes) jobs (k + 1)
  unfolding signers_among recorded_in
  among_more k all r e h = rw add-one (h ∙ rw e refl)

  pub among_end : (n k all : ℕ) → all ≡ signers_among (recorded_in votes) jobs k → k ≤ n → n ≤ k → all ≡ signers_among (recorded_in votes) jobs n
  among_end n k all e a b = let q : k ≡ n = omega arith in e ∙ ap (signers_among (recorded_in votes) jobs) q

pub ruleset joining = (among_none, among_start, among_more, among_end)

-- ---- the signers of the jobs below k and of a partner
module _ (votes : List Votes) (job : ℕ → Job) (booked : ℕ) (certified none one : JobSet) where
  pub pairs_start : 0 ≡ signed_pairs (recorded_in votes) job booked certified none one 0
  unfolding signed_pairs
  pairs_start = refl

  pub pairs_more : (k all others r : ℕ) (rivals partners : JobSet) → all ≡ signed_pairs (recorded_in votes) job booked certified none one k
      → rivals ≡ rivals_of job booked k → partners ≡ partners_by rivals certified none one k → others ≡ signers_among (recorded_in votes) partners booked
      → r ≡ bit_or (bit_and (get_or votes k no_votes).signatures others) all → r ≡ signed_pairs (recorded_in votes) job booked certified none one (k + 1)
  unfolding signed_pairs recorded_in
  pairs_more k all others r rivals partners e er ep eo h = rw add-one (h ∙ rw (e, eo, ep, er) refl)

  pub pairs_end : (k all : ℕ) → all ≡ signed_pairs (recorded_in votes) job booked certified none one k → k ≤ booked → booked ≤ k
      → all ≡ signed_pairs (recorded_in votes) job booked certified none one booked
  pairs_end k all e a b = let q : k ≡ booked = omega arith in e ∙ ap (signed_pairs (recorded_in votes) job booked certified none one) q

pub ruleset pairing = (pairs_start, pairs_more, pairs_end)
