-- How the vaults that equivocate are found (kind 13): by sets of jobs. A job's rivals are a set that the index gives, and so are the certified jobs; which of a
-- job's rivals make an unexcused pair with it follows from how many certified rivals each has, none or one.
use Rattle.std.specs.Prelude.{Bool, cond, List, suc, zero, ℕ, leb, get_or}
use Rattle.std.specs.Int.Bits.{bit_and, bit_or}
use Rattle.federation.specs.declared.Settings.{Settings}
use Rattle.rivalry.specs.Rivals.{rivals_of}
use Rattle.ledger.specs.Equivocation.{is_certified}
use Rattle.record.specs.declared.Job.{Job}
use Rattle.job_sets.specs.Jobs.{job_count, job_has, job_with, jobs_below, jobs_common, no_jobs}
use Rattle.job_sets.specs.declared.job_set.JobSet.{JobSet}
use Rattle.vaults.specs.Votes.{no_votes}
use Rattle.vaults.specs.declared.Votes.{Votes}

-- the vaults whose signature of the job is recorded; nobody has signed a job past the last
unfoldable pub recorded_in : List Votes → ℕ → ℕ
recorded_in votes k = (get_or votes k no_votes).signatures

-- the set, and the job where the test says so
unfoldable pub with_if : Bool → JobSet → ℕ → JobSet
with_if b found k = cond b (job_with found k) found

-- the vaults whose signature is recorded of a job of the set, among the first
module _ (signers : ℕ → ℕ) (jobs : JobSet) where
  unfoldable pub signers_among : ℕ → ℕ
  signers_among zero = 0
  signers_among (suc k) = cond (job_has jobs k) (bit_or (signers k) (signers_among k)) (signers_among k)

unfoldable pub certified_jobs : Settings → (ℕ → ℕ) → ℕ → JobSet
certified_jobs s signers booked = jobs_below booked (is_certified s signers)

-- of certified jobs
module _ (certified : JobSet) (job : ℕ → Job) (booked : ℕ) where
  -- those that are rivals of i are at most so many
  unfoldable pub has_few : ℕ → ℕ → Bool
  has_few most i = leb (job_count (jobs_common (rivals_of job booked i) certified)) most

  unfoldable pub jobs_with_few : ℕ → JobSet
  jobs_with_few most = jobs_below booked (has_few most)

-- the jobs that make an unexcused pair with job i, by its rivals, the certified jobs, and those that have no certified rival, or at most one: to a job that is
-- certified itself its partner has that one
unfoldable pub partners_by : JobSet → JobSet → JobSet → JobSet → ℕ → JobSet
partners_by rivals certified none one i =
    let found = jobs_common rivals (cond (job_has certified i) one none) in
    cond (job_has none i) found (cond (job_has one i) (jobs_common found certified) no_jobs)

-- the vaults that signed one of the first jobs and a partner of it
module _ (signers : ℕ → ℕ) (job : ℕ → Job) (booked : ℕ) (certified none one : JobSet) where
  unfoldable pub signed_pairs : ℕ → ℕ
  signed_pairs zero = 0
  signed_pairs (suc i) =
      bit_or (bit_and (signers i) (signers_among signers (partners_by (rivals_of job booked i) certified none one i) booked)) (signed_pairs i)
