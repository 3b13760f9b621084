-- Sets of jobs in two words: job j is bit j of the low word, or bit j - 64 of the high one. No job of 128 or more is a
-- member of any set.
use Rattle.std.specs.Prelude.{Bool, ◌&&◌, ◌||◌, cond, false, not, ◌+◌, ◌-◌, ◌<◌, ◌^◌, suc, zero, ℕ, eqb, ltb}
use Rattle.std.specs.Int.Bits.{bit_and, bit_or}
use Rattle.std.specs.Int.Count.{ones}
use Rattle.sets.specs.Bits.{has_bit, with_bit, without_bit}
use Rattle.job_sets.specs.declared.job_set.JobSet.{JobSet}

-- the set with no member
unfoldable pub no_jobs : JobSet
no_jobs = record { low = 0; high = 0 }

-- the set has no member
unfoldable pub is_empty : JobSet → Bool
is_empty s = eqb s.low 0 && eqb s.high 0

-- the job is a member
unfoldable pub job_has : JobSet → ℕ → Bool
job_has s job = cond (ltb job 64) (has_bit s.low job) (cond (ltb job 128) (has_bit s.high (job - 64)) false)

-- the set in which the job's word, and in it the job's bit, is changed; s itself from 128 on
abbrev pub change_at : (ℕ → ℕ → ℕ) → JobSet → ℕ → JobSet
change_at change s job =
    cond (ltb job 64) (record { low = change s.low job; high = s.high })
    (cond (ltb job 128) (record { low = s.low; high = change s.high (job - 64) }) s)

-- the members of s, and the job where it is below 128
unfoldable pub job_with : JobSet → ℕ → JobSet
job_with s job = change_at with_bit s job

-- the members of s but the job
unfoldable pub job_without : JobSet → ℕ → JobSet
job_without s job = change_at without_bit s job

-- the members of a and those of b
unfoldable pub job_union : JobSet → JobSet → JobSet
job_union a b = record { low = bit_or a.low b.low; high = bit_or a.high b.high }

-- the members of a that are members of b
unfoldable pub jobs_common : JobSet → JobSet → JobSet
jobs_common a b = record { low = bit_and a.low b.low; high = bit_and a.high b.high }

-- the jobs below n that pass
unfoldable pub jobs_below : ℕ → (ℕ → Bool) → JobSet
jobs_below zero p = no_jobs
jobs_below (suc n) p = cond (p n) (job_with (jobs_below n p) n) (jobs_below n p)

-- some job is a member of both
unfoldable pub jobs_meet : JobSet → JobSet → Bool
jobs_meet a b = not (eqb (bit_and a.low b.low) 0) || not (eqb (bit_and a.high b.high) 0)

-- how many members s has
unfoldable pub job_count : JobSet → ℕ
job_count s = ones s.low + ones s.high

-- the words are below 2 ^ 64, as those of every set in the code are
pub record InWords (s : JobSet) : Type 0 where
  pub low_fits : s.low < 2 ^ 64
  pub high_fits : s.high < 2 ^ 64
