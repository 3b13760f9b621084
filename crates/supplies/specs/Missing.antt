-- The jobs that a vault misses (document 02, "Which papers must a vault see first"): those held elsewhere that make an input which no job held here made. Their
-- own inputs do not matter.
use Rattle.std.specs.Prelude.{Bool, ◌&&◌, ℕ}
use Rattle.base.specs.Search.{any_below}
use Rattle.conflicts.specs.Conflicts.{makes_tape}
use Rattle.record.specs.Entries.{frames_of, label_of}
use Rattle.record.specs.declared.Job.{Job}
use Rattle.job_sets.specs.Jobs.{job_has, jobs_below}
use Rattle.job_sets.specs.declared.job_set.JobSet.{JobSet}
use Rattle.queries.specs.Admission.{not_created_at}

module _ (job : ℕ → Job) (booked : ℕ) where
  -- entry i of j fails check 11, and job k makes it: label and frames
  unfoldable pub supplies_at : JobSet → Job → ℕ → ℕ → Bool
  supplies_at held j k i = not_created_at job booked held j i && makes_tape (job k) (label_of j i) (frames_of j i)

  unfoldable pub is_missing : JobSet → JobSet → Job → ℕ → Bool
  is_missing held elsewhere j k = job_has elsewhere k && any_below 4 (supplies_at held j k)

  unfoldable pub missing_jobs : JobSet → JobSet → Job → JobSet
  missing_jobs held elsewhere j = jobs_below booked (is_missing held elsewhere j)
