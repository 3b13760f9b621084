-- The missing jobs by the index: the set at an input's number has the makers of its tape.
use Rattle.std.specs.Prelude.{cond, List, ◌+◌, suc, zero, ℕ, ltb}
use Rattle.job_sets.specs.Jobs.{job_union, jobs_common, jobs_meet, no_jobs}
use Rattle.job_sets.specs.declared.job_set.JobSet.{JobSet}
use Rattle.index.specs.Sets.{set_of}

-- of a job with so many inputs: the jobs held elsewhere that make input e, where no held job makes it
unfoldable pub suppliers_by : List ℕ → List ℕ → ℕ → ℕ → JobSet → JobSet → ℕ → JobSet
suppliers_by numbers sets count at held elsewhere e =
    cond (ltb e count)
    (let makers = set_of numbers sets (at + e) 2 in cond (jobs_meet makers held) no_jobs (jobs_common makers elsewhere))
    no_jobs

-- those of the first inputs
unfoldable pub missing_by : List ℕ → List ℕ → ℕ → ℕ → JobSet → JobSet → ℕ → JobSet
missing_by numbers sets count at held elsewhere zero = no_jobs
missing_by numbers sets count at held elsewhere (suc e) =
    job_union (suppliers_by numbers sets count at held elsewhere e) (missing_by numbers sets count at held elsewhere e)
