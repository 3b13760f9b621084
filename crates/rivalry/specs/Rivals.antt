-- The rivals of a booked job as a set, and how the index finds them: the jobs that stand at its labels, on the same side, but itself.
use Rattle.std.specs.Prelude.{Bool, ◌||◌, cond, List, ◌*◌, ◌+◌, suc, zero, ℕ, ltb}
use Rattle.conflicts.specs.Conflicts.{is_rival}
use Rattle.record.specs.declared.Job.{Job}
use Rattle.job_sets.specs.Jobs.{job_union, job_without, jobs_below, no_jobs}
use Rattle.job_sets.specs.declared.job_set.JobSet.{JobSet}
use Rattle.index.specs.Sets.{set_of}
use Rattle.queries.specs.Checks.{first_offending}

-- of the n booked jobs
unfoldable pub rivals_of : (ℕ → Job) → ℕ → ℕ → JobSet
rivals_of job n i = jobs_below n (is_rival job i)

-- the set, and the jobs at the label of entry e from `at` on, where there are so many
unfoldable pub sharers_with : List ℕ → List ℕ → ℕ → ℕ → ℕ → ℕ → JobSet → JobSet
sharers_with numbers sets count at kind e found = cond (ltb e count) (job_union (set_of numbers sets (at + e) kind) found) found

-- the jobs at the labels of the first entries
unfoldable pub sharers_by : List ℕ → List ℕ → ℕ → ℕ → ℕ → ℕ → JobSet
sharers_by numbers sets count at kind zero = no_jobs
sharers_by numbers sets count at kind (suc e) = sharers_with numbers sets count at kind e (sharers_by numbers sets count at kind e)

-- of job k, which has so many inputs and outputs
unfoldable pub rivals_by : List ℕ → List ℕ → ℕ → ℕ → ℕ → JobSet
rivals_by numbers sets inputs outputs k =
    job_without (job_union (sharers_by numbers sets inputs (8 * k) 0 4) (sharers_by numbers sets outputs (8 * k + 4) 1 4)) k

-- job k, which has so many inputs and outputs, shares an input label or an output label with a job of s
unfoldable pub conflicts_by : List ℕ → List ℕ → ℕ → ℕ → JobSet → ℕ → Bool
conflicts_by numbers sets inputs outputs s k =
    ltb (first_offending numbers sets inputs (8 * k) 0 s) 4 || ltb (first_offending numbers sets outputs (8 * k + 4) 1 s) 4
