-- A snapshot ("stock-take") of what is held, taken vault by vault while jobs go on.
use Rattle.std.specs.Prelude.{cond, ℕ, ◌+◌, eqb, ltb}
use Rattle.sets.specs.Bits.{has_bit}
use Rattle.job_sets.specs.Jobs.{job_union, no_jobs}
use Rattle.job_sets.specs.declared.job_set.JobSet.{JobSet}
use Rattle.federation.specs.declared.Settings.{Settings}

-- "visits the next vault, beginning at 0"; "After the last vault the following such step begins anew."
unfoldable pub following : ℕ → ℕ → ℕ
following n next = cond (ltb (next + 1) n) (next + 1) 0

-- "sees the jobs held there; a step that comes to a faulty vault adds no job, and that vault counts as visited"
unfoldable pub visible : Settings → JobSet → ℕ → JobSet
visible s held v = cond (has_bit s.faulty v) no_jobs held

-- the jobs seen in this round before the visit: a round starts with none
unfoldable pub seen_before : ℕ → JobSet → JobSet
seen_before next seen = cond (eqb next 0) no_jobs seen

-- "different jobs seen in this round"
unfoldable pub seen_after : Settings → ℕ → JobSet → JobSet → JobSet
seen_after s next seen held = job_union (seen_before next seen) (visible s held next)
