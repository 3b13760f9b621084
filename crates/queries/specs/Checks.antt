-- Checks 11 to 14 by the index: whether the set at an entry's number meets the jobs that a vault holds or signed.
use Rattle.std.specs.Prelude.{Bool, ◌&&◌, cond, not, List, ◌*◌, ◌+◌, ℕ, eqb, ltb, Ok, Err}
use Rattle.base.specs.Search.{first_below}
use Rattle.outcome.specs.declared.Refusal.TheVariants.{InputReserved, NotCreated, OutputReserved, Retired}
use Rattle.outcome.specs.Figures.{Verdict}
use Rattle.job_sets.specs.Jobs.{job_union, jobs_meet}
use Rattle.job_sets.specs.declared.job_set.JobSet.{JobSet}
use Rattle.index.specs.Places.{places}
use Rattle.index.specs.Sets.{set_of}

-- entry e is one of so many, and offends against s: check 11 wants a job of s that makes its tape, the others none that has its label
unfoldable pub offends_at : List ℕ → List ℕ → ℕ → ℕ → ℕ → JobSet → ℕ → Bool
offends_at numbers sets count at kind s e =
    ltb e count && (let met = jobs_meet (set_of numbers sets (at + e) kind) s in cond (eqb kind 2) (not met) met)

unfoldable pub first_offending : List ℕ → List ℕ → ℕ → ℕ → ℕ → JobSet → ℕ
first_offending numbers sets count at kind s = first_below 4 (offends_at numbers sets count at kind s)

-- checks 12 and 13 of job k, which has so many inputs
unfoldable pub consumed_by : List ℕ → List ℕ → ℕ → JobSet → JobSet → ℕ → Verdict
consumed_by numbers sets inputs held others k =
    let retired = first_offending numbers sets inputs (8 * k) 0 held in
    cond (ltb retired 4) (Err (Retired retired))
    (let reserved = first_offending numbers sets inputs (8 * k) 0 others in
    cond (ltb reserved 4) (Err (InputReserved reserved)) (Ok tt))

-- check 14 of job k, which has so many outputs
unfoldable pub remade_by : List ℕ → List ℕ → ℕ → JobSet → ℕ → Verdict
remade_by numbers sets outputs known k =
    let remade = first_offending numbers sets outputs (8 * k + 4) 1 known in
    cond (ltb remade 4) (Err (OutputReserved (4 + remade))) (Ok tt)

-- checks 11 to 14; 12 and 13 only where one of them fails
unfoldable pub admission_by : List ℕ → List ℕ → ℕ → ℕ → JobSet → JobSet → ℕ → Verdict
admission_by numbers sets inputs outputs held others k =
    let missing = first_offending numbers sets inputs (places + 8 * k) 2 held in
    cond (ltb missing 4) (Err (NotCreated missing))
    (let known = job_union held others in
    cond (ltb (first_offending numbers sets inputs (8 * k) 0 known) 4) (consumed_by numbers sets inputs held others k) (remade_by numbers sets outputs known k))
