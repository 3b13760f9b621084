-- Checks 11 to 14 ("Vaults" and "Turned back"), over the booked jobs, two sets of them and a job: `held` are the jobs that the
-- vault holds, and `others` the other jobs that it signed.
use Rattle.std.specs.Prelude.{Bool, cond, not, ◌&&◌, ◌||◌, ℕ, leb, ltb, Ok, Err}
use Rattle.base.specs.Search.{any_below, first_below}
use Rattle.outcome.specs.Figures.{Verdict}
use Rattle.outcome.specs.declared.Refusal.TheVariants.{NotCreated, Retired, InputReserved, OutputReserved}
use Rattle.job_sets.specs.declared.job_set.JobSet.{JobSet}
use Rattle.job_sets.specs.Jobs.{job_has}
use Rattle.record.specs.declared.Job.{Job}
use Rattle.record.specs.Entries.{label_of, frames_of, is_used}
use Rattle.conflicts.specs.Conflicts.{label_in, makes_tape}

module _ (job : ℕ → Job) (booked : ℕ) where
  -- job k is of the set and has the tape as an output
  unfoldable pub makes_at : JobSet → ℕ → ℕ → ℕ → Bool
  makes_at set label frames k = job_has set k && makes_tape (job k) label frames

  -- some booked job of the set made the tape, label and frames
  unfoldable pub made_by : JobSet → ℕ → ℕ → Bool
  made_by set label frames = any_below booked (makes_at set label frames)

  -- job k is of the set and has the label in the half: 0 are the inputs, 4 the outputs
  unfoldable pub lists_at : ℕ → JobSet → ℕ → ℕ → Bool
  lists_at half set label k = job_has set k && label_in half (job k) label

  -- some booked job of the set has the label in the half
  unfoldable pub listed_by : ℕ → JobSet → ℕ → Bool
  listed_by half set label = any_below booked (lists_at half set label)

  -- 11: "input not created here"
  unfoldable pub not_created_at : JobSet → Job → ℕ → Bool
  not_created_at held j i = ltb i 4 && (is_used j i && not (made_by held (label_of j i) (frames_of j i)))

  -- 12, of the held jobs: "input retired here"; 13, of the others: "input label also in another job signed here, as an input"
  unfoldable pub consumed_at : JobSet → Job → ℕ → Bool
  consumed_at set j i = ltb i 4 && (is_used j i && listed_by 0 set (label_of j i))

  -- the label is an output of a held job, or of another
  unfoldable pub made_before : JobSet → JobSet → ℕ → Bool
  made_before held others label = listed_by 4 held label || listed_by 4 others label

  -- 14: "output label already made by a job held here, or by another signed here"
  unfoldable pub remade_at : JobSet → JobSet → Job → ℕ → Bool
  remade_at held others j i = leb 4 i && (is_used j i && made_before held others (label_of j i))

  -- "Each check is tried on all its entries before the next check."
  unfoldable pub admission : JobSet → JobSet → Job → Verdict
  admission held others j =
      let missing = first_below 8 (not_created_at held j) in
      cond (ltb missing 8) (Err (NotCreated missing))
      (let retired = first_below 8 (consumed_at held j) in
      cond (ltb retired 8) (Err (Retired retired))
      (let reserved = first_below 8 (consumed_at others j) in
      cond (ltb reserved 8) (Err (InputReserved reserved))
      (let remade = first_below 8 (remade_at held others j) in
      cond (ltb remade 8) (Err (OutputReserved remade)) (Ok tt))))
