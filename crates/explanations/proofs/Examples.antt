-- What the definitions say of answers of document 01's run.
use mathlib.Core.List.{[], ◌++◌, ◌∷◌}
use mathlib.Core.Path.{◌≡◌, refl}
use lib.Count.{ones}
use Rattle.federation.specs.Federation.{threshold_of}
use Rattle.federation.specs.declared.Settings.{Settings}
use Rattle.ledger.specs.Decisions.{status_of}
use Rattle.std.specs.Prelude.{Ok, Err}
use Rattle.outcome.specs.declared.Refusal.TheVariants.{NotCreated, TooFewSigners}
use Rattle.rows.specs.Items.{form_of}
use Rattle.rows.specs.Table.{letters}
use Rattle.rows.specs.Writing.{text_by}
use Rattle.codec.specs.Codec.{le_at}
use Rattle.sets.specs.Bits.{has_bit, with_bit}
use Rattle.job_sets.specs.Jobs.{job_has, job_with, jobs_below, no_jobs}
use Rattle.digits.specs.Digits.{decimal, digits}
use Rattle.text.specs.Text.{members_from}
use Rattle.explanations.specs.Answers.{answer_text, done_text, figure, job_line, names, refused_text, to_sign}
use Rattle.explanations.specs.Words.{meaning, reason, status}

abbrev settings : Settings
settings = record { n = 4; b = 1; faulty = 8; version = 1 }

-- step 7: two signers are named
too_few : answer_text 3 (Err TooFewSigners) no_jobs (threshold_of settings) [] ≡ letters "refused 16, fewer than 3 signers"
unfolding answer_text refused_text reason text_by form_of le_at decimal digits threshold_of
too_few = refl

-- step 3: the label of entry 0 of the migration's record
not_made : answer_text 2 (Err (NotCreated 0)) no_jobs 3 (1 ∷ 7 ∷ 1 ∷ 1 ∷ letters "VAA001L5")
    ≡ letters "refused 11, no job that this vault holds made VAA001L5"
unfolding answer_text refused_text reason text_by form_of le_at
not_made = refl

-- step 10: the state of job 0
shown : answer_text 6 (Ok 1) no_jobs 3 [] ≡ letters "certified"
unfolding answer_text done_text meaning figure status
shown = refl

-- job 0 in the end: vaults 0, 1 and 3 have signed, and vault 0 holds it
sheet : job_line settings (record { signatures = 11; acknowledgements = 1 }) 0
    ≡ letters "job 0 certified: signatures 3, acknowledgements 1, still to sign 2" ++ (10 ∷ [])
unfolding job_line status_of status text_by form_of le_at decimal digits names to_sign jobs_below job_with with_bit no_jobs has_bit members_from job_has threshold_of ones
sheet = refl
