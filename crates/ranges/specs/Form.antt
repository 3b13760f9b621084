-- "6 to 8, with frames read as the lowest count" (M-110). The checks are document 01's, of the job that has the lowest counts.
use Rattle.std.specs.Prelude.{Bool, true, cond, ℕ, eqb, get_or, Ok, Err}
use Rattle.base.specs.Search.{all_below}
use Rattle.outcome.specs.Figures.{refusal_number, Verdict}
use Rattle.outcome.specs.declared.Refusal.TheVariants.{Malformed}
use Rattle.record.specs.Entries.{is_used}
use Rattle.record.specs.declared.Entry.{Entry}
use Rattle.record.specs.declared.Job.{Job}
use Rattle.checks.specs.Checks.{check_of}
use Rattle.ranges.specs.declared.Estimate.{Estimate}
use Rattle.ranges.specs.Ranges.{low, high, list_from}

-- "frames read as the lowest count"
unfoldable pub lowest_entry : Estimate → ℕ → Entry
lowest_entry e i = record { label = get_or e.labels i 0; frames = low e i }

unfoldable pub lowest_job : Estimate → Job
lowest_job e = record {
  kind = e.kind;
  drive = e.drive;
  inputs = e.inputs;
  outputs = e.outputs;
  entries = list_from (lowest_entry e) 0 8;
  trimmed = e.trimmed;
}

-- "An unused entry's highest is 0, else 6."
unfoldable pub is_bounded : Estimate → Job → ℕ → Bool
is_bounded e j i = cond (is_used j i) true (eqb (high e i) 0)

-- whether the lowest counts balance is not asked
abbrev pub without_balance : Verdict → Verdict
without_balance (Ok _) = Ok tt
without_balance (Err r) = cond (eqb (refusal_number r) 9) (Ok tt) (Err r)

unfoldable pub form_of : Estimate → Verdict
form_of e = cond (all_below 8 (is_bounded e (lowest_job e))) (without_balance (check_of (lowest_job e))) (Err Malformed)
