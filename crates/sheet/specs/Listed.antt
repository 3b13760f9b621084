-- The sheet is written line by line: after each its line stands at the front of a buffer, and the rest is still to be said.
use Rattle.std.specs.Prelude.{cond, List, [], ◌+◌, ◌<◌, ℕ, ltb}
use Rattle.digits.specs.Digits.{Put}
use Rattle.explanations.specs.Answers.{job_line}
use Rattle.explanations.specs.Explained.{Says, sheet_from}
use Rattle.journal.specs.Journal.{capacity}
use Rattle.ledger.specs.State.{votes_at}
use Rattle.ledger.specs.declared.Ledger.{Ledger}

-- what the ledger says of a job, booked or not; nothing of one that can't be
unfoldable pub line_of : Ledger → ℕ → List ℕ
line_of l job = cond (ltb job capacity) (job_line l.settings (votes_at l job) job) []

pub record Listed (l : Ledger) (job : ℕ) (before after : List ℕ) (written : ℕ) : Type 0 where
  pub put : Put before 0 (line_of l job) after written
  -- where the job is booked, that is the next line of the sheet
  pub next : job < l.booked → job < capacity → Says (sheet_from l job) before after written (sheet_from l (job + 1))
