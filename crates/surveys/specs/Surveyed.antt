-- A step carried out that looks at all vaults: its text is written.
use Rattle.std.specs.Prelude.{List, ◌≡◌, ℕ, length, unwrap_or}
use Rattle.job_sets.specs.Jobs.{no_jobs}
use Rattle.generations.specs.Memo.{Memo}
use Rattle.journal.specs.Journal.{capacity, job_at}
use Rattle.ledger.specs.declared.Listing.{Listing}
use Rattle.progress.specs.Said.{Said}
use Rattle.questions.specs.Answers.{surveyed}
use Rattle.naming.specs.Kept.{Found}
use Rattle.questions.specs.declared.Books.{Books}
use Rattle.reading.specs.declared.Step.{Step}
use Rattle.progress.specs.declared.Looked.{Looked}

-- what it answers and lists
abbrev pub answer_of : Looked → Listing
answer_of r = record { outcome = r.outcome; members = r.members }

-- nothing changes but the memo, which stays right, and the vaults that equivocate are known where it asks for them
pub record Surveyed (a : Books) (s : Step) (at : ℕ) (order journal out memo' out' : List ℕ) (r : Looked) : Type 0 where
  pub found : Found a.settings a.votes journal a.booked s.kind r.named
  pub answer_is : answer_of r ≡ surveyed a (unwrap_or r.named no_jobs) order journal s.kind s.vault s.job
  pub said : Said s.number (answer_of r) out at out' r.at
  pub right : Memo (job_at a.settings.version journal a.booked) order a.arrivals memo'
  pub size : length memo' ≡ capacity
