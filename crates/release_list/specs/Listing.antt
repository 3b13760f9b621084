-- The release list as text: for each tape a line with label, frames and the job's number, single spaces between; then a line with the number of tapes.
use Rattle.std.specs.Prelude.{List, [], ◌++◌, ◌∷◌, ◌≡◌, ◌≤◌, ℕ, length, Ok, Err}
use Rattle.consequences.specs.Freed.{Freed, freed_tapes}
use Rattle.ledger.specs.State.{version_of}
use Rattle.ledger.specs.Steps.{whole_gate}
use Rattle.ledger.specs.declared.Ledger.{Ledger}
use Rattle.journal.specs.Journal.{job_at}
use Rattle.outcome.specs.Figures.{Outcome, Verdict}
use Rattle.digits.specs.Digits.{Put, decimal}
use Rattle.release_lines.specs.Tapes.{tape_lines}
use Rattle.release_list.specs.declared.Releases.{Releases}

unfoldable pub list_text : List Freed → List ℕ
list_text xs = tape_lines xs ++ (decimal (length xs) ++ (10 ∷ []))

-- the list of a ledger and its journal
abbrev pub tapes_freed : Ledger → List ℕ → List Freed
tapes_freed l journal = freed_tapes l (job_at (version_of l) journal l.booked)

-- checks 1 and 4 come first, as for kind 13; the value is the number of tapes
abbrev pub counted : Verdict → List Freed → Outcome
counted (Ok _) tapes = Ok (length tapes)
counted (Err why) tapes = Err why

abbrev pub printed : Verdict → List Freed → List ℕ
printed (Ok _) tapes = list_text tapes
printed (Err why) tapes = []

-- the list of any ledger and any journal, at the front of a buffer, which is otherwise as it was
pub record Released (l : Ledger) (journal before after : List ℕ) (r : Releases) : Type 0 where
  pub answer : r.outcome ≡ counted (whole_gate l journal) (tapes_freed l journal)
  pub text : Put before 0 (printed (whole_gate l journal) (tapes_freed l journal)) after r.written
  pub short : r.written ≤ 12805
