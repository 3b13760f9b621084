-- A run goes on step by step: of each step the run after it, what was answered and listed, and its text, by the definitions of the run file.
use Rattle.std.specs.Prelude.{List, ◌≡◌, ◌+◌, ◌<◌, ◌≤◌, ℕ}
use Rattle.outcome.specs.Figures.{Outcome}
use Rattle.job_sets.specs.declared.job_set.JobSet.{JobSet}
use Rattle.ledger.specs.declared.Ledger.{Ledger}
use Rattle.runfile.specs.Run.{Run, command_of, text_of, turn}
use Rattle.runfile.specs.Steps.{listed_by, reply_of}
use Rattle.naming.specs.Kept.{Right, Remembered}
use Rattle.digits.specs.Digits.{Put}
use Rattle.text.specs.Text.{longest_text}
use Rattle.progress.specs.declared.Progress.{Progress}
use Rattle.progress.specs.declared.Turned.{Turned}
use Rattle.progress.specs.Pieces.{Going, run_of}

-- the run r' is r after its next step, which was answered and listed so; its text stands at `at` of a buffer and ends at `end`
pub record Stepped (input : List ℕ) (r : Run) (at : ℕ) (before : List ℕ) (r' : Run) (outcome : Outcome) (members : JobSet) (after : List ℕ) (end : ℕ)
    : Type 0 where
  pub next : r' ≡ turn input r
  pub onward : r.pos < r'.pos
  pub answered : outcome ≡ (reply_of r.ledger r.journal (command_of input r)).outcome
  pub listed : members ≡ listed_by r.ledger r.journal (command_of input r)
  pub text : Put before at (text_of (r.count + 1) r.ledger r.journal (command_of input r)) after end
  pub short : end ≤ at + longest_text

-- what is kept of kind 13 is right for the ledger
abbrev pub Holds : Ledger → List ℕ → Remembered → Type 0
Holds l journal = Right l.settings l.votes journal l.booked

-- a run that was carried on by one step can be carried on
pub record TurnedOnce (input : List ℕ) (p : Progress) (journal before : List ℕ) (q : Turned)
    (journal' numbers' sets' records' memo' after : List ℕ) : Type 0 where
  pub step : Stepped input (run_of p journal) p.written before (run_of q.progress journal') q.outcome q.members after q.progress.written
  pub going : Going input q.progress journal' numbers' sets' records' memo'
  pub right : Holds q.progress.ledger journal' q.named
