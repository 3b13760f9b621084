-- How far a run has come from where it was carried on, step by step. By this `advance` and `turn` speak to the loop that both are.
use Rattle.std.specs.Prelude.{Bool, false, true, List, ◌++◌, ◌⊎◌, ◌≡◌, ◌*◌, ◌+◌, ◌<◌, ◌≤◌, ℕ, length, Ok}
use Rattle.outcome.specs.Figures.{Outcome}
use Rattle.job_sets.specs.Jobs.{no_jobs}
use Rattle.job_sets.specs.declared.job_set.JobSet.{JobSet}
use Rattle.ledger.specs.declared.Ledger.{Ledger}
use Rattle.runfile.specs.Run.{Run, last_from, text_from}
use Rattle.reading.specs.declared.Step.{Step}
use Rattle.naming.specs.Kept.{Remembered}
use Rattle.digits.specs.Digits.{Put}
use Rattle.text.specs.Text.{longest_text}
use Rattle.progress.specs.declared.Progress.{Progress}
use Rattle.progress.specs.declared.Turned.{Turned}
use Rattle.progress.specs.declared.Cursor.{Cursor}
use Rattle.progress.specs.Pieces.{Going, run_of}
use Rattle.progress.specs.Turns.{Holds, Stepped}

abbrev pub cursor_at : ℕ → ℕ → ℕ → Cursor
cursor_at pos count at = record { pos = pos; count = count; at = at; outcome = Ok 0; members = no_jobs }

abbrev pub moved_to : Step → ℕ → Outcome → JobSet → Cursor
moved_to s at outcome members = record { pos = s.end; count = s.number; at = at; outcome = outcome; members = members }

abbrev pub standing : Ledger → Cursor → Progress
standing l c = record { ledger = l; pos = c.pos; count = c.count; written = c.at }

abbrev pub turned_at : Ledger → Cursor → Remembered → Turned
turned_at l c named = record { progress = standing l c; outcome = c.outcome; members = c.members; named = named }

-- whether a run goes on, up to the step with the number `last`
pub record Goes (c : Cursor) (last size room : ℕ) (r : Bool) : Type 0 where
  pub on : r ≡ true → (c.pos < size) × (c.at + longest_text ≤ room) × (c.count < last)
  pub off : r ≡ false → (size ≤ c.pos) ⊎ ((room < c.at + longest_text) ⊎ (last ≤ c.count))

-- of a text a part was written from a place of a buffer on, and the rest remains
pub record Part (text before : List ℕ) (at : ℕ) (after : List ℕ) (end : ℕ) (rest : List ℕ) : Type 0 where
  pub piece : List ℕ
  pub cut : text ≡ piece ++ rest
  pub put : Put before at piece after end

-- nothing was carried out yet
pub record Begun (r : Run) (at : ℕ) (before : List ℕ) (r' : Run) (at' : ℕ) (before' : List ℕ) : Type 0 where
  pub same_run : r ≡ r'
  pub same_place : at ≡ at'
  pub same_buffer : before ≡ before'

-- the last step that was carried out, which was the first where the run before it has carried out as many
pub record Lastly (input : List ℕ) (r : Run) (at : ℕ) (before : List ℕ) (r' : Run) (outcome : Outcome) (members : JobSet) (after : List ℕ) (end : ℕ)
    : Type 0 where
  pub from : Run
  pub place : ℕ
  pub buffer : List ℕ
  pub numbered : from.count + 1 ≡ r'.count
  pub first : from.count ≡ r.count → Begun r at before from place buffer
  pub step : Stepped input from place buffer r' outcome members after end

-- how far a run has come
pub record Come (input : List ℕ) (p : Progress) (last : ℕ) (journal before : List ℕ) (q : Turned)
    (journal' numbers' sets' records' memo' after : List ℕ) : Type 0 where
  pub going : Going input q.progress journal' numbers' sets' records' memo'
  pub right : Holds q.progress.ledger journal' q.named
  pub part : Part (text_from input (run_of p journal)) before p.written after q.progress.written (text_from input (run_of q.progress journal'))
  pub ends : last_from input (run_of p journal) ≡ last_from input (run_of q.progress journal')
  pub went : q.progress.written + longest_text * p.pos ≤ p.written + longest_text * q.progress.pos
  pub fits : p.written ≤ length before → q.progress.written ≤ length before
  pub same_out : length after ≡ length before
  pub since : p.count ≤ q.progress.count
  pub upto : q.progress.count ≤ last
  pub none : q.progress.count ≡ p.count → Begun (run_of p journal) p.written before (run_of q.progress journal') q.progress.written after
  pub some : p.count < q.progress.count → Lastly input (run_of p journal) p.written before
      (run_of q.progress journal') q.outcome q.members after q.progress.written

-- and why it stopped
pub record CarriedOn (input : List ℕ) (p : Progress) (last : ℕ) (journal before : List ℕ) (q : Turned)
    (journal' numbers' sets' records' memo' after : List ℕ) : Type 0 where
  pub come : Come input p last journal before q journal' numbers' sets' records' memo' after
  pub stopped : (length input ≤ q.progress.pos) ⊎ ((length before < q.progress.written + longest_text) ⊎ (last ≤ q.progress.count))
