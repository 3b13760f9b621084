-- The text is printed in pieces: a run that has come so far goes on while there is room for the longest text of a step, and says how far it came.
use Rattle.std.specs.Prelude.{false, true, List, [], ◌++◌, ◌∷◌, ◌≡◌, ◌⊎◌, ◌*◌, ◌+◌, ◌<◌, ◌≤◌, ℕ, length, replicate, take}
use Rattle.journal.specs.Journal.{capacity}
use Rattle.index.specs.Places.{numbers_size, sets_size}
use Rattle.index.specs.Records.{records_size}
use Rattle.digits.specs.Digits.{Put}
use Rattle.text.specs.Text.{longest_text}
use Rattle.ledger.specs.State.{new_ledger}
use Rattle.ledger.specs.declared.Ledger.{Ledger}
use Rattle.runfile.specs.Run.{Run, begins, header_size, journal_size, last_from, longest, opens, run_text, text_from}
use Rattle.progress.specs.declared.Progress.{Progress}
use Rattle.progress.specs.Kept.{Kept}

abbrev pub run_at : Ledger → ℕ → ℕ → List ℕ → Run
run_at l pos count journal = record { pos = pos; count = count; ledger = l; journal = journal }

abbrev pub run_of : Progress → List ℕ → Run
run_of p journal = run_at p.ledger p.pos p.count journal

-- a run that check 1 has let through, and all that it keeps, are right
pub record Going (input : List ℕ) (p : Progress) (journal numbers sets records memo : List ℕ) : Type 0 where
  pub few : length input ≤ longest
  pub steps : p.count + header_size ≤ p.pos
  pub inside : p.pos ≤ length input
  pub kept : Kept p.ledger journal numbers sets records memo

-- of a text a piece was written at the front of a buffer, which is otherwise as it was, and the rest remains
pub record Piece (text before after : List ℕ) (written : ℕ) (rest : List ℕ) : Type 0 where
  pub piece : List ℕ
  pub cut : text ≡ piece ++ rest
  pub put : Put before 0 piece after written
  pub fits : written ≤ length before

-- what a run keeps at its start
abbrev pub blank : ℕ → List ℕ
blank n = replicate n 0

-- what check 1 turns back: a ledger of no vaults, and nothing is left to read
abbrev pub turned_back : List ℕ → Run
turned_back input = run_at (new_ledger 0 0 0 0) (length input) 0 (blank journal_size)

-- a run starts on tables of zeros and says nothing yet; where check 1 turns the input back, that is its whole text
pub record Started (input before after : List ℕ) (p : Progress) : Type 0 where
  pub piece : Piece (run_text input) before after p.written (text_from input (run_of p (blank journal_size)))
  pub passed : p.pos < length input → opens input ≡ true
  pub going : opens input ≡ true → Going input p (blank journal_size) (blank numbers_size) (blank sets_size) (blank records_size) (blank capacity)
  pub silent : opens input ≡ true → p.written ≡ 0
  pub first : opens input ≡ true → run_of p (blank journal_size) ≡ begins input
  pub back : opens input ≡ false → run_of p (blank journal_size) ≡ turned_back input
  pub short : p.written ≤ longest_text

pub record Advanced (input : List ℕ) (p : Progress) (journal before : List ℕ) (q : Progress)
    (journal' numbers' sets' records' memo' after : List ℕ) : Type 0 where
  pub piece : Piece (text_from input (run_of p journal)) before after q.written (text_from input (run_of q journal'))
  pub going : Going input q journal' numbers' sets' records' memo'
  pub ends : last_from input (run_of p journal) ≡ last_from input (run_of q journal')
  -- it stops only at the end or where the longest text of a step may not fit, so it goes on in any buffer that takes one
  pub filled : (length input ≤ q.pos) ⊎ (length before < q.written + longest_text)
  pub onward : p.pos < length input → longest_text ≤ length before → p.pos < q.pos
  -- no step has a text that is longer than the longest, and each reads on
  pub short : q.written + longest_text * p.pos ≤ longest_text * q.pos

-- ---- pieces one after another
-- a piece: the buffer before and after, how much of it is printed, and the run that is left
pub record Printed : Type 0 where
  pub before : List ℕ
  pub after : List ℕ
  pub written : ℕ
  pub left : Run

-- from a run on to its end, each as `Advanced` says
abbrev pub Pieces : List ℕ → Run → List Printed → Type 0
Pieces input r [] = length input ≤ r.pos
Pieces input r (p ∷ ps) = Piece (text_from input r) p.before p.after p.written (text_from input p.left) × Pieces input p.left ps

-- what is printed
abbrev pub printed : List Printed → List ℕ
printed [] = []
printed (p ∷ ps) = take p.written p.after ++ printed ps

-- whatever the buffers are, the pieces together are the text
abbrev pub Whole : Type 0
Whole = (input : List ℕ) (p : Printed) (ps : List Printed) → Piece (run_text input) p.before p.after p.written (text_from input p.left)
    → Pieces input p.left ps → printed (p ∷ ps) ≡ run_text input
