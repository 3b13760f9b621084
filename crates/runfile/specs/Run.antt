-- The whole run: the header, then a text for each step. "Refusal 1 prints `0 1 0` and nothing else; refusal 2 prints its line and ends."
use Rattle.std.specs.Prelude.{Bool, ◌&&◌, cond, List, [], ◌++◌, ◌≡◌, ◌*◌, ◌+◌, ◌-◌, suc, zero, ℕ, eqb, leb, get_or, length, replicate, Err}
use Rattle.outcome.specs.declared.Refusal.TheVariants.{Settings as BadSettings}
use Rattle.federation.specs.Federation.{is_lawful_up_to, latest}
use Rattle.codec.specs.Codec.{longest_record}
use Rattle.journal.specs.Journal.{capacity}
use Rattle.ledger.specs.State.{new_ledger, version_of}
use Rattle.ledger.specs.declared.Ledger.{Ledger}
use Rattle.runfile.specs.Steps.{Command, journal_by, listed_by, next_at, reply_of, step_at, word_at}
use Rattle.text.specs.Text.{line_for, text_for}

-- "reads standard input, at most 65,536 bytes"
abbrev pub longest : ℕ
longest = 65536

-- "`VLT`, version 1 in 16 bits, n and b in a byte each, the faulty set in 16 bits"; the version is one of the settings (M-102)
abbrev pub header_size : ℕ
header_size = 9

unfoldable pub is_header : List ℕ → Bool
is_header input =
    leb header_size (length input)
    && (eqb (get_or input 0 0) 86 && (eqb (get_or input 1 0) 76 && eqb (get_or input 2 0) 84))

-- the version that the header names
abbrev pub version_in : List ℕ → ℕ
version_in input = word_at input 3

-- the ledger with the header's settings
unfoldable pub opened : List ℕ → Ledger
opened input = new_ledger (get_or input 5 0) (get_or input 6 0) (word_at input 7) (version_in input)

-- the run's own journal has room for all the records that can be booked, of either version
abbrev pub journal_size : ℕ
journal_size = longest_record * capacity

-- a run begins at a reader that knows the versions up to the highest, unless check 1 turns the input back: "header or settings wrong, or file too long"
unfoldable pub opens_up_to : ℕ → List ℕ → Bool
opens_up_to highest input = leb (length input) longest && (is_header input && is_lawful_up_to highest (opened input).settings)

abbrev pub opens : List ℕ → Bool
opens = opens_up_to latest

-- a run on its way: where it reads, how many steps it has carried out, the ledger and the book
pub record Run : Type 0 where
  pub pos : ℕ
  pub count : ℕ
  pub ledger : Ledger
  pub journal : List ℕ

abbrev pub begins : List ℕ → Run
begins input = record { pos = header_size; count = 0; ledger = opened input; journal = replicate journal_size 0 }

-- nothing is left to read
abbrev pub ended : List ℕ → Run → Bool
ended input r = leb (length input) r.pos

abbrev pub command_of : List ℕ → Run → Command
command_of input r = step_at (version_of r.ledger) input r.pos

-- what is printed for step number k: its line, and the lines of what it lists
abbrev pub text_of : ℕ → Ledger → List ℕ → Command → List ℕ
text_of k l journal c = text_for k (reply_of l journal c).outcome (listed_by l journal c)

-- the next step carried out
unfoldable pub turn : List ℕ → Run → Run
turn input r = record {
  pos = next_at (version_of r.ledger) input r.pos;
  count = r.count + 1;
  ledger = (reply_of r.ledger r.journal (command_of input r)).ledger;
  journal = journal_by r.ledger r.journal (command_of input r);
}

-- the text of the next n steps, of fewer where the run ends before
unfoldable pub text_next : ℕ → List ℕ → Run → List ℕ
text_next zero input r = []
text_next (suc n) input r =
    cond (ended input r) [] (text_of (r.count + 1) r.ledger r.journal (command_of input r) ++ text_next n input (turn input r))

-- what a run that has come so far has still to print: it has no more steps than bytes
unfoldable pub text_from : List ℕ → Run → List ℕ
text_from input r = text_next (length input - r.count) input r

-- the run after the next n steps
unfoldable pub run_next : ℕ → List ℕ → Run → Run
run_next zero input r = r
run_next (suc n) input r = cond (ended input r) r (run_next n input (turn input r))

-- where it will end
unfoldable pub last_from : List ℕ → Run → Run
last_from input r = run_next (length input - r.count) input r

-- the text for any input, of a reader that knows the versions up to the highest
unfoldable pub text_up_to : ℕ → List ℕ → List ℕ
text_up_to highest input = cond (opens_up_to highest input) (text_from input (begins input)) (line_for 0 (Err BadSettings))

abbrev pub run_text : List ℕ → List ℕ
run_text = text_up_to latest

-- ---- versions (M-102)
pub record Versions : Type 0 where
  -- "A reader that knows only version 1 turns a version 2 file back with 1."
  pub turned : (input : List ℕ) → version_in input ≡ 2 → text_up_to 1 input ≡ line_for 0 (Err BadSettings)
  -- "Version 1 stays readable": of every input whose header says version 1, the reader of version 2 prints what that of version 1 prints
  pub readable : (input : List ℕ) → version_in input ≡ 1 → text_up_to 2 input ≡ text_up_to 1 input
