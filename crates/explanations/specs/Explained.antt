-- A run explained: each step with its number, its text and its answer, then the state of each job; and the same in pieces.
use Rattle.std.specs.Prelude.{cond, List, [], ◌++◌, ◌∷◌, ◌≡◌, ◌+◌, ◌-◌, ◌≤◌, suc, zero, ℕ, eqb, drop, get_or, length, take}
use Rattle.federation.specs.Federation.{threshold_of}
use Rattle.federation.specs.declared.Settings.{Settings}
use Rattle.journal.specs.Journal.{record_at}
use Rattle.ledger.specs.State.{votes_at}
use Rattle.ledger.specs.declared.Ledger.{Ledger}
use Rattle.notation.specs.Files.{bytes_at}
use Rattle.notation.specs.Lines.{line_of}
use Rattle.outcome.specs.Figures.{Outcome}
use Rattle.rows.specs.Table.{letters}
use Rattle.runfile.specs.Run.{Run, begins, command_of, ended, opens, turn}
use Rattle.runfile.specs.Steps.{is_unknown, kind_at, listed_by, reply_of}
use Rattle.job_sets.specs.declared.job_set.JobSet.{JobSet}
use Rattle.digits.specs.Digits.{Put, decimal}
use Rattle.explanations.specs.Answers.{answer_text, job_line}
use Rattle.explanations.specs.Words.{reason}

-- ---- a step
-- its text behind a space; of one that can't be read there is none
unfoldable pub said_at : ℕ → List ℕ → ℕ → List ℕ
said_at version input pos = cond (is_unknown (kind_at version input pos)) [] (32 ∷ line_of version (bytes_at version input pos))

-- the record that the step at pos is about: a proposal's own, else that of the job which a step with a vault names, as the book has it
unfoldable pub record_for : ℕ → List ℕ → ℕ → List ℕ → ℕ → List ℕ
record_for version journal booked input pos =
    cond (eqb (get_or input pos 0) 1) (drop (pos + 1) input) (record_at version journal booked (get_or input (pos + 2) 0))

unfoldable pub answer_at : Settings → List ℕ → ℕ → List ℕ → ℕ → Outcome → JobSet → List ℕ
answer_at s journal booked input pos outcome members =
    answer_text (get_or input pos 0) outcome members (threshold_of s) (record_for s.version journal booked input pos)

unfoldable pub step_text : ℕ → Settings → List ℕ → ℕ → List ℕ → ℕ → Outcome → JobSet → List ℕ
step_text number s journal booked input pos outcome members =
    decimal number
    ++ (said_at s.version input pos ++ (letters ": " ++ (answer_at s journal booked input pos outcome members ++ (10 ∷ []))))

-- the next step of a run, by the book as it stands afterwards
unfoldable pub next_text : List ℕ → Run → List ℕ
next_text input r =
    let after = turn input r in
    step_text after.count after.ledger.settings after.journal after.ledger.booked input r.pos
    (reply_of r.ledger r.journal (command_of input r)).outcome
    (listed_by r.ledger r.journal (command_of input r))

-- ---- the sheet: a line for each booked job, from job k on
unfoldable pub sheet_next : ℕ → Ledger → ℕ → List ℕ
sheet_next zero l k = []
sheet_next (suc n) l k = job_line l.settings (votes_at l k) k ++ sheet_next n l (suc k)

unfoldable pub sheet_from : Ledger → ℕ → List ℕ
sheet_from l k = sheet_next (l.booked - k) l k

-- ---- the whole
-- the next n steps, fewer where the run ends before, and the sheet
unfoldable pub explained_next : ℕ → List ℕ → Run → List ℕ
explained_next zero input r = sheet_from r.ledger 0
explained_next (suc n) input r = cond (ended input r) (sheet_from r.ledger 0) (next_text input r ++ explained_next n input (turn input r))

-- what is still to be said of a run that has come so far: it has no more steps than bytes
unfoldable pub explained_from : List ℕ → Run → List ℕ
explained_from input r = explained_next (length input - r.count) input r

-- "Refusal 1 prints `0 1 0` and nothing else": its words alone
unfoldable pub explained : List ℕ → List ℕ
explained input = cond (opens input) (explained_from input (begins input)) (reason 1 ++ (10 ∷ []))

-- ---- in pieces
-- a piece: the buffer before and after, how much of it is printed, and what is left to say
pub record Said : Type 0 where
  pub before : List ℕ
  pub after : List ℕ
  pub written : ℕ
  pub rest : List ℕ

-- the text's first part was written at the front of the buffer, and the rest is left
pub record Says (text before after : List ℕ) (written : ℕ) (rest : List ℕ) : Type 0 where
  pub part : List ℕ
  pub cut : text ≡ part ++ rest
  pub put : Put before 0 part after written
  pub fits : written ≤ length before

-- one after another until nothing is left
abbrev pub AllSaid : List ℕ → List Said → Type 0
AllSaid text [] = text ≡ []
AllSaid text (p ∷ ps) = Says text p.before p.after p.written p.rest × AllSaid p.rest ps

-- what is printed
abbrev pub printed : List Said → List ℕ
printed [] = []
printed (p ∷ ps) = take p.written p.after ++ printed ps

pub record Whole : Type 0 where
  -- whatever the buffers are, the pieces together are the explanation
  pub pieces : (input : List ℕ) (ps : List Said) → AllSaid (explained input) ps → printed ps ≡ explained input
