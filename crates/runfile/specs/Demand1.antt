-- Demand 1 of a run file: refusal 1, said by the file's bytes; the table of kinds, and refusal 2 where no row of it fits; kind 7's row; and that each line that
-- is printed has the figures of its step's row. The rows of the kinds that ask something of a ledger are `order` of the ledger's page.
use Rattle.std.specs.Prelude.{List, [], ◌++◌, ◌∷◌, ◌≡◌, ◌+◌, ◌-◌, ◌<◌, ◌≤◌, ℕ, drop, get_or, length, take}
use Rattle.base.specs.Lists.{In}
use Rattle.binomials.specs.Binomials.{choose}
use Rattle.binomials.specs.Draw.{Nearest}
use Rattle.federation.specs.Federation.{Lawful}
use Rattle.federation.specs.declared.Settings.{Settings}
use Rattle.ledger.specs.Demand1.{Gives, First, CheckRow, order}
use Rattle.ledger.specs.Quota.{asked}
use Rattle.ledger.specs.State.{version_of}
use Rattle.ledger.specs.Worlds.{Event, World, after_all, client_preflight, commit, dependencies, equivocating, faulty_vote, generations, preflight, propose}
use Rattle.ledger.specs.Worlds.{release}
use Rattle.ledger.specs.Worlds.{show, snapshot}
use Rattle.text.specs.Text.{line_of}
use Rattle.vaults.specs.declared.Column.TheVariants.{Acknowledgements, Signatures}
use Rattle.runfile.specs.History.{Item, begun, drawn, event, events, item_of, steps, told, unread}
use Rattle.runfile.specs.Run.{Run, begins, run_next, run_text, text_next, turn}
use Rattle.runfile.specs.Steps.{Command, draw, next_at, request, step_at, unreadable, word_at}

-- ---- refusal 1: "header or settings wrong, or file too long"

-- what a file has that gets another answer
pub record Readable (input : List ℕ) : Type 0 where
  -- "at most 65,536 bytes"
  pub short : length input ≤ 65536
  -- "`VLT`, version 1 in 16 bits, n and b in a byte each, the faulty set in 16 bits"; version 2 is M-102's
  pub whole : 9 ≤ length input
  pub letters : take 3 input ≡ 86 ∷ 76 ∷ 84 ∷ []
  pub settings : Lawful (record { n = get_or input 5 0; b = get_or input 6 0; faulty = word_at input 7; version = word_at input 3 })

-- `0 1 0` and the line's end
abbrev pub zero_one_zero : List ℕ
zero_one_zero = 48 ∷ 32 ∷ 49 ∷ 32 ∷ 48 ∷ 10 ∷ []

pub record Refusal1 (input : List ℕ) : Type 0 where
  -- "Refusal 1 prints `0 1 0` and nothing else"
  pub printed : (Readable input → ⊥) → run_text input ≡ zero_one_zero
  -- and no other file prints that
  pub only : Readable input → run_text input ≡ zero_one_zero → ⊥

-- ---- the kinds: "Then steps, each a kind byte and its body; vault, job and u are one byte"

-- a kind byte, how many bytes its body has, and what a body asks for
pub record KindRow : Type 0 where
  pub byte : ℕ
  pub size : ℕ
  pub asks : List ℕ → Command

-- "A job record has 100 bytes"; "A run file of version 2 has records of 104 bytes" (M-102)
pub data RecordBytes : ℕ → ℕ → Type 0 where
  version_1 : RecordBytes 1 100
  version_2 : RecordBytes 2 104

-- where a record has so many bytes
abbrev pub kinds : ℕ → List KindRow
kinds bytes_of_record =
    -- "1 propose (record); 2 preflight (vault, job); 3 commit (vault, job, signers)", signers a 16-bit set
    record { byte = 1; size = bytes_of_record; asks = λ body. request (propose body) }
    ∷ record { byte = 2; size = 2; asks = λ body. request (preflight (get_or body 0 0) (get_or body 1 0)) }
    ∷ record { byte = 3; size = 4; asks = λ body. request (commit (get_or body 0 0) (get_or body 1 0) (word_at body 2)) }
    -- "4 faulty signature (vault, job); 5 faulty acknowledgement (vault, job)"
    ∷ record { byte = 4; size = 2; asks = λ body. request (faulty_vote Signatures (get_or body 0 0) (get_or body 1 0)) }
    ∷ record { byte = 5; size = 2; asks = λ body. request (faulty_vote Acknowledgements (get_or body 0 0) (get_or body 1 0)) }
    -- "6 show (job); 7 draw (u); 8 generations (job)"
    ∷ record { byte = 6; size = 1; asks = λ body. request (show (get_or body 0 0)) }
    ∷ record { byte = 7; size = 1; asks = λ body. draw (get_or body 0 0) }
    ∷ record { byte = 8; size = 1; asks = λ body. request (generations (get_or body 0 0)) }
    -- M-101: "A step of kind 9, without a body"
    ∷ record { byte = 9; size = 0; asks = λ body. request snapshot }
    -- M-105: "A step of kind 10 (vault, job, rival)"
    ∷ record { byte = 10; size = 3; asks = λ body. request (release (get_or body 0 0) (get_or body 1 0) (get_or body 2 0)) }
    -- M-108: "A step of kind 11 (vault, job)"
    ∷ record { byte = 11; size = 2; asks = λ body. request (dependencies (get_or body 0 0) (get_or body 1 0)) }
    -- M-109: "A step of kind 12 (vault, job, desk in one byte)"
    ∷ record { byte = 12; size = 3; asks = λ body. request (client_preflight (get_or body 0 0) (get_or body 1 0) (get_or body 2 0)) }
    -- M-113: "A step of kind 13, without a body"
    ∷ record { byte = 13; size = 0; asks = λ body. request equivocating }
    ∷ []

-- a step of the kind stands at pos, with all of its body
pub record StandsAt (input : List ℕ) (pos : ℕ) (kind : KindRow) : Type 0 where
  pub named : get_or input pos 0 ≡ kind.byte
  pub whole : pos + 1 + kind.size ≤ length input

-- 2: "kind unknown or body cut short", whatever the ledger is: "2 comes before all others of a step"
abbrev pub NoKindFits : ℕ → List ℕ → ℕ → Type 0
NoKindFits bytes_of_record input pos = (kind : KindRow) → In kind (kinds bytes_of_record) → StandsAt input pos kind → ⊥

-- what is read at pos, and where the next step stands
pub record Reads (version bytes_of_record : ℕ) (input : List ℕ) (pos : ℕ) : Type 0 where
  pub read : (kind : KindRow) → In kind (kinds bytes_of_record) → StandsAt input pos kind
      → (step_at version input pos ≡ kind.asks (take kind.size (drop (pos + 1) input))) × (next_at version input pos ≡ pos + 1 + kind.size)
  pub cut : NoKindFits bytes_of_record input pos → step_at version input pos ≡ unreadable

-- "refusal 2 prints its line and ends": after m steps, whose text comes first, the line of the next one and nothing behind it
abbrev pub Refusal2 : List ℕ → ℕ → Type 0
Refusal2 input m = run_text input ≡ text_next m input (begins input) ++ line_of (m + 1) 2 0

-- ---- kind 7: "17". "the chance that a random preflight quorum fails, 1 − C(n−u, n−b) / C(n, n−b), in thousandths", the nearest one, an exact half "to the
-- even neighbour" (M-103); of settings that a file may not have, 1
abbrev pub OfDraw : Settings → ℕ → CheckRow
OfDraw s u =
    let q = s.n - s.b in
    First (Lawful s → ⊥) 1 (First (s.n < u) 17 (Gives (Nearest (choose s.n q - choose (s.n - u) q) (choose s.n q))))

-- ---- the steps of a run, by where they stand

-- after m steps a run has come to a place where its next step stands
pub record NextStep (input : List ℕ) (m : ℕ) : Type 0 where
  pub before : List Item
  pub later : List Item
  pub many : length before ≡ m
  pub next : steps input ≡ before ++ (item_of (run_next m input (begins input)) (step_at (word_at input 3) input (run_next m input (begins input)).pos) ∷ later)

-- ---- the lines: "step number from 1, 0 or the refusal, a value"

-- the row of a step in a world that a list of steps led to
abbrev pub row_for : World → List Event → Item → CheckRow
row_for w₀ es (event e) = order (after_all w₀ es) e (λ v client. asked v client w₀ es []) e.request
row_for w₀ es (drawn u) = OfDraw (after_all w₀ es).ledger.settings u
row_for w₀ es unread = λ number value. (number ≡ 2) × (value ≡ 0)

-- after the text of the steps before, the line of this one, with figures that its row allows
pub record PrintedLine (input : List ℕ) (before : List Item) (item : Item) : Type 0 where
  pub number : ℕ
  pub value : ℕ
  pub behind : List ℕ
  pub printed : run_text input ≡ told 0 (begun input) before ++ (line_of (length before + 1) number value ++ behind)
  pub row : row_for (begun input) (events before) item number value

-- ---- the statement
pub record RunInOrder : Type 0 where
  pub refusal_1 : (input : List ℕ) → Refusal1 input
  pub reads : (version bytes_of_record : ℕ) → RecordBytes version bytes_of_record → (input : List ℕ) (pos : ℕ) → Reads version bytes_of_record input pos
  -- the first step stands behind the header's nine bytes, and each other one where the one before ends
  pub starts : (input : List ℕ) → (begins input).pos ≡ 9
  pub goes_on : (input : List ℕ) (r : Run) → (turn input r).pos ≡ next_at (version_of r.ledger) input r.pos
  -- wherever a run has come and something is left to read
  pub next_step : (input : List ℕ) (m : ℕ) → (run_next m input (begins input)).pos < length input → NextStep input m
  pub refusal_2 : (input : List ℕ) → Readable input → (bytes_of_record : ℕ) → RecordBytes (word_at input 3) bytes_of_record → (m : ℕ)
      → let r : Run = run_next m input (begins input) in r.pos < length input → NoKindFits bytes_of_record input r.pos → Refusal2 input m
  pub lines : (input : List ℕ) → Readable input → (before later : List Item) (item : Item) → steps input ≡ before ++ (item ∷ later)
      → PrintedLine input before item
