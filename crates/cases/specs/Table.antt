-- "Near each edge": C1 to C10, C7, C8 and C10 in two halves. A row has what is answered, by a definition that a contract cites, and the two
-- figures that document 01 gives for it; C9's value is that of M-103 of document 02, "Case C9 changes with it".
use Rattle.std.specs.Prelude.{List, [], ◌++◌, ◌∷◌, ◌+◌, ℕ, replicate}
use Rattle.outcome.specs.Figures.{number_of, value_of, Outcome}
use Rattle.ledger.specs.State.{booking, new_ledger, voted}
use Rattle.ledger.specs.Steps.{commit_of, new_of, propose_of}
use Rattle.vaults.specs.declared.Column.TheVariants.{Signatures}
use Rattle.binomials.specs.Draw.{draw_of}

pub record Row : Type 0 where
  pub case : ℕ
  pub answer : Outcome
  pub number : ℕ
  pub value : ℕ

abbrev pub row : ℕ → Outcome → ℕ → ℕ → Row
row case answer number value = record { case = case; answer = answer; number = number; value = value }

-- ---- what is asked

-- a tape whose label is a letter, AA001L and the medium; frames are four bytes, the low one first
abbrev pub tape : ℕ → ℕ → List ℕ → List ℕ
tape letter medium frames = (letter ∷ 65 ∷ 65 ∷ 48 ∷ 48 ∷ 49 ∷ 76 ∷ (48 + medium) ∷ []) ++ frames

abbrev pub none : List ℕ
none = 0 ∷ 0 ∷ 0 ∷ 0 ∷ []

abbrev pub thousand : List ℕ
thousand = 232 ∷ 3 ∷ 0 ∷ 0 ∷ []

-- 4,294,967,295
abbrev pub most : List ℕ
most = 255 ∷ 255 ∷ 255 ∷ 255 ∷ []

-- the record of an accession of one tape
abbrev pub accession : ℕ → List ℕ → List ℕ
accession drive made = (0 ∷ drive ∷ 0 ∷ 1 ∷ []) ++ (replicate 48 0 ++ (made ++ replicate 36 0))

-- the record of a migration of a tape with medium m, by way of the drive, to one with medium o
abbrev pub migration : ℕ → ℕ → ℕ → List ℕ
migration drive m o = (1 ∷ drive ∷ 1 ∷ 1 ∷ []) ++ (tape 86 m thousand ++ (replicate 36 0 ++ (tape 87 o thousand ++ replicate 36 0)))

-- the record proposed to a new ledger, with room for one in the journal
abbrev pub proposal : List ℕ → Outcome
proposal bytes = (propose_of (new_ledger 4 1 0 1) (replicate 100 0) bytes).outcome

-- job 0 is booked in a ledger of n vaults, b 1, and vaults 0, 1 and 3 have signed it; vault 0 is handed it with signers 11
abbrev pub commit_at : ℕ → Outcome
commit_at n =
    let signed = voted (voted (voted (booking (new_ledger n 1 0 1)) Signatures 0 0) Signatures 1 0) Signatures 3 0 in
    (commit_of signed (replicate 100 0) 0 0 11).outcome

abbrev pub draw_at : ℕ → ℕ → ℕ → Outcome
draw_at n b u = draw_of (record { n = n; b = b; faulty = 0; version = 1 }) u

-- ---- the table
abbrev pub table : List Row
table =
    -- n 3, b 1 refused; n 4, b 1 and n 6, b 1 accepted, thresholds 3 and 5
    row 1 (new_of 3 1 0 1).outcome 1 0
    ∷ row 2 (new_of 4 1 0 1).outcome 0 3
    ∷ row 3 (new_of 6 1 0 1).outcome 0 5
    -- frames 0 refused; frames 4,294,967,295 accepted
    ∷ row 4 (proposal (accession 7 (tape 86 5 none))) 6 0
    ∷ row 5 (proposal (accession 7 (tape 86 5 most))) 0 0
    -- drive 8 with an L6 input refused
    ∷ row 6 (proposal (migration 8 6 8)) 8 0
    -- drive 7 with an L5 output of a migration refused, of an accession accepted
    ∷ row 7 (proposal (migration 7 5 5)) 8 4
    ∷ row 7 (proposal (accession 7 (tape 86 5 thousand))) 0 0
    -- draw n 4, b 1: u 0 gives 0, u 1 gives 750; n 16, b 3: u 1 gives 812
    ∷ row 8 (draw_at 4 1 0) 0 0
    ∷ row 8 (draw_at 4 1 1) 0 750
    ∷ row 9 (draw_at 16 3 1) 0 812
    -- signers 11 name three vaults: enough where three must sign, n 4, and too few where four must, n 5
    ∷ row 10 (commit_at 4) 0 1
    ∷ row 10 (commit_at 5) 16 0
    ∷ []

-- the figures of each answer, and those that the documents give
abbrev pub answered : List Row → List (List ℕ)
answered [] = []
answered (r ∷ rows) = (number_of r.answer ∷ value_of r.answer ∷ []) ∷ answered rows

abbrev pub given : List Row → List (List ℕ)
given [] = []
given (r ∷ rows) = (r.number ∷ r.value ∷ []) ∷ given rows
