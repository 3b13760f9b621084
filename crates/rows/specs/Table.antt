-- The words of the text form, in one table by which lines are read and written: a kind of step is a row.
use Rattle.std.specs.Prelude.{List, [], ◌++◌, ◌∷◌, cond, ◌*◌, ◌-◌, suc, zero, ℕ, eqb, get_or}
use Prim.Native.Char.{code}
use Prim.Native.String.{String, [] as none, ◌∷◌ as ◌then◌}
use Rattle.codec.specs.Codec.{record_size, says_trimmed}

-- the characters of a text
abbrev pub letters : String → List ℕ
letters none = []
letters (c then s) = code c ∷ letters s

-- A row is what a line of the kind looks like. A character below 32 is a byte of the step that the line doesn't show; `#` stands for a byte
-- in decimal, `$` for 32 bits in decimal, `@` for a set of vaults in 16 bits, `%` for a byte in hexadecimal, `?` for a character of a label.
-- All others stand for themselves. The header comes first, in either version, then the three forms of a proposal, then kinds 2, 3, ..
abbrev pub table : List (List ℕ)
table =
    letters "\u{1}\0vaults # tolerate # faulty @"
    ∷ letters "\u{2}\0version 2 vaults # tolerate # faulty @"
    ∷ letters "\u{1}\0accession drive #"
    ∷ letters "\u{1}\u{1}migration drive #"
    ∷ letters "\u{1}record "
    ∷ letters "\u{2}preflight vault # job #"
    ∷ letters "\u{3}commit vault # job # signers @"
    ∷ letters "\u{4}faulty-signature vault # job #"
    ∷ letters "\u{5}faulty-acknowledgement vault # job #"
    ∷ letters "\u{6}show job #"
    ∷ letters "\u{7}draw #"
    ∷ letters "\u{8}generations job #"
    ∷ letters "\tsnapshot"
    ∷ letters "\nrelease vault # job # rival #"
    ∷ letters "\u{b}dependencies vault # job #"
    ∷ letters "\u{c}client-preflight vault # job # client #"
    ∷ letters "\requivocating"
    ∷ []

unfoldable pub row : ℕ → List ℕ
row k = get_or table k []

abbrev pub rows : ℕ
rows = 17

-- the rows of the proposals, and how far a kind's row stands behind its number
abbrev pub accession : ℕ
accession = 2

abbrev pub migration : ℕ
migration = 3

abbrev pub raw : ℕ
raw = 4

abbrev pub ahead : ℕ
ahead = 3

-- ---- a proposal's row is as long as its record has entries

-- a list so many times over
unfoldable pub times : ℕ → List ℕ → List ℕ
times zero s = []
times (suc n) s = s ++ times n s

-- so many entries of four, and the others' zeros
unfoldable pub half : ℕ → List ℕ
half n = times n (letters " ????????:$") ++ times (48 - 12 * n) (0 ∷ [])

-- the frames trimmed, in version 2 alone; unsaid they are 0
unfoldable pub trimmed_row : ℕ → ℕ → List ℕ
trimmed_row version trimmed = cond (says_trimmed version) (cond (eqb trimmed 0) (times 4 (0 ∷ [])) (letters " trimmed $")) []

-- an accession has no inputs to show, and a migration has an arrow
unfoldable pub shaped : ℕ → ℕ → ℕ → ℕ → ℕ → List ℕ
shaped version k inputs outputs trimmed =
    row k ++ (inputs ∷ outputs ∷ half inputs) ++ (cond (eqb k accession) [] (letters " ->") ++ (half outputs ++ trimmed_row version trimmed))

-- a record byte by byte
unfoldable pub raw_row : ℕ → List ℕ
raw_row version = row raw ++ times (record_size version) (letters "%")
