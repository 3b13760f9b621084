-- The records of document 01's run, as bytes.
use Rattle.std.specs.Prelude.{List, [], ◌++◌, ◌∷◌, ℕ, replicate}

-- an unused entry, VAA001L5 and VAB001L7 with 1000 frames
abbrev pub blank : List ℕ
blank = replicate 12 0

abbrev pub first_tape : List ℕ
first_tape = 86 ∷ 65 ∷ 65 ∷ 48 ∷ 48 ∷ 49 ∷ 76 ∷ 53 ∷ 232 ∷ 3 ∷ 0 ∷ 0 ∷ []

abbrev pub second_tape : List ℕ
second_tape = 86 ∷ 65 ∷ 66 ∷ 48 ∷ 48 ∷ 49 ∷ 76 ∷ 55 ∷ 232 ∷ 3 ∷ 0 ∷ 0 ∷ []

-- a drive's accession of one tape
abbrev pub accession_by : ℕ → List ℕ → List ℕ
accession_by drive tape = (0 ∷ drive ∷ 0 ∷ 1 ∷ []) ++ blank ++ blank ++ blank ++ blank ++ tape ++ blank ++ blank ++ blank

abbrev pub accession : List ℕ
accession = accession_by 7 first_tape

abbrev pub migration : List ℕ
migration = (1 ∷ 7 ∷ 1 ∷ 1 ∷ []) ++ first_tape ++ blank ++ blank ++ blank ++ second_tape ++ blank ++ blank ++ blank
