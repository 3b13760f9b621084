-- One line: which row it is read by, and the bytes of its step; and which row a step is written by.
use Rattle.std.specs.Prelude.{Bool, ◌&&◌, ◌||◌, cond, false, true, List, [], ◌∷◌, ◌+◌, suc, ℕ, eqb, leb, ltb, get_or}
use Rattle.codec.specs.Codec.{le_at}
use Rattle.rows.specs.Reading.{Parsed, read_by}
use Rattle.rows.specs.Table.{accession, ahead, migration, raw, raw_row, row, rows, shaped, table}
use Rattle.rows.specs.Writing.{fits, text_by}
use Rattle.notation.specs.declared.Shape.{Shape}

-- ---- why a line is wrong, after the reasons of its items
abbrev pub no_word : ℕ
no_word = 7

abbrev pub more_text : ℕ
more_text = 8

abbrev pub too_many : ℕ
too_many = 9

abbrev pub second_header : ℕ
second_header = 10

-- ---- which row: by the line's first word
unfoldable pub word_ends : List ℕ → Bool
word_ends [] = true
word_ends (d ∷ l) = leb d 35

unfoldable pub begins : List ℕ → List ℕ → Bool
begins [] l = word_ends l
begins (c ∷ r) [] = cond (ltb c 32) (begins r []) (eqb c 32)
begins (c ∷ r) (d ∷ l) = cond (ltb c 32) (begins r (d ∷ l)) (cond (eqb c 32) (leb d 35) (eqb d c && begins r l))

-- the first row of some that begins the line, or how many there are
unfoldable pub first_of : List (List ℕ) → List ℕ → ℕ
first_of [] l = 0
first_of (r ∷ rs) l = cond (begins r l) 0 (suc (first_of rs l))

unfoldable pub row_for : List ℕ → ℕ
row_for l = first_of table l

-- ---- a proposal's entries are counted before they are read
-- a line is over at its end, or where a comment begins
unfoldable pub closes : ℕ → Bool
closes c = eqb c 10 || eqb c 35

-- no more than five are told apart
unfoldable pub counted : ℕ → ℕ
counted n = cond (ltb n 5) (n + 1) n

unfoldable pub mark : Shape → ℕ → Shape
mark s c = record {
  inputs = cond (eqb c 58 && cond s.right false true) (counted s.inputs) s.inputs;
  outputs = cond (eqb c 58 && s.right) (counted s.outputs) s.outputs;
  trimmed = cond (eqb c 116 && s.gap) 1 s.trimmed;
  right = eqb c 62 || s.right;
  gap = eqb c 32;
}

unfoldable pub scan : Shape → List ℕ → Shape
scan s [] = s
scan s (c ∷ l) = cond (closes c) s (scan (mark s c) l)

-- all entries of an accession are outputs
unfoldable pub unseen : ℕ → Shape
unseen k = record { inputs = 0; outputs = 0; trimmed = 0; right = eqb k accession; gap = false }

-- ---- a line read
abbrev pub wrong : ℕ → List ℕ → Parsed
wrong why l = record { reason = why; bytes = []; rest = l }

unfoldable pub proposal_read : ℕ → ℕ → Shape → List ℕ → Parsed
proposal_read version k s l =
    cond (leb s.inputs 4 && leb s.outputs 4) (read_by (shaped version k s.inputs s.outputs s.trimmed) l) (wrong too_many l)

unfoldable pub step_read : ℕ → List ℕ → Parsed
step_read version l =
    let k = row_for l in
    cond (leb rows k) (wrong no_word l)
    (cond (ltb k accession) (wrong second_header l)
    (cond (leb k migration) (proposal_read version k (scan (unseen k) l) l) (cond (eqb k raw) (read_by (raw_row version) l) (read_by (row k) l))))

-- ---- a step written
-- the row by its record's kind, its entries and what is trimmed
unfoldable pub shaped_for : ℕ → List ℕ → List ℕ
shaped_for version s = shaped version (accession + get_or s 1 0) (get_or s 3 0) (get_or s 4 0) (le_at s 101 4)

-- it has such a row: an accession has no inputs, and there are four entries at most on either side
unfoldable pub has_shape : List ℕ → Bool
has_shape s = cond (eqb (get_or s 1 0) 0) (eqb (get_or s 3 0) 0) (eqb (get_or s 1 0) 1 && leb (get_or s 3 0) 4) && leb (get_or s 4 0) 4

-- byte by byte exactly where the other form can't say the record
unfoldable pub proposal_row : ℕ → List ℕ → List ℕ
proposal_row version s = cond (has_shape s && fits (shaped_for version s) s) (shaped_for version s) (raw_row version)

unfoldable pub row_of : ℕ → List ℕ → List ℕ
row_of version s = cond (eqb (get_or s 0 0) 1) (proposal_row version s) (row (get_or s 0 0 + ahead))

unfoldable pub line_of : ℕ → List ℕ → List ℕ
line_of version s = text_by (row_of version s) s
