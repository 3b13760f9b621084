-- A whole text: the header's line, then a line for each step; blank lines and comments are passed over.
use Rattle.std.specs.Prelude.{Bool, ◌&&◌, ◌||◌, cond, not, true, List, [], ◌++◌, ◌∷◌, ◌≡◌, ◌*◌, ◌+◌, ◌-◌, ◌≤◌, suc, zero, ℕ, eqb, leb, ltb, drop, length, take}
use Rattle.codec.specs.Codec.{AreBytes}
use Rattle.rows.specs.Reading.{Parsed, read_by}
use Rattle.rows.specs.Table.{accession, letters, row}
use Rattle.rows.specs.Writing.{text_by}
use Rattle.runfile.specs.Run.{header_size, longest, opens, version_in}
use Rattle.runfile.specs.Steps.{is_unknown, kind_at, next_at}
use Rattle.runfile.specs.declared.Kind.{Kind}
use Rattle.notation.specs.Lines.{closes, line_of, more_text, row_for, step_read, wrong}

-- ---- why a text is wrong, after the reasons of its lines
abbrev pub no_header : ℕ
no_header = 11

abbrev pub unlawful : ℕ
unlawful = 12

abbrev pub too_long : ℕ
too_long = 13

-- ---- lines
abbrev pub is_blank : ℕ → Bool
is_blank c = eqb c 32 || (eqb c 9 || eqb c 13)

unfoldable pub skip_blanks : List ℕ → List ℕ
skip_blanks [] = []
skip_blanks (c ∷ l) = cond (is_blank c) (skip_blanks l) (c ∷ l)

-- nothing more stands on the line but a comment
unfoldable pub line_over : List ℕ → Bool
line_over [] = true
line_over (c ∷ l) = closes c

unfoldable pub after_line : List ℕ → List ℕ
after_line [] = []
after_line (c ∷ l) = cond (eqb c 10) l (after_line l)

-- ---- a text read
-- what has been made of a text so far: the bytes, and the number of the line that comes next, or that is wrong
pub record Made : Type 0 where
  pub reason : ℕ
  pub line : ℕ
  pub bytes : List ℕ

abbrev pub is_none : List ℕ → Bool
is_none bytes = eqb (length bytes) 0

-- the header's line; the settings must be lawful
unfoldable pub header_read : List ℕ → Parsed
header_read l =
    let p = read_by (row (row_for l)) l in
    let bytes = letters "VLT" ++ p.bytes in
    cond (ltb (row_for l) accession)
    (cond (eqb p.reason 0) (cond (opens bytes) (record { reason = 0; bytes = bytes; rest = p.rest }) (wrong unlawful l)) (wrong p.reason l))
    (wrong no_header l)

-- a line after some bytes
unfoldable pub line_read : List ℕ → List ℕ → Parsed
line_read bytes l = cond (is_none bytes) (header_read l) (step_read (version_in bytes) l)

-- the line's bytes are taken, unless something else follows on the line or the file is too long
unfoldable pub taken : Made → Parsed → Made
taken m p =
    let bytes = m.bytes ++ p.bytes in
    let bad : ℕ → Made = λ why. record { reason = why; line = m.line; bytes = m.bytes } in
    cond (eqb p.reason 0)
    (cond (line_over (skip_blanks p.rest))
    (cond (leb (length bytes) longest) (record { reason = 0; line = m.line + 1; bytes = bytes }) (bad too_long)) (bad more_text))
    (bad p.reason)

-- the lines of a text, at most n
unfoldable pub made_from : ℕ → Made → List ℕ → Made
made_from zero m l = m
made_from (suc n) m l =
    let start = skip_blanks l in
    let p = line_read m.bytes start in
    cond (is_none l) m
    (cond (line_over start) (made_from n (record { reason = 0; line = m.line + 1; bytes = m.bytes }) (after_line start))
    (cond (eqb (taken m p).reason 0) (made_from n (taken m p) (after_line p.rest)) (taken m p)))

-- a text without a header is no run file
unfoldable pub finished : Made → Made
finished m = cond (eqb m.reason 0 && is_none m.bytes) (record { reason = no_header; line = m.line; bytes = [] }) m

unfoldable pub assembled : List ℕ → Made
assembled text = finished (made_from (length text) (record { reason = 0; line = 1; bytes = [] }) text)

-- ---- a file written
abbrev pub is_known : Kind → Bool
is_known k = not (is_unknown k)

-- the bytes of the step at pos
abbrev pub bytes_at : ℕ → List ℕ → ℕ → List ℕ
bytes_at version input pos = take (next_at version input pos - pos) (drop pos input)

-- no step from pos on is answered 2; n steps at most
unfoldable pub whole_from : ℕ → ℕ → List ℕ → ℕ → Bool
whole_from zero version input pos = leb (length input) pos
whole_from (suc n) version input pos =
    cond (leb (length input) pos) true (is_known (kind_at version input pos) && whole_from n version input (next_at version input pos))

-- a run file that has no refusal 1 or 2 in it
unfoldable pub sayable : List ℕ → Bool
sayable input = opens input && whole_from (length input) (version_in input) input header_size

unfoldable pub lines_from : ℕ → ℕ → List ℕ → ℕ → List ℕ
lines_from zero version input pos = []
lines_from (suc n) version input pos =
    cond (leb (length input) pos) []
    (line_of version (bytes_at version input pos) ++ (10 ∷ lines_from n version input (next_at version input pos)))

-- the header's line says the bytes behind `VLT`
unfoldable pub header_line : List ℕ → List ℕ
header_line input = text_by (row (version_in input - 1)) (take 6 (drop 3 input))

unfoldable pub disassembled : List ℕ → List ℕ
disassembled input = header_line input ++ (10 ∷ lines_from (length input) (version_in input) input header_size)

-- ---- how long a text can be: a line and its end have at most so many characters for each byte of their step
abbrev pub per_byte : ℕ
per_byte = 20

-- the text of any file fits a buffer of this size
abbrev pub longest_text : ℕ
longest_text = per_byte * longest

-- ---- the statements
-- a text that makes exactly these bytes
pub record Makes (text bytes : List ℕ) : Type 0 where
  pub fine : (assembled text).reason ≡ 0
  pub same : (assembled text).bytes ≡ bytes

pub record RoundTrips : Type 0 where
  -- the text of a run file assembles to the same bytes
  pub file : (input : List ℕ) → AreBytes input → sayable input ≡ true → Makes (disassembled input) input
  -- and is no longer than this, so that a buffer which takes the longest text takes it
  pub short : (input : List ℕ) → AreBytes input → sayable input ≡ true → length (disassembled input) ≤ per_byte * length input
  -- what assembles is a run file that has no refusal 1 or 2 in it
  pub sound : (text : List ℕ) → (assembled text).reason ≡ 0 → AreBytes (assembled text).bytes × (sayable (assembled text).bytes ≡ true)
  -- so it disassembles to a text that assembles to the same bytes
  pub text : (text : List ℕ) → (assembled text).reason ≡ 0 → Makes (disassembled (assembled text).bytes) (assembled text).bytes
