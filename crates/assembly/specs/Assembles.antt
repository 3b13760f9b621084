-- What is handed back for a text, and what the buffer holds then.
use Rattle.std.specs.Prelude.{cond, List, ◌≡◌, ◌*◌, ◌+◌, ◌≤◌, ℕ, eqb, leb, drop, length}
use Rattle.digits.specs.Digits.{Put}
use Rattle.notation.specs.Files.{Made as Said, line_over, no_header, skip_blanks, too_long}
use Rattle.notation.specs.Lines.{more_text}
use Rattle.runfile.specs.Run.{longest}
use Rattle.parsing.specs.declared.Parsed.{Parsed}
use Rattle.words.specs.Room.{longest_row}
use Rattle.assembly.specs.declared.Made.{Made}

-- what a buffer must have that takes the bytes of any line
abbrev pub line_room : ℕ
line_room = 4 * longest_row + 3

-- the file stands at the front of the buffer, or what the lines before the first wrong one make; the rest of the buffer is as it was
pub record Assembles (said : Said) (before out : List ℕ) (r : Made) : Type 0 where
  pub reason_is : r.reason ≡ said.reason
  pub line_is : r.line ≡ said.line
  pub bytes_are : Put before 0 said.bytes out r.end
  pub inside : r.end ≤ length before

-- why a line can't be taken, 0 if it can, after a file's first bytes up to `end`
pub record Judged (text : List ℕ) (p : Parsed) (end r : ℕ) : Type 0 where
  pub is : r
      ≡ cond (eqb p.reason 0) (cond (line_over (skip_blanks (drop p.next text))) (cond (leb (end + p.end) longest) 0 too_long) more_text) p.reason

abbrev pub ending : ℕ → ℕ → Made
ending line end = cond (eqb end 0) (record { reason = no_header; line = line; end = 0 }) (record { reason = 0; line = line; end = end })
