-- The lines of tapes in the release list: for each tape label, frames and the job's number, single spaces between.
use Rattle.std.specs.Prelude.{List, [], ◌++◌, ◌∷◌, map, ◌≡◌, ◌*◌, ◌+◌, ◌≤◌, ℕ, length}
use Rattle.codec.specs.Codec.{le_bytes}
use Rattle.record.specs.declared.Entry.{Entry}
use Rattle.consequences.specs.Freed.{Freed}
use Rattle.digits.specs.Digits.{Put, decimal}
use Rattle.release_lines.specs.declared.Cursor.{Cursor}

-- a label is eight characters, the first one lowest
unfoldable pub tape_line : Freed → List ℕ
tape_line x = le_bytes 8 x.tape.label ++ (32 ∷ (decimal x.tape.frames ++ (32 ∷ (decimal x.job ++ (10 ∷ [])))))

abbrev pub tape_lines : List Freed → List ℕ
tape_lines [] = []
tape_lines (x ∷ xs) = tape_line x ++ tape_lines xs

-- eight characters, ten digits at most for the frames and four for the job, two spaces and the line's end
abbrev pub longest_tape : ℕ
longest_tape = 25

-- tapes of a job
abbrev pub of_job : ℕ → List Entry → List Freed
of_job k tapes = map (λ (t : Entry). record { tape = t; job = k }) tapes

-- the lines of these tapes were written at the cursor, which moved on and counted them
pub record Listed (before : List ℕ) (c : Cursor) (xs : List Freed) (after : List ℕ) (r : Cursor) : Type 0 where
  pub put : Put before c.at (tape_lines xs) after r.at
  pub counted : r.count ≡ c.count + length xs
  pub short : r.at ≤ c.at + longest_tape * length xs
