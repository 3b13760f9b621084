-- A text that a caller gets whole or not at all.
use Rattle.std.specs.Prelude.{Bool, false, true, List, ◌≡◌, ◌*◌, ◌+◌, ◌<◌, ◌≤◌, ℕ, length}
use Rattle.std.proofs.lemmas.List.Edits.{sets}
use Rattle.runfile.specs.Run.{longest}
use Rattle.text.specs.Text.{longest_text}

-- the answer is the length of the whole text, which stands at the front of a buffer with room for it; a shorter one is as it was
pub record Fits (text before after : List ℕ) (r : ℕ) : Type 0 where
  pub needed : r ≡ length text
  pub whole : length text ≤ length before → after ≡ sets before 0 text
  pub nothing : length before < length text → after ≡ before

-- ---- on the way
-- a text is written from a place on, or only counted
pub record Written (fits : Bool) (before : List ℕ) (at : ℕ) (text after : List ℕ) (r : ℕ) : Type 0 where
  pub moved : r ≡ at + length text
  pub wrote : fits ≡ true → after ≡ sets before at text
  pub kept : fits ≡ false → after ≡ before

pub record Roomy (fits : Bool) (end : ℕ) (out : List ℕ) : Type 0 where
  pub room : fits ≡ true → end ≤ length out

-- no text of a run has more bytes
abbrev pub most_bytes : ℕ
most_bytes = longest_text * (longest + 1)
