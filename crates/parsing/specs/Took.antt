-- What a function read at a place of a text is what is read at the front of the rest.
use Rattle.std.specs.Prelude.{List, ◌≡◌, ◌≤◌, ℕ, drop, length}
use Rattle.rows.specs.Items.{Token as Said}
use Rattle.rows.specs.Reading.{Parsed as Said-row}
use Rattle.digits.specs.Digits.{Put}
use Rattle.parsing.specs.declared.Parsed.{Parsed}
use Rattle.parsing.specs.declared.Token.{Token}

pub record Took (said : Said) (text : List ℕ) (r : Token) : Type 0 where
  pub reason_is : r.reason ≡ said.reason
  pub value_is : r.value ≡ said.value
  pub rest_is : drop r.next text ≡ said.rest
  pub inside : r.next ≤ length text

-- what was read by a row, and the bytes put at `start`
pub record ReadTo (said : Said-row) (text : List ℕ) (start : ℕ) (before after : List ℕ) (r : Parsed) : Type 0 where
  pub reason_is : r.reason ≡ said.reason
  pub rest_is : drop r.next text ≡ said.rest
  pub inside : r.next ≤ length text
  pub put : Put before start said.bytes after r.end
  pub room : r.end ≤ length before
