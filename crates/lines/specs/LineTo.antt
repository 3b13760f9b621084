-- What was read of a line: where it is right, its bytes follow those that stood before `end`, which stay as they were in any case.
use Rattle.std.specs.Prelude.{List, ◌++◌, ◌≡◌, ◌+◌, ◌≤◌, ℕ, drop, length, take}
use Rattle.rows.specs.Reading.{Parsed as Said}
use Rattle.parsing.specs.declared.Parsed.{Parsed}

pub record LineTo (said : Said) (text : List ℕ) (end : ℕ) (before after : List ℕ) (r : Parsed) : Type 0 where
  pub reason_is : r.reason ≡ said.reason
  pub inside : r.next ≤ length text
  pub keeps : take end after ≡ take end before
  pub rest_is : said.reason ≡ 0 → drop r.next text ≡ said.rest
  pub adds : said.reason ≡ 0 → take r.end after ≡ take end before ++ said.bytes
  pub ends : said.reason ≡ 0 → r.end ≡ end + length said.bytes
