-- What a step that was carried out has written.
use Rattle.std.specs.Prelude.{List, ◌+◌, ◌≤◌, ℕ}
use Rattle.ledger.specs.declared.Listing.{Listing}
use Rattle.digits.specs.Digits.{Put}
use Rattle.text.specs.Text.{longest_text, text_for}

-- the step's text stands at the cursor, which moves on to r
pub record Said (number : ℕ) (answer : Listing) (out : List ℕ) (at : ℕ) (out' : List ℕ) (r : ℕ) : Type 0 where
  pub text : Put out at (text_for number answer.outcome answer.members) out' r
  pub short : r ≤ at + longest_text
