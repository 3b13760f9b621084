-- A number in decimal, and text that is written at a cursor.
use Rattle.std.specs.Prelude.{cond, List, [], ◌++◌, ◌∷◌, ◌≡◌, ◌+◌, ◌/◌, ◌%◌, suc, zero, ℕ, ltb, length}
use Rattle.std.proofs.lemmas.List.Edits.{sets}

-- the digits of n, of which there are at most k + 1
unfoldable pub digits : ℕ → ℕ → List ℕ
digits zero n = (48 + n) ∷ []
digits (suc k) n = cond (ltb n 10) ((48 + n) ∷ []) (digits k (n / 10) ++ ((48 + n % 10) ∷ []))

-- a number in decimal: it has no more than n + 1 digits
unfoldable pub decimal : ℕ → List ℕ
decimal n = digits n n

-- the two digits of a number below 100
abbrev pub two_digits : ℕ → List ℕ
two_digits n = (48 + n / 10) ∷ (48 + n % 10) ∷ []

-- the text was written at the cursor, which moved on by its length
pub record Put (before : List ℕ) (at : ℕ) (text after : List ℕ) (r : ℕ) : Type 0 where
  pub moved : r ≡ at + length text
  pub wrote : after ≡ sets before at text
