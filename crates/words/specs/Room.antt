-- How long a row can be.
use Rattle.std.specs.Prelude.{cond, List, [], ℕ, eqb}
use Rattle.rows.specs.Table.{accession, letters}

-- no row has more characters
abbrev pub longest_row : ℕ
longest_row = 180

-- what a buffer must have in which a row is made
abbrev pub row_room : ℕ
row_room = 2048

-- what stands between the inputs and the outputs
unfoldable pub arrow : ℕ → List ℕ
arrow k = cond (eqb k accession) [] (letters " ->")
