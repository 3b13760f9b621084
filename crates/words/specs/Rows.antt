-- A table in two arrays: the characters of its rows, one row after the other, and where each row starts; the last number is where the last row ends.
use Rattle.std.specs.Prelude.{cond, List, [], ◌∷◌, ◌-◌, ℕ, leb, drop, get_or, length, take}

-- the characters from a place to another, none where there are not so many
unfoldable pub part : List ℕ → ℕ → ℕ → List ℕ
part characters from end = cond (leb end (length characters)) (take (end - from) (drop from characters)) []

unfoldable pub rows_in : List ℕ → List ℕ → List (List ℕ)
rows_in characters [] = []
rows_in characters (from ∷ []) = []
rows_in characters (from ∷ end ∷ starts) = part characters from end ∷ rows_in characters (end ∷ starts)

-- a number past the last row has the empty one
unfoldable pub row_in : List ℕ → List ℕ → ℕ → List ℕ
row_in characters starts k = get_or (rows_in characters starts) k []
