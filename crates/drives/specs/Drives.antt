-- What each drive, 5 to 9, reads and writes: the house table ("Records"), and M8 (M-100).
use Rattle.std.specs.Prelude.{Bool, false, cond, ◌&&◌, ◌||◌, List, [], ◌∷◌, ℕ, ◌-◌, eqb, get_or}
use Rattle.record.specs.Labels.{is_between, L5, L6, L7, L8, L9, M8}

-- document 01's table, a row for each of drives 5 to 9
abbrev pub read_rows : List (List ℕ)
read_rows =
    (L5 ∷ [])  -- drive 5 reads
    ∷ (L5 ∷ L6 ∷ [])  -- drive 6 reads
    ∷ (L5 ∷ L6 ∷ L7 ∷ [])  -- drive 7 reads
    ∷ (L7 ∷ L8 ∷ [])  -- drive 8 reads
    ∷ (L8 ∷ L9 ∷ [])  -- drive 9 reads
    ∷ []

abbrev pub write_rows : List (List ℕ)
write_rows =
    (L5 ∷ [])  -- drive 5 writes
    ∷ (L5 ∷ L6 ∷ [])  -- drive 6 writes
    ∷ (L6 ∷ L7 ∷ [])  -- drive 7 writes
    ∷ (L7 ∷ L8 ∷ [])  -- drive 8 writes
    ∷ (L8 ∷ L9 ∷ [])  -- drive 9 writes
    ∷ []

abbrev pub is_listed : ℕ → List ℕ → Bool
is_listed m [] = false
is_listed m (x ∷ xs) = eqb m x || is_listed m xs

unfoldable pub is_drive : ℕ → Bool
is_drive d = is_between 5 9 d

-- document 01's table has it that drive d writes, or reads, medium m
abbrev pub is_in_table : Bool → ℕ → ℕ → Bool
is_in_table writing d m = is_listed m (get_or (cond writing write_rows read_rows) (d - 5) [])

-- drive d writes, or reads, medium m; of M8 "Drive 8, and no other, reads and writes them" (M-100)
unfoldable pub supports : Bool → ℕ → ℕ → Bool
supports writing d m = is_drive d && (is_in_table writing d m || (eqb d 8 && eqb m M8))
