-- Pascal's triangle (M-104 of document 02): "a stored triangle of rows 0 to 16. The triangle is proved to have 1 at both ends of each row and
-- elsewhere the sum of the two above, and each entry to be C of its row and place."
use Rattle.std.specs.Prelude.{List, [], ◌∷◌, ◌≡◌, ◌+◌, ◌<◌, ◌≤◌, suc, ℕ, get_or}
use Rattle.binomials.specs.Binomials.{choose}

-- a row to a line, as it is printed
abbrev pub triangle : List (List ℕ)
triangle =
    (1 ∷ [])
    ∷ (1 ∷ 1 ∷ [])
    ∷ (1 ∷ 2 ∷ 1 ∷ [])
    ∷ (1 ∷ 3 ∷ 3 ∷ 1 ∷ [])
    ∷ (1 ∷ 4 ∷ 6 ∷ 4 ∷ 1 ∷ [])
    ∷ (1 ∷ 5 ∷ 10 ∷ 10 ∷ 5 ∷ 1 ∷ [])
    ∷ (1 ∷ 6 ∷ 15 ∷ 20 ∷ 15 ∷ 6 ∷ 1 ∷ [])
    ∷ (1 ∷ 7 ∷ 21 ∷ 35 ∷ 35 ∷ 21 ∷ 7 ∷ 1 ∷ [])
    ∷ (1 ∷ 8 ∷ 28 ∷ 56 ∷ 70 ∷ 56 ∷ 28 ∷ 8 ∷ 1 ∷ [])
    ∷ (1 ∷ 9 ∷ 36 ∷ 84 ∷ 126 ∷ 126 ∷ 84 ∷ 36 ∷ 9 ∷ 1 ∷ [])
    ∷ (1 ∷ 10 ∷ 45 ∷ 120 ∷ 210 ∷ 252 ∷ 210 ∷ 120 ∷ 45 ∷ 10 ∷ 1 ∷ [])
    ∷ (1 ∷ 11 ∷ 55 ∷ 165 ∷ 330 ∷ 462 ∷ 462 ∷ 330 ∷ 165 ∷ 55 ∷ 11 ∷ 1 ∷ [])
    ∷ (1 ∷ 12 ∷ 66 ∷ 220 ∷ 495 ∷ 792 ∷ 924 ∷ 792 ∷ 495 ∷ 220 ∷ 66 ∷ 12 ∷ 1 ∷ [])
    ∷ (1 ∷ 13 ∷ 78 ∷ 286 ∷ 715 ∷ 1287 ∷ 1716 ∷ 1716 ∷ 1287 ∷ 715 ∷ 286 ∷ 78 ∷ 13 ∷ 1 ∷ [])
    ∷ (1 ∷ 14 ∷ 91 ∷ 364 ∷ 1001 ∷ 2002 ∷ 3003 ∷ 3432 ∷ 3003 ∷ 2002 ∷ 1001 ∷ 364 ∷ 91 ∷ 14 ∷ 1 ∷ [])
    ∷ (1 ∷ 15 ∷ 105 ∷ 455 ∷ 1365 ∷ 3003 ∷ 5005 ∷ 6435 ∷ 6435 ∷ 5005 ∷ 3003 ∷ 1365 ∷ 455 ∷ 105 ∷ 15 ∷ 1 ∷ [])
    ∷ (1 ∷ 16 ∷ 120 ∷ 560 ∷ 1820 ∷ 4368 ∷ 8008 ∷ 11440 ∷ 12870 ∷ 11440 ∷ 8008 ∷ 4368 ∷ 1820 ∷ 560 ∷ 120 ∷ 16 ∷ 1 ∷ [])
    ∷ []

unfoldable pub entry_at : ℕ → ℕ → ℕ
entry_at row place = get_or (get_or triangle row []) place 0

-- what M-104 asks of it
pub record Pascal (entry : ℕ → ℕ → ℕ) : Type 0 where
  pub first : (n : ℕ) → n ≤ 16 → entry n 0 ≡ 1
  pub last : (n : ℕ) → n ≤ 16 → entry n n ≡ 1
  pub inner : (n k : ℕ) → n < 16 → k < n → entry (suc n) (suc k) ≡ entry n k + entry n (suc k)
  pub is_choose : (n k : ℕ) → n ≤ 16 → k ≤ n → entry n k ≡ choose n k
