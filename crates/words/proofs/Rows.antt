-- A row is the part of the characters between two starts, and none past the last; where the parts are a table's rows, which is computed, each is.
use mathlib.Core.List.{List, [], ◌∷◌}
use mathlib.Core.Path.{◌∙◌, ◌≡◌, ap, refl}
use native.Mathlib.Nat.{add-zero}
use Prim.Native.Nat.{◌+◌, ◌<◌, ◌≤◌, max, suc, zero, ℕ}
use native.Mathlib.Omega.{arith}
use lib.ListN.{drop, get_or, length, length-drop}
use lib.Seq.{get_or-drop}
use Rattle.words.specs.Rows.{part, row_in, rows_in}

-- ---- what a lookup finds
module _ (characters : List ℕ) where
  past : (starts : List ℕ) (k : ℕ) → length starts ≤ suc k → [] ≡ get_or (rows_in characters starts) k []
  unfolding rows_in
  past [] k h = refl
  past (a ∷ []) k h = refl
  past (a ∷ b ∷ l) zero h = absurd (omega arith)
  past (a ∷ b ∷ l) (suc k) h = past (b ∷ l) k (omega arith)

  within : (starts : List ℕ) (k : ℕ) → suc k < length starts → part characters (get_or starts k 0) (get_or starts (suc k) 0) ≡ get_or (rows_in characters starts) k []
  unfolding rows_in
  within [] k h = absurd (omega arith)
  within (a ∷ []) k h = absurd (omega arith)
  within (a ∷ b ∷ l) zero h = refl
  within (a ∷ b ∷ l) (suc k) h = within (b ∷ l) k (omega arith)

-- what stands from place k on begins with the row's two ends, or has not both
module _ (characters starts : List ℕ) (k : ℕ) {rest : List ℕ} (e : rest ≡ drop k starts) where
  pub row_past : length rest < 2 → [] ≡ row_in characters starts k
  unfolding row_in
  row_past h = let n = rw (e, length-drop) at h in past characters starts k (omega (arith, n))

  pub row_between : 2 ≤ length rest → part characters (get_or rest 0 0) (get_or rest 1 0) ≡ row_in characters starts k
  unfolding row_in
  row_between h =
      let n = rw (e, length-drop) at h in
      let two : k + 1 ≡ suc k = omega arith in
      rw (e, get_or-drop, get_or-drop, add-zero, two) (within characters starts k (omega (arith, n)))

-- ---- a table
abbrev longest : List (List ℕ) → ℕ
longest [] = 0
longest (r ∷ table) = max (length r) (longest table)

no_longer : (table : List (List ℕ)) (k : ℕ) → length (get_or table k []) ≤ longest table
no_longer [] k = omega arith
no_longer (r ∷ table) zero = omega arith
no_longer (r ∷ table) (suc k) = omega (arith, no_longer table k)

-- what was found is row k
pub record Found (table : List (List ℕ)) (k : ℕ) (found : List ℕ) : Type 0 where
  pub is : found ≡ get_or table k []
  pub short : length found ≤ longest table

pub found_in : (table : List (List ℕ)) (characters starts : List ℕ) (k : ℕ) {found : List ℕ} → found ≡ row_in characters starts k
    → rows_in characters starts ≡ table → Found table k found
unfolding row_in
found_in table characters starts k f e =
    let is = f ∙ ap (λ (rows : List (List ℕ)). get_or rows k []) e in
    record { is = is; short = rw is (no_longer table k) }
