-- The two constant tables say what the house table's rows list, and M8's rule: one computed test over both, turned into
-- the rule at each drive and medium. A medium past the last column is in no row.
-- as in src/lib.rt
use mathlib.Core.Bool.{Bool, ◌&&◌, ◌||◌, cond, false, not, true}
use mathlib.Core.List.{List, [], ◌∷◌}
use mathlib.Core.Path.{◌≡◌, refl, subst, sym}
use Prim.Native.Nat.{◌+◌, ◌-◌, ◌<◌, ◌≤◌, ℕ}
use native.Mathlib.Omega.{arith}
use lib.Dec.{eqb, ltb}
use lib.ListN.{get_or}
use borrow.Author.Tests.{le-leb, ltb-true, ne_eqb, not-true}
use Rattle.base.proofs.Reflect.{and_false, and_true, by_cases}
use Rattle.base.proofs.Search.{all_at}
use Rattle.base.specs.Search.{all_below}
use Rattle.drives.specs.Drives.{is_drive, is_in_table, is_listed, read_rows, supports, write_rows}
use Rattle.record.proofs.Ranges.{reflect_between}
use Rattle.record.specs.Labels.{M8, is_between, media}

abbrev reads : List (List Bool)
reads =
    (true ∷ false ∷ false ∷ false ∷ false ∷ false ∷ [])  -- drive 5 reads
    ∷ (true ∷ true ∷ false ∷ false ∷ false ∷ false ∷ [])  -- drive 6 reads
    ∷ (true ∷ true ∷ true ∷ false ∷ false ∷ false ∷ [])  -- drive 7 reads
    ∷ (false ∷ false ∷ true ∷ true ∷ false ∷ true ∷ [])  -- drive 8 reads
    ∷ (false ∷ false ∷ false ∷ true ∷ true ∷ false ∷ [])  -- drive 9 reads
    ∷ []

abbrev writes : List (List Bool)
writes =
    (true ∷ false ∷ false ∷ false ∷ false ∷ false ∷ [])  -- drive 5 writes
    ∷ (true ∷ true ∷ false ∷ false ∷ false ∷ false ∷ [])  -- drive 6 writes
    ∷ (false ∷ true ∷ true ∷ false ∷ false ∷ false ∷ [])  -- drive 7 writes
    ∷ (false ∷ false ∷ true ∷ true ∷ false ∷ true ∷ [])  -- drive 8 writes
    ∷ (false ∷ false ∷ false ∷ true ∷ true ∷ false ∷ [])  -- drive 9 writes
    ∷ []

abbrev pub cell : Bool → ℕ → ℕ → Bool
cell writing d m = get_or (get_or (cond writing writes reads) (d - 5) []) m false

abbrev row : Bool → ℕ → List ℕ
row writing d = get_or (cond writing write_rows read_rows) (d - 5) []

-- what `supports` says of a drive
abbrev rule : Bool → ℕ → ℕ → Bool
rule writing d m = is_in_table writing d m || (eqb d 8 && eqb m M8)

abbrev pub agree : Bool → Bool → Bool
agree true b = b
agree false b = not b

pub agree_eq : (a b : Bool) → agree a b ≡ true → a ≡ b
agree_eq true b e = sym e
agree_eq false b e = sym (not-true b e)

abbrev all_columns : List ℕ → Bool
all_columns [] = true
all_columns (x ∷ xs) = ltb x media && all_columns xs

-- no row lists what is no column
past : (m : ℕ) (xs : List ℕ) → media ≤ m → all_columns xs ≡ true → is_listed m xs ≡ false
past m [] h e = refl
past m (x ∷ xs) h e =
    let t = and_true (ltb x media) (all_columns xs) e in
    simp (ne_eqb m x (λ q. absurd (omega (arith, ltb-true x media t.0))), past m xs h t.1)

drive_right : Bool → ℕ → Bool
drive_right writing d = all_columns (row writing d) && all_below media (λ m. agree (cell writing d m) (rule writing d m))

both : (writing : Bool) → all_below 5 (λ k. drive_right writing (5 + k)) ≡ true
unfolding drive_right all_below
both true = refl
both false = refl

-- ---- as the code asks it
module _ (writing : Bool) (d m : ℕ) (low : 5 ≤ d) (high : d ≤ 9) where
  at_drive : (all_columns (row writing d) ≡ true) × (all_below media (λ k. agree (cell writing d k) (rule writing d k)) ≡ true)
  unfolding drive_right
  at_drive =
      let e : 5 + (d - 5) ≡ d = omega arith in
      and_true _ _ (subst (λ (k : ℕ). drive_right writing k ≡ true) e (all_at (λ k. drive_right writing (5 + k)) 5 (both writing) (d - 5) (omega arith)))

  pub supports_cell : m < media → cell writing d m ≡ supports writing d m
  unfolding supports is_drive is_between
  supports_cell h =
      simp (le-leb 5 d low, le-leb d 9 high) (agree_eq _ _ (all_at (λ k. agree (cell writing d k) (rule writing d k)) media at_drive.1 m h))

  pub supports_none : media ≤ m → false ≡ supports writing d m
  unfolding supports is_drive is_between
  supports_none h =
      simp (past m (row writing d) h at_drive.0, ne_eqb m M8 (λ q. absurd (omega (arith, q))), and_false)

at_5_to_9 : (d : ℕ) → is_drive d ≡ true → (5 ≤ d) × (d ≤ 9)
unfolding is_drive
at_5_to_9 d = (reflect_between 5 9 d).sound

no_drive : (writing : Bool) (d m : ℕ) → is_drive d ≡ false → false ≡ supports writing d m
unfolding supports
no_drive writing d m t = rw t refl

-- nothing writes or reads what is no medium
pub none_supported : (writing : Bool) (d m : ℕ) → media ≤ m → false ≡ supports writing d m
none_supported writing d m h =
    by_cases (λ _. false ≡ supports writing d m) (is_drive d)
    (λ t. let r = at_5_to_9 d t in supports_none writing d m r.0 r.1 h)
    (no_drive writing d m)

-- what the code's tests leave: a cell of the table, or no medium
pub ruleset cells = (supports_cell, supports_none)
