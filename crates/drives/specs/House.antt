-- The house table ("Records") with M8 (M-100), as a claim: what `supports`, by which check 8 asks, says of every drive and every label. A row has the media
-- that the drive reads and those that it writes, each by the last two characters of a label.
use Rattle.std.specs.Prelude.{Bool, false, true, List, [], ◌∷◌, ◌≡◌, ◌+◌, ◌≤◌, ℕ}
use Rattle.base.specs.Lists.{In}
use Rattle.base.specs.Reflect.{Reflects}
use Rattle.record.specs.Labels.{char_at, medium_of}
use Rattle.drives.specs.Drives.{supports}

-- the last two characters of a label
pub record Ending : Type 0 where
  pub letter : ℕ
  pub digit : ℕ

abbrev pub ending_of : ℕ → Ending
ending_of label = record { letter = char_at label 6; digit = char_at label 7 }

-- `L` and a digit, `M` and a digit
abbrev pub L : ℕ → Ending
L digit = record { letter = 76; digit = 48 + digit }

abbrev pub M : ℕ → Ending
M digit = record { letter = 77; digit = 48 + digit }

-- of all labels the drive reads exactly those with these endings, and writes exactly those with those
pub record Row (drive : ℕ) (read written : List Ending) : Type 0 where
  pub reads : (label : ℕ) → Reflects (supports false drive (medium_of label)) (In (ending_of label) read)
  pub writes : (label : ℕ) → Reflects (supports true drive (medium_of label)) (In (ending_of label) written)

pub record House : Type 0 where
  pub five : Row 5 (L 5 ∷ []) (L 5 ∷ [])
  pub six : Row 6 (L 5 ∷ L 6 ∷ []) (L 5 ∷ L 6 ∷ [])
  pub seven : Row 7 (L 5 ∷ L 6 ∷ L 7 ∷ []) (L 6 ∷ L 7 ∷ [])
  pub eight : Row 8 (L 7 ∷ L 8 ∷ M 8 ∷ []) (L 7 ∷ L 8 ∷ M 8 ∷ [])
  pub nine : Row 9 (L 8 ∷ L 9 ∷ []) (L 8 ∷ L 9 ∷ [])
  -- "drive (5 to 9)": nothing else reads or writes anything
  pub none : (writing : Bool) (drive label : ℕ) → supports writing drive (medium_of label) ≡ true → (5 ≤ drive) × (drive ≤ 9)
  -- of M8 labels "Drive 8, and no other, reads and writes them"
  pub m8 : (writing : Bool) (drive label : ℕ) → ending_of label ≡ M 8 → Reflects (supports writing drive (medium_of label)) (drive ≡ 8)
