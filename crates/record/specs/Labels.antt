-- A label is six of A–Z or 0–9, then the medium ("Records"): `L` and a digit 5 to 9, or `M8` (M-100).
use Rattle.std.specs.Prelude.{Bool, cond, ◌&&◌, ◌||◌, ℕ, ◌-◌, ◌*◌, ◌/◌, ◌%◌, ◌^◌, ◌<◌, ◌≡◌, Option, eqb, leb, ltb}
use Rattle.std.specs.Option.{MatchOption}
use Rattle.base.specs.Search.{all_below}

-- low ≤ x ≤ high
unfoldable pub is_between : ℕ → ℕ → ℕ → Bool
is_between low high x = leb low x && leb x high

-- character i of a label
unfoldable pub char_at : ℕ → ℕ → ℕ
char_at label i = label / 2 ^ (8 * i) % 256

-- one of 0–9 or A–Z
unfoldable pub is_alphanumeric : ℕ → Bool
is_alphanumeric c = is_between 48 57 c || is_between 65 90 c

-- ---- media, as columns of the drive table

abbrev pub L5 : ℕ
L5 = 0

abbrev pub L6 : ℕ
L6 = 1

abbrev pub L7 : ℕ
L7 = 2

abbrev pub L8 : ℕ
L8 = 3

abbrev pub L9 : ℕ
L9 = 4

-- generation 7 formatted as Type M
abbrev pub M8 : ℕ
M8 = 5

-- how many media there are
abbrev pub media : ℕ
media = 6

-- the last two characters are `M8`
abbrev pub is_m8 : ℕ → Bool
is_m8 label = eqb (char_at label 6) 77 && eqb (char_at label 7) 56

-- the medium that they name if they are `L` and 5 to 9; else `media`, which is none. Until M-100 this was the whole rule
abbrev pub type_l : ℕ → ℕ
type_l label = cond (eqb (char_at label 6) 76 && is_between 53 57 (char_at label 7)) (char_at label 7 - 53) media

-- the medium that a label names
unfoldable pub medium_of : ℕ → ℕ
medium_of label = cond (is_m8 label) M8 (type_l label)

-- what a search for a label's medium hands back: the medium m, or none where m is `media`
abbrev pub MediumFound : ℕ → Option ℕ → Type 0
MediumFound m r = MatchOption r (m ≡ media) (λ column. (column < media) × (m ≡ column))

unfoldable pub is_label : ℕ → Bool
is_label label = all_below 6 (λ i. is_alphanumeric (char_at label i)) && ltb (medium_of label) media
