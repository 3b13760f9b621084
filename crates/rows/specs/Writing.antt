-- A step written by a row.
use Rattle.std.specs.Prelude.{List, [], ◌++◌, ◌∷◌, Bool, ◌&&◌, ◌||◌, false, not, true, ◌*◌, ◌+◌, suc, ℕ, eqb, drop}
use Rattle.codec.specs.Codec.{le_at}
use Rattle.rows.specs.Items.{Form, constant, fits_as, form_of, hexadecimal, is_digit, literal, members, number, plain, text_as, width}

unfoldable pub text_by : List ℕ → List ℕ → List ℕ
text_by [] s = []
text_by (i ∷ is) s = text_as (form_of i) i (le_at s 0 (width (form_of i))) ++ text_by is (drop (width (form_of i)) s)

-- the row can say the step
unfoldable pub fits : List ℕ → List ℕ → Bool
fits [] s = true
fits (i ∷ is) s = fits_as (form_of i) i (le_at s 0 (width (form_of i))) && fits is (drop (width (form_of i)) s)

-- how many bytes a row stands for
unfoldable pub widths : List ℕ → ℕ
widths [] = 0
widths (i ∷ is) = width (form_of i) + widths is

-- ---- how many characters an item can have, and all items of a row: a number three for each byte and one more, a set two digits and a comma for
-- each of sixteen vaults
abbrev pub longest_as : Form → ℕ
longest_as constant = 0
longest_as (number w) = suc (3 * w)
longest_as members = 48
longest_as hexadecimal = 2
longest_as plain = 1
longest_as literal = 1

unfoldable pub longest_by : List ℕ → ℕ
longest_by [] = 0
longest_by (i ∷ is) = longest_as (form_of i) + longest_by is

-- ---- a row that can be read again: what follows a number or a set can't be taken for a part of it
abbrev pub ends : ℕ → Bool
ends c = not (is_digit c || eqb c 44)

-- what a row shows next ends a number
abbrev pub ends_as : Form → ℕ → Bool → Bool
ends_as constant i later = later
ends_as (number w) i later = false
ends_as members i later = false
ends_as hexadecimal i later = false
ends_as plain i later = false
ends_as literal i later = ends i

unfoldable pub ends_next : List ℕ → Bool
ends_next [] = true
ends_next (i ∷ is) = ends_as (form_of i) i (ends_next is)

abbrev pub readable_as : Form → Bool → Bool
readable_as constant next = true
readable_as (number w) next = next
readable_as members next = next
readable_as hexadecimal next = true
readable_as plain next = true
readable_as literal next = true

unfoldable pub readable : List ℕ → Bool
readable [] = true
readable (i ∷ is) = readable_as (form_of i) (ends_next is) && readable is
