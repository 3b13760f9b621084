-- What a character of a row stands for, how that is read at the front of a text, and how it is written.
use Rattle.std.specs.Prelude.{List, [], ◌++◌, ◌∷◌, Bool, ◌&&◌, ◌||◌, cond, false, true, ◌*◌, ◌+◌, ◌-◌, ◌/◌, ◌%◌, ◌^◌, suc, zero, ℕ, eqb, leb, ltb, drop, get_or, take}
use Rattle.base.specs.Lists.{same_list}
use Rattle.sets.specs.Bits.{has_bit, with_member}
use Rattle.digits.specs.Digits.{decimal}
use Rattle.rows.specs.Table.{letters}

-- a byte that is not shown, a number of so many bytes, a set of vaults, a byte in hexadecimal, a label's character, and a character that stands for itself
pub data Form : Type 0 where
  constant : Form
  number : ℕ → Form
  members : Form
  hexadecimal : Form
  plain : Form
  literal : Form

unfoldable pub form_of : ℕ → Form
form_of i =
    cond (ltb i 32) constant
    (cond (eqb i 35) (number 1)
    (cond (eqb i 36) (number 4) (cond (eqb i 64) members (cond (eqb i 37) hexadecimal (cond (eqb i 63) plain literal)))))

-- how many bytes of the step it stands for
abbrev pub width : Form → ℕ
width constant = 1
width (number w) = w
width members = 2
width hexadecimal = 1
width plain = 1
width literal = 0

-- ---- why a line is wrong; 0 is none of them
abbrev pub no_number : ℕ
no_number = 1

abbrev pub too_large : ℕ
too_large = 2

abbrev pub no_vault : ℕ
no_vault = 3

abbrev pub no_label : ℕ
no_label = 4

abbrev pub no_byte : ℕ
no_byte = 5

abbrev pub no_match : ℕ
no_match = 6

-- ---- reading
-- what was read at the front of a text: its value and what follows, or why not
pub record Token : Type 0 where
  pub reason : ℕ
  pub value : ℕ
  pub rest : List ℕ

abbrev pub fine : ℕ → List ℕ → Token
fine v l = record { reason = 0; value = v; rest = l }

abbrev pub fault : ℕ → List ℕ → Token
fault why l = record { reason = why; value = 0; rest = l }

unfoldable pub between : ℕ → ℕ → ℕ → Bool
between low high c = leb low c && leb c high

abbrev pub is_digit : ℕ → Bool
is_digit = between 48 57

-- `A` to `Z` and `0` to `9`
unfoldable pub is_plain : ℕ → Bool
is_plain c = between 65 90 c || is_digit c

-- the value of a hexadecimal digit, 16 where it is none
unfoldable pub hex_of : ℕ → ℕ
hex_of c = cond (is_digit c) (c - 48) (cond (between 97 102 c) (c - 87) 16)

-- a number, or the set of some
abbrev pub closed : Bool → ℕ → ℕ → ℕ
closed many set n = cond many (with_member 16 set n) n

-- numbers below a bound in decimal: one, or many with commas between; `seen` says that the last one has a digit already
unfoldable pub numbers_in : Bool → ℕ → Bool → ℕ → ℕ → List ℕ → Token
numbers_in many bound seen set n [] = cond seen (fine (closed many set n) []) (fault no_number [])
numbers_in many bound seen set n (c ∷ l) =
    cond (is_digit c)
    (cond (ltb (n * 10 + (c - 48)) bound) (numbers_in many bound true set (n * 10 + (c - 48)) l) (fault (cond many no_vault too_large) (c ∷ l)))
    (cond seen (cond (many && eqb c 44) (numbers_in many bound false (with_member 16 set n) 0 l) (fine (closed many set n) (c ∷ l)))
    (fault no_number (c ∷ l)))

-- the empty set
unfoldable pub says_none : List ℕ → Bool
says_none l = same_list (take 4 l) (letters "none")

unfoldable pub set_in : List ℕ → Token
set_in l = cond (says_none l) (fine 0 (drop 4 l)) (numbers_in true 16 false 0 0 l)

unfoldable pub hex_in : List ℕ → Token
hex_in l =
    let a = hex_of (get_or l 0 0) in
    let b = hex_of (get_or l 1 0) in
    cond (ltb a 16 && ltb b 16) (fine (a * 16 + b) (drop 2 l)) (fault no_byte l)

unfoldable pub plain_in : List ℕ → Token
plain_in l = cond (is_plain (get_or l 0 0)) (fine (get_or l 0 0) (drop 1 l)) (fault no_label l)

-- a colon stands behind a label alone: where it is missing the label is too long
abbrev pub lacks : ℕ → ℕ
lacks i = cond (eqb i 58) no_label no_match

unfoldable pub literal_in : ℕ → List ℕ → Token
literal_in i l = cond (eqb (get_or l 0 0) i) (fine 0 (drop 1 l)) (fault (lacks i) l)

abbrev pub take_as : Form → ℕ → List ℕ → Token
take_as constant i l = fine i l
take_as (number w) i l = numbers_in false (256 ^ w) false 0 0 l
take_as members i l = set_in l
take_as hexadecimal i l = hex_in l
take_as plain i l = plain_in l
take_as literal i l = literal_in i l

-- ---- writing
-- the members of a set from i on, n numbers long, with commas between
unfoldable pub listed : ℕ → ℕ → ℕ → Bool → List ℕ
listed zero i s first = []
listed (suc n) i s first =
    cond (has_bit s i) (cond first [] (letters ",") ++ (decimal i ++ listed n (suc i) s false)) (listed n (suc i) s first)

unfoldable pub set_text : ℕ → List ℕ
set_text s = cond (eqb s 0) (letters "none") (listed 16 0 s true)

unfoldable pub hex_digit : ℕ → ℕ
hex_digit d = cond (ltb d 10) (48 + d) (87 + d)

abbrev pub text_as : Form → ℕ → ℕ → List ℕ
text_as constant i v = []
text_as (number w) i v = decimal v
text_as members i v = set_text v
text_as hexadecimal i v = hex_digit (v / 16) ∷ hex_digit (v % 16) ∷ []
text_as plain i v = v ∷ []
text_as literal i v = i ∷ []

-- the value can be said: a byte that is not shown is the row's, and a label has its characters
abbrev pub fits_as : Form → ℕ → ℕ → Bool
fits_as constant i v = eqb v i
fits_as (number w) i v = true
fits_as members i v = true
fits_as hexadecimal i v = true
fits_as plain i v = is_plain v
fits_as literal i v = true
