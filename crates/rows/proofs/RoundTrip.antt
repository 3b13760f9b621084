-- What a row says of a step is read again by the row: one induction over the row.
use mathlib.Core.Bool.{Bool, false, true}
use mathlib.Core.List.{List, [], ◌++◌, ◌∷◌, append_assoc}
use mathlib.Core.Path.{◌∙◌, ◌≡◌, ap, refl, sym}
use Prim.Native.Nat.{◌%◌, ◌+◌, ◌/◌, ◌<◌, ◌^◌, ℕ}
use native.Mathlib.Omega.{arith}
use lib.ListN.{drop, length, length-drop, take-append-drop}
use lib.Seq.{get_or-drop}
use borrow.Author.Tests.{eq-eqb, eqb-true, lt-ltb}
use Rattle.base.proofs.Reflect.{and_true}
use Rattle.codec.proofs.RoundTrip.{le_bytes_le_at}
use Rattle.codec.specs.Codec.{AreBytes, le_at, le_bytes}
use Rattle.rows.specs.Items.{Form, constant, fine, fits_as, form_of, hex_in, hexadecimal, literal, literal_in, members, number, plain}
use Rattle.rows.specs.Items.{plain_in, take_as, text_as, width}
use Rattle.rows.specs.Reading.{read_by}
use Rattle.rows.specs.Writing.{ends_as, ends_next, fits, readable, readable_as, text_by, widths}
use Rattle.rows.proofs.Numbers.{decimal_in, ended, ends_head, hex_in_lem, le_at_lt}
use Rattle.rows.proofs.Sets.{set_in_lem}

-- an item, where what follows a number ends it
item_in : (f : Form) (i v : ℕ) (rest : List ℕ) (next : Bool) → v < 256 ^ width f → fits_as f i v ≡ true → readable_as f next ≡ true
    → (next ≡ true → ends_head rest ≡ true) → take_as f i (text_as f i v ++ rest) ≡ fine v rest
unfolding hex_in plain_in literal_in
item_in constant i v rest next l h r e = ap (λ (x : ℕ). fine x rest) (sym (eqb-true v i h))
item_in (number w) i v rest next l h r e = decimal_in false (256 ^ w) 0 v false rest l ∙ ended false (256 ^ w) 0 v rest (e r)
item_in members i v rest next l h r e = set_in_lem v rest (e r) l
item_in hexadecimal i v rest next l h r e =
    let a : v / 16 < 16 = omega arith in
    let b : v % 16 < 16 = omega arith in
    simp (hex_in_lem (v / 16) a, hex_in_lem (v % 16) b, lt-ltb (v / 16) 16 a, lt-ltb (v % 16) 16 b) (ap (λ (x : ℕ). fine x rest) (omega arith))
item_in plain i v rest next l h r e = simp h
item_in literal i v rest next l h r e = simp (eq-eqb i i refl) (ap (λ (x : ℕ). fine x rest) (omega arith))

-- a row whose next item ends a number shows such a character first
shows_end : (f : Form) (i v : ℕ) (later : Bool) (rest : List ℕ) → ends_as f i later ≡ true → (later ≡ true → ends_head rest ≡ true)
    → ends_head (text_as f i v ++ rest) ≡ true
shows_end constant i v later rest h e = e h
shows_end (number w) i v later rest h e = cc
shows_end members i v later rest h e = cc
shows_end hexadecimal i v later rest h e = cc
shows_end plain i v later rest h e = cc
shows_end literal i v later rest h e = h

ends_row : (is s rest : List ℕ) → ends_head rest ≡ true → ends_next is ≡ true → ends_head (text_by is s ++ rest) ≡ true
unfolding text_by ends_next
ends_row [] s rest e h = e
ends_row (i ∷ is) s rest e h =
    let w = width (form_of i) in
    rw (append_assoc (text_as (form_of i) i (le_at s 0 w)) (text_by is (drop w s)) rest)
    (shows_end (form_of i) i (le_at s 0 w) (ends_next is) (text_by is (drop w s) ++ rest) h (ends_row is (drop w s) rest e))

pub bytes_after : (s : List ℕ) (w : ℕ) → AreBytes s → AreBytes (drop w s)
bytes_after s w b i = rw get_or-drop (b (w + i))

empty : (s : List ℕ) → length s ≡ 0 → s ≡ []
empty [] h = refl
empty (x ∷ s) h = absurd (omega arith)

pub row_in : (is s rest : List ℕ) → AreBytes s → length s ≡ widths is → fits is s ≡ true → readable is ≡ true → ends_head rest ≡ true
    → read_by is (text_by is s ++ rest) ≡ record { reason = 0; bytes = s; rest = rest }
unfolding read_by text_by fits readable widths
row_in [] s rest b n f r e = rw (empty s n)
row_in (i ∷ is) s rest b n f r e =
    let w = width (form_of i) in
    let v = le_at s 0 w in
    let l = text_by is (drop w s) ++ rest in
    let ff = and_true (fits_as (form_of i) i v) (fits is (drop w s)) f in
    let rr = and_true (readable_as (form_of i) (ends_next is)) (readable is) r in
    let n₁ : length (drop w s) ≡ widths is = rw length-drop (omega arith) in
    let t : take_as (form_of i) i (text_as (form_of i) i v ++ l) ≡ fine v l =
    item_in (form_of i) i v l (ends_next is) (le_at_lt w s 0 b) ff.0 rr.0 (ends_row is (drop w s) rest e) in
    let again = row_in is (drop w s) rest (bytes_after s w b) n₁ ff.1 rr.1 e in
    let whole : le_bytes w v ++ drop w s ≡ s = rw (le_bytes_le_at w s 0 b (omega arith)) (take-append-drop w s) in
    rw (append_assoc (text_as (form_of i) i v) (text_by is (drop w s)) rest, t, again)
    (ap (λ (x : List ℕ). record { reason = 0; bytes = x; rest = rest }) whole)
