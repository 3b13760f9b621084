-- What is read fits: a value has no more bytes than its item, so that nothing is cut, and a row gives as many bytes as it stands for.
use mathlib.Core.Bool.{Bool, ◌&&◌, cond, false, true}
use mathlib.Core.List.{List, [], ◌++◌, ◌∷◌}
use mathlib.Core.Path.{◌≡◌, refl}
use Prim.Native.Nat.{◌*◌, ◌+◌, ◌-◌, ◌/◌, ◌<◌, ◌^◌, suc, zero, ℕ}
use native.Mathlib.Omega.{arith}
use lib.Dec.{eqb, leb, ltb}
use lib.ListN.{get_or, length, length-append}
use borrow.Author.Tests.{eqb-false, leb-true, ltb-true}
use Rattle.base.proofs.Reflect.{and_true, by_test}
use Rattle.codec.proofs.Numbers.{length_le_bytes}
use Rattle.codec.specs.Codec.{AreBytes, le_bytes}
use Rattle.sets.proofs.Bits.{member_lt}
use Rattle.sets.specs.Bits.{with_member}
use Rattle.rows.specs.Items.{Form, closed, constant, form_of, hex_in, hex_of, hexadecimal, is_digit, literal, literal_in, members, no_label}
use Rattle.rows.specs.Items.{no_match, no_vault, number, numbers_in, plain, plain_in, says_none, set_in, take_as, too_large, width}
use Rattle.rows.specs.Reading.{Parsed, read_by}
use Rattle.rows.specs.Writing.{widths}

-- what a test of the way leaves
pub if_fine : {A : Type 0} (P : A → Type 0) (b : Bool) (x y : A) → (b ≡ true → P x) → (b ≡ false → P y) → P (cond b x y)
if_fine P true x y f g = f refl
if_fine P false x y f g = g refl

Fits : ℕ → Rattle.rows.specs.Items.Token → Type 0
Fits limit t = t.reason ≡ 0 → t.value < limit

module _ (many : Bool) (bound limit : ℕ) (ok : (set n : ℕ) → set < 2 ^ 16 → n < bound → closed many set n < limit) where
  numbers_fit : (seen : Bool) (set n : ℕ) (l : List ℕ) → set < 2 ^ 16 → 0 < bound → n < bound → Fits limit (numbers_in many bound seen set n l)
  unfolding numbers_in Fits
  numbers_fit seen set n [] hs hb hn = if_fine (Fits limit) seen _ _ (λ e r. ok set n hs hn) (λ e r. absurd (omega arith))
  numbers_fit seen set n (c ∷ l) hs hb hn =
      if_fine (Fits limit) (is_digit c) _ _
      (λ e. if_fine (Fits limit) (ltb (n * 10 + (c - 48)) bound) _ _ (λ h. numbers_fit true set (n * 10 + (c - 48)) l hs hb (ltb-true _ bound h))
      (λ h r. absurd (if_fine (λ (w : ℕ). w ≡ 0 → ⊥) many no_vault too_large (λ _ q. omega arith) (λ _ q. omega arith) r)))
      (λ e. if_fine (Fits limit) seen _ _
      (λ s. if_fine (Fits limit) (many && eqb c 44) _ _ (λ h. numbers_fit false (with_member 16 set n) 0 l (member_lt 16 set n hs) hb hb)
      (λ h r. ok set n hs hn))
      (λ s r. absurd (omega arith)))

single : (w set n : ℕ) → set < 2 ^ 16 → n < 256 ^ w → closed false set n < 256 ^ w
single w set n hs hn = hn

several : (set n : ℕ) → set < 2 ^ 16 → n < 16 → closed true set n < 256 ^ 2
several set n hs hn = member_lt 16 set n hs

hex_lt : (a b : ℕ) → (ltb a 16 && ltb b 16) ≡ true → a * 16 + b < 256
hex_lt a b h =
    let t = and_true (ltb a 16) (ltb b 16) h in
    omega (arith, ltb-true a 16 t.0, ltb-true b 16 t.1)

plain_lt : (c : ℕ) → Rattle.rows.specs.Items.is_plain c ≡ true → c < 256
unfolding Rattle.rows.specs.Items.is_plain Rattle.rows.specs.Items.between
plain_lt c h =
    by_test (leb 65 c && leb c 90) (λ e. omega (arith, leb-true c 90 (and_true (leb 65 c) (leb c 90) e).1))
    (λ e. omega (arith, leb-true c 57 (and_true (leb 48 c) (leb c 57) (rw e at h)).1))

-- a value has no more bytes than its item
pub item_fits : (f : Form) (i : ℕ) (l : List ℕ) → i < 256 → (take_as f i l).reason ≡ 0 → (take_as f i l).value < 256 ^ width f
unfolding set_in hex_in plain_in literal_in Fits
item_fits constant i l h r = omega arith
item_fits (number w) i l h r = numbers_fit false (256 ^ w) (256 ^ w) (single w) false 0 0 l (omega arith) (powers w) (powers w) r
  where
    powers : (k : ℕ) → 0 < 256 ^ k
    powers zero = omega arith
    powers (suc k) = omega (arith, powers k)
item_fits members i l h r =
    if_fine (Fits (256 ^ 2)) (says_none l) _ _ (λ e q. omega arith) (λ e. numbers_fit true 16 (256 ^ 2) several false 0 0 l (omega arith) (omega arith)
    (omega arith)) r
item_fits hexadecimal i l h r =
    if_fine (Fits 256) (ltb (hex_of (get_or l 0 0)) 16 && ltb (hex_of (get_or l 1 0)) 16) _ _ (λ e q. hex_lt _ _ e) (λ e q. absurd (omega arith)) r
item_fits plain i l h r = if_fine (Fits 256) (Rattle.rows.specs.Items.is_plain (get_or l 0 0)) _ _ (λ e q. plain_lt _ e) (λ e q. absurd (omega arith)) r
item_fits literal i l h r =
    if_fine (Fits 1) (eqb (get_or l 0 0) i) _ _ (λ e q. omega arith)
    (λ e q. absurd (if_fine (λ (w : ℕ). w ≡ 0 → ⊥) (eqb i 58) no_label no_match (λ _ z. omega arith) (λ _ z. omega arith) q)) r

-- ---- bytes
bytes_of : (k v : ℕ) → AreBytes (le_bytes k v)
unfolding le_bytes
bytes_of zero v i = omega arith
bytes_of (suc k) v zero = omega arith
bytes_of (suc k) v (suc i) = bytes_of k (v / 256) i

pub bytes_append : (a b : List ℕ) → AreBytes a → AreBytes b → AreBytes (a ++ b)
bytes_append [] b p q i = q i
bytes_append (x ∷ a) b p q zero = p zero
bytes_append (x ∷ a) b p q (suc i) = bytes_append a b (λ j. p (suc j)) q i

Whole : List ℕ → Parsed → Type 0
Whole is p = AreBytes p.bytes × (p.reason ≡ 0 → length p.bytes ≡ widths is)

-- a row gives bytes, and as many as it stands for
row_whole : (is l : List ℕ) → Whole is (read_by is l)
unfolding read_by widths Whole
row_whole [] l = ((λ i. omega arith), λ r. refl)
row_whole (i ∷ is) l =
    let t = take_as (form_of i) i l in
    let w = width (form_of i) in
    let p = row_whole is t.rest in
    if_fine (Whole (i ∷ is)) (eqb t.reason 0) _ _
    (λ e. (
      bytes_append (le_bytes w t.value) _ (bytes_of w t.value) p.0,
      λ r. rw (length-append, length_le_bytes) (omega (arith, p.1 r)),
    ))
    (λ e. ((λ j. omega arith), λ r. absurd (eqb-false t.reason 0 e r)))

pub read_bytes : (is l : List ℕ) → AreBytes (read_by is l).bytes
unfolding Whole
read_bytes is l = (row_whole is l).0

pub read_size : (is l : List ℕ) → (read_by is l).reason ≡ 0 → length (read_by is l).bytes ≡ widths is
unfolding Whole
read_size is l = (row_whole is l).1
