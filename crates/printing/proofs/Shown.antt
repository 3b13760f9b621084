-- An item as it is written, by the ways through its tests.
use mathlib.Core.Bool.{Bool, cond, false, true}
use mathlib.Core.List.{List, [], ◌++◌, ◌∷◌, append_assoc}
use mathlib.Core.Path.{◌∙◌, ◌≡◌, ap, refl, sym}
use Prim.Native.Nat.{◌%◌, ◌*◌, ◌+◌, ◌-◌, ◌/◌, ◌<◌, ◌^◌, ◌≤◌, suc, zero, ℕ}
use native.Mathlib.Nat.{add-zero}
use native.Mathlib.Omega.{arith}
use lib.Dec.{eqb, ltb}
use lib.ListN.{drop, get_or, length, length-append}
use lib.Seq.{get_or-drop, length-sets, sets}
use borrow.Author.Tests.{eq-eqb, le-ltb, lt-ltb, ne_eqb}
use Rattle.codec.proofs.Numbers.{sets_append}
use Rattle.codec.specs.Codec.{le_at}
use Rattle.rows.proofs.Lengths.{item_few}
use Rattle.rows.proofs.Numbers.{above}
use Rattle.rows.specs.Items.{
  Form,
  constant,
  fits_as,
  form_of,
  hexadecimal,
  literal,
  members,
  number,
  plain,
  hex_digit,
  is_plain,
  listed,
  set_text,
  text_as,
  width,
}
use Rattle.rows.specs.Table.{letters}
use Rattle.rows.specs.Writing.{longest_as}
use Rattle.sets.specs.Bits.{has_bit}
use Rattle.digits.proofs.Writing.{then}
use Rattle.digits.specs.Digits.{Put, decimal}
use Rattle.words.proofs.Copies.{put_none}
use Rattle.printing.specs.Member.{Shown, member}

-- ---- the value of some bytes
from_place : (s : List ℕ) (at i k : ℕ) → le_at s (at + i) k ≡ le_at (drop at s) i k
unfolding le_at
from_place s at i zero = refl
from_place s at i (suc k) =
    let e : at + i + 1 ≡ at + (i + 1) = omega arith in
    rw (get_or-drop at s i 0) (ap (λ (x : ℕ). get_or s (at + i) 0 + 256 * x) (ap (λ (m : ℕ). le_at s m k) e ∙ from_place s at (i + 1) k))

pub behind : (s : List ℕ) (at k : ℕ) → le_at s at k ≡ le_at (drop at s) 0 k
behind s at k = ap (λ (m : ℕ). le_at s m k) (sym (add-zero at)) ∙ from_place s at 0 k

pub bytes_power : (k : ℕ) → k ≤ 4 → (2 ^ (8 * k) ≡ 256 ^ k) × (256 ^ k ≤ 2 ^ 32)
bytes_power zero h = (refl, omega arith)
bytes_power (suc zero) h = (refl, omega arith)
bytes_power (suc (suc zero)) h = (refl, omega arith)
bytes_power (suc (suc (suc zero))) h = (refl, omega arith)
bytes_power (suc (suc (suc (suc zero)))) h = (refl, omega arith)
bytes_power (suc (suc (suc (suc (suc k))))) h = absurd (omega arith)

-- ---- what fits
pub no_plain : (c : ℕ) → 256 ≤ c → false ≡ is_plain c
unfolding is_plain
no_plain c h = rw (above 65 90 c (omega arith), above 48 57 c (omega arith))

module _ (i v : ℕ) where
  pub fits_constant : (b : Bool) (w : ℕ) → i < 32 → w ≡ i → b ≡ eqb v w → b ≡ fits_as (form_of i) i v
  unfolding form_of
  fits_constant b w h e q = rw (lt-ltb i 32 h) (rw e at q)

  pub fits_plain : (b : Bool) → i ≡ 63 → b ≡ is_plain v → b ≡ fits_as (form_of i) i v
  unfolding form_of
  fits_plain b e q = rw e q

  pub fits_other : 32 ≤ i → (i ≡ 63 → ⊥) → true ≡ fits_as (form_of i) i v
  unfolding form_of
  fits_other h n =
      rw (le-ltb i 32 h, ne_eqb i 63 n) (any (eqb i 35) (eqb i 36) (eqb i 64) (eqb i 37))
    where
      any : (a b c d : Bool) → true ≡ fits_as (cond a (number 1) (cond b (number 4) (cond c members (cond d hexadecimal literal)))) i v
      any true b c d = refl
      any false true c d = refl
      any false false true d = refl
      any false false false true = refl
      any false false false false = refl

pub ruleset fitting = (no_plain, fits_constant, fits_plain, fits_other)

-- ---- what is written
module _ (i v : ℕ) {o p : List ℕ} {at r : ℕ} (fit : v < 256 ^ width (form_of i)) where
  so : Put o at (text_as (form_of i) i v) p r → Shown i v o at p r
  so w = record { put = w; few = omega (arith, w.moved, item_few (form_of i) i v fit) }

  pub shows_byte : i ≡ 35 → Put o at (decimal v) p r → Shown i v o at p r
  unfolding form_of
  shows_byte e w = so (rw e w)

  pub shows_frames : i ≡ 36 → Put o at (decimal v) p r → Shown i v o at p r
  unfolding form_of
  shows_frames e w = so (rw e w)

  pub shows_set : i ≡ 64 → Put o at (set_text v) p r → Shown i v o at p r
  unfolding form_of
  shows_set e w = so (rw e w)

  pub shows_hex : i ≡ 37 → Put o at (hex_digit (v / 16) ∷ hex_digit (v % 16) ∷ []) p r → Shown i v o at p r
  unfolding form_of
  shows_hex e w = so (rw e w)

  pub shows_plain : i ≡ 63 → Put o at (v ∷ []) p r → Shown i v o at p r
  unfolding form_of
  shows_plain e w = so (rw e w)

  pub shows_literal : 32 ≤ i → (i ≡ 35 → ⊥) → (i ≡ 36 → ⊥) → (i ≡ 64 → ⊥) → (i ≡ 37 → ⊥) → (i ≡ 63 → ⊥) → Put o at (i ∷ []) p r
      → Shown i v o at p r
  unfolding form_of
  shows_literal h a b d e f w = so (rw (le-ltb i 32 h, ne_eqb i 35 a, ne_eqb i 36 b, ne_eqb i 64 d, ne_eqb i 37 e, ne_eqb i 63 f) w)

pub shows_nothing : (i v : ℕ) (o : List ℕ) (at : ℕ) → i < 32 → Shown i v o at o at
unfolding form_of
shows_nothing i v o at h = record { put = rw (lt-ltb i 32 h) (put_none o at); few = omega arith }

-- a character that stands for no bytes stands for itself
unfoldable tested : (a b c d e f : Bool) → Form
tested a b c d e f = cond a constant (cond b (number 1) (cond c (number 4) (cond d members (cond e hexadecimal (cond f plain literal)))))

itself : (a b c d e f : Bool) (i v : ℕ) {o p : List ℕ} {at r : ℕ} → width (tested a b c d e f) ≡ 0 → Put o at (i ∷ []) p r → r ≤ at + 1
    → Put o at (text_as (tested a b c d e f) i v) p r × (r ≤ at + longest_as (tested a b c d e f))
unfolding tested
itself true b c d e f i v n w k = absurd (omega (arith, n))
itself false true c d e f i v n w k = absurd (omega (arith, n))
itself false false true d e f i v n w k = absurd (omega (arith, n))
itself false false false true e f i v n w k = absurd (omega (arith, n))
itself false false false false true f i v n w k = absurd (omega (arith, n))
itself false false false false false true i v n w k = absurd (omega (arith, n))
itself false false false false false false i v n w k = (w, k)

pub shows_itself : (i v : ℕ) {w : ℕ} {o p : List ℕ} {at r : ℕ} → w ≡ width (form_of i) → w ≡ 0 → Put o at (i ∷ []) p r → r ≤ at + 1
    → Shown i v o at p r
unfolding form_of tested
shows_itself i v wide e w k =
    let both = itself (ltb i 32) (eqb i 35) (eqb i 36) (eqb i 64) (eqb i 37) (eqb i 63) i v (sym wide ∙ e) w k in
    record { put = both.0; few = both.1 }

-- a value fits its width
pub set_below : (i v : ℕ) → i ≡ 64 → v < 256 ^ width (form_of i) → v < 65536
unfolding form_of
set_below i v e h = rw e at h

pub hex_below : (i v : ℕ) → i ≡ 37 → v < 256 ^ width (form_of i) → v < 256
unfolding form_of
hex_below i v e h = rw e at h

pub plain_below : (i v : ℕ) → i ≡ 63 → v < 256 ^ width (form_of i) → v < 256
unfolding form_of
plain_below i v e h = rw e at h

pub ruleset showing = (shows_byte, shows_frames, shows_set, shows_hex, shows_plain, shows_literal, shows_nothing, set_below, hex_below, plain_below)

-- ---- hexadecimal digits
pub digit_low : (d : ℕ) → d < 10 → 48 + d ≡ hex_digit d
unfolding hex_digit
digit_low d h = rw (lt-ltb d 10 h)

pub digit_high : (d : ℕ) → 10 ≤ d → 87 + d ≡ hex_digit d
unfolding hex_digit
digit_high d h = rw (le-ltb d 10 h)

pub hex_put : {o p q : List ℕ} {at j r a b : ℕ} (v : ℕ) → a ≡ hex_digit (v / 16) → b ≡ hex_digit (v % 16) → Put o at (a ∷ []) p j → Put p j (b ∷ []) q r
    → Put o at (hex_digit (v / 16) ∷ hex_digit (v % 16) ∷ []) q r
hex_put v e f a b = then (rw e at a) (rw f at b)

-- ---- a set
pub member_first : {o p : List ℕ} {at r : ℕ} (first : Bool) (i w : ℕ) → first ≡ true → w ≡ i → Put o at (decimal w) p r → Put o at (member first i) p r
unfolding member
member_first first i w t e d = rw t (rw e at d)

pub member_later : {o p q : List ℕ} {at j r : ℕ} (first : Bool) (i w : ℕ) → first ≡ false → w ≡ i → Put o at (44 ∷ []) p j → Put p j (decimal w) q r
    → Put o at (member first i) q r
unfolding member
member_later first i w t e c d = rw t (then c (rw e at d))

pub none_put : {o p : List ℕ} {at r : ℕ} (s : ℕ) → s ≡ 0 → Put o at (letters "none") p r → Put o at (set_text s) p r
unfolding set_text
none_put s e w = rw (eq-eqb s 0 e) w

pub record Listing (s : ℕ) (before : List ℕ) (at i end : ℕ) (first : Bool) (out : List ℕ) : Type 0 where
  pub puts : sets out end (listed (16 - i) i s first) ≡ sets before at (set_text s)
  pub moves : end + length (listed (16 - i) i s first) ≡ at + length (set_text s)
  pub within : i ≤ 16
  pub few : end ≤ at + 11 * i
  pub size : length out ≡ length before

pub list_begun : (s : ℕ) (before : List ℕ) (at : ℕ) → (s ≡ 0 → ⊥) → Listing s before at 0 at true before
unfolding set_text
list_begun s before at n = record {
  puts = rw (ne_eqb s 0 n);
  moves = rw (ne_eqb s 0 n);
  within = omega arith;
  few = omega arith;
  size = refl;
}

module _ {s : ℕ} {before : List ℕ} {at i end : ℕ} {first : Bool} {out : List ℕ} (now : Listing s before at i end first out) where
  more : (n : ℕ) → listed (suc n) i s first ≡ cond (has_bit s i) (member first i ++ listed n (suc i) s false) (listed n (suc i) s first)
  unfolding listed member
  more n =
      rw (append_assoc (cond first [] (letters ",")) (decimal i) (listed n (suc i) s false))

  pub list_turn : (b : Bool) (r : ℕ) (out₁ : List ℕ) → i < 16 → b ≡ has_bit s i → b ≡ true → Put out end (member first i) out₁ r → r ≤ end + 11
      → Listing s before at (i + 1) r false out₁
  list_turn b r out₁ h e t w k =
      let n : 16 - i ≡ suc (16 - suc i) = omega arith in
      let f : i + 1 ≡ suc i = omega arith in
      let l = listed (16 - suc i) (suc i) s false in
      let whole : listed (16 - i) i s first ≡ member first i ++ l = rw n (more (16 - suc i) ∙ rw (sym e ∙ t)) in
      record {
        puts = rw (f, w.wrote, w.moved) (sym (sets_append (member first i) out end l) ∙ ap (sets out end) (sym whole) ∙ now.puts);
        moves = rw f (omega (arith, w.moved, length-append (member first i) l, ap length whole, now.moves));
        within = omega arith;
        few = omega (arith, now.few);
        size = rw w.wrote (length-sets out end (member first i) ∙ now.size);
      }

  pub list_pass : (b : Bool) → i < 16 → b ≡ has_bit s i → b ≡ false → Listing s before at (i + 1) end first out
  list_pass b h e t =
      let n : 16 - i ≡ suc (16 - suc i) = omega arith in
      let f : i + 1 ≡ suc i = omega arith in
      let whole : listed (16 - i) i s first ≡ listed (16 - suc i) (suc i) s first = rw n (more (16 - suc i) ∙ rw (sym e ∙ t)) in
      record {
        puts = rw f (ap (sets out end) (sym whole) ∙ now.puts);
        moves = rw f (omega (arith, ap length whole, now.moves));
        within = omega arith;
        few = omega (arith, now.few);
        size = now.size;
      }

  pub list_done : 16 ≤ i → Put before at (set_text s) out end
  unfolding listed
  list_done h =
      let n : 16 - i ≡ 0 = omega arith in
      record { moved = omega (arith, rw n at now.moves); wrote = rw n at now.puts }

pub ruleset lists = (member_first, member_later, none_put, list_begun, list_turn, list_pass, list_done)
