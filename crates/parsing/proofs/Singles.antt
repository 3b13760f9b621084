-- What an item is read as, by the ways through its tests.
use mathlib.Core.Bool.{Bool, ◌&&◌, false, true}
use mathlib.Core.List.{List}
use mathlib.Core.Path.{◌∙◌, ◌≡◌, ap, refl, sym}
use Prim.Native.Nat.{◌*◌, ◌+◌, ◌-◌, ◌<◌, ◌≤◌, ℕ}
use native.Mathlib.Omega.{arith}
use lib.Dec.{ltb}
use lib.ListN.{get_or-eq_default, drop, get_or, length, length-drop, length-take, take}
use lib.Seq.{drop-drop, get_or-drop}
use borrow.Author.Tests.{eq-eqb, le-ltb, lt-leb, lt-ltb, ne_eqb}
use Rattle.base.proofs.Lists.{reflect_same}
use Rattle.base.proofs.Reflect.{and_false, refutes}
use Rattle.rows.specs.Items.{Token as Said, between, fault, fine, form_of, hex_in, hex_of, is_digit, is_plain, lacks, literal_in, no_byte, no_label, numbers_in}
use Rattle.rows.specs.Items.{plain_in, says_none, set_in, take_as, width}
use Rattle.rows.specs.Table.{letters}
use Rattle.rows.proofs.Numbers.{above, within}
use Rattle.parsing.specs.Took.{Took}
use Rattle.parsing.specs.declared.Token.{Token}
use Rattle.parsing.proofs.Turns.{digit_low}

-- what stands behind a place
behind : (text : List ℕ) (at i : ℕ) → get_or (drop at text) i 0 ≡ get_or text (at + i) 0
behind text at i = get_or-drop at text i 0

first_behind : (text : List ℕ) (at : ℕ) → get_or (drop at text) 0 0 ≡ get_or text at 0
first_behind text at = behind text at 0 ∙ ap (λ (k : ℕ). get_or text k 0) (native.Mathlib.Nat.add-zero at)

past_end : (text : List ℕ) (at i : ℕ) → length text ≤ at + i → get_or (drop at text) i 0 ≡ 0
past_end text at i h = behind text at i ∙ get_or-eq_default text 0 {n = at + i} h

module _ (text : List ℕ) (at : ℕ) where
  abbrev made : ℕ → ℕ → ℕ → Token
  made w v next = record { reason = w; value = v; next = next }

  taken : (x t : Said) (r : Token) (w v next : ℕ) → r ≡ made w v next → x ≡ t → w ≡ t.reason → v ≡ t.value → drop next text ≡ t.rest
      → next ≤ length text → Took x text r
  taken x t r w v next e q a b d h = rw (e, q) (record { reason_is = a; value_is = b; rest_is = d; inside = h })

  -- ---- the empty set
  pub short_none : length text - at < 4 → false ≡ says_none (drop at text)
  unfolding says_none
  short_none h =
      sym (refutes (reflect_same (take 4 (drop at text)) (letters "none"))
      (λ e. let n = ap length e in omega (arith, n, length-take 4 (drop at text), length-drop at text)))

  long_none : says_none (drop at text) ≡ true → at + 4 ≤ length text
  unfolding says_none
  long_none h =
      let n = ap length ((reflect_same (take 4 (drop at text)) (letters "none")).sound h) in
      omega (arith, n, length-take 4 (drop at text), length-drop at text)

  pub none_room : (b : Bool) → b ≡ says_none (drop at text) → b ≡ true → at + 4 ≤ length text
  none_room b e t = long_none (sym e ∙ t)

  pub none_taken : (b : Bool) (r : Token) → b ≡ says_none (drop at text) → b ≡ true → r ≡ made 0 0 (at + 4) → Took (set_in (drop at text)) text r
  unfolding set_in
  none_taken b r e t m =
      taken _ (fine 0 (drop 4 (drop at text))) r 0 0 (at + 4) m (rw (sym e ∙ t)) refl refl (sym (drop-drop 4 at text)) (long_none (sym e ∙ t))

  pub set_taken : (b : Bool) (r : Token) → b ≡ says_none (drop at text) → b ≡ false → Took (numbers_in true 16 false 0 0 (drop at text)) text r
      → Took (set_in (drop at text)) text r
  unfolding set_in
  set_taken b r e f t = rw (sym e ∙ f) t

  -- ---- hexadecimal
  hex_fault : (r : Token) → r ≡ made 5 0 at → at ≤ length text → (ltb (hex_of (get_or (drop at text) 0 0)) 16 && ltb (hex_of (get_or (drop at text) 1 0)) 16) ≡ false
      → Took (hex_in (drop at text)) text r
  unfolding hex_in
  hex_fault r e h f = taken _ (fault no_byte (drop at text)) r 5 0 at e (rw f) refl refl refl h

  pub hex_short : (r : Token) → r ≡ made 5 0 at → at ≤ length text → length text - at < 2 → Took (hex_in (drop at text)) text r
  unfolding hex_of between
  hex_short r e h l = hex_fault r e h (rw (past_end text at 1 (omega arith)) (and_false (ltb (hex_of (get_or (drop at text) 0 0)) 16)))

  pub hex_first : (r : Token) (a : ℕ) → r ≡ made 5 0 at → at ≤ length text → a ≡ hex_of (get_or text at 0) → 15 < a → Took (hex_in (drop at text)) text r
  hex_first r a e h q l =
      let z : 16 ≤ hex_of (get_or text at 0) = omega (arith, q) in
      hex_fault r e h (rw (first_behind text at, le-ltb (hex_of (get_or text at 0)) 16 z))

  pub hex_second : (r : Token) (b : ℕ) → r ≡ made 5 0 at → at ≤ length text → b ≡ hex_of (get_or text (at + 1) 0) → 15 < b
      → Took (hex_in (drop at text)) text r
  hex_second r b e h q l =
      let z : 16 ≤ hex_of (get_or text (at + 1) 0) = omega (arith, q) in
      hex_fault r e h (rw (behind text at 1, le-ltb (hex_of (get_or text (at + 1) 0)) 16 z) (and_false (ltb (hex_of (get_or (drop at text) 0 0)) 16)))

  pub hex_taken : (r : Token) (a b : ℕ) → r ≡ made 0 (a * 16 + b) (at + 2) → at + 2 ≤ length text → a ≡ hex_of (get_or text at 0) → a ≤ 15
      → b ≡ hex_of (get_or text (at + 1) 0) → b ≤ 15 → Took (hex_in (drop at text)) text r
  unfolding hex_in
  hex_taken r a b e h p l q m =
      let x : hex_of (get_or text at 0) < 16 = omega (arith, p) in
      let y : hex_of (get_or text (at + 1) 0) < 16 = omega (arith, q) in
      taken _ (fine (a * 16 + b) (drop 2 (drop at text))) r 0 (a * 16 + b) (at + 2) e
      (rw (p, q, first_behind text at, behind text at 1, lt-ltb _ 16 x, lt-ltb _ 16 y)) refl refl (sym (drop-drop 2 at text)) h

  -- ---- a character
  pub plain_taken : (r : Token) (b : Bool) (v : ℕ) → r ≡ made 0 v (at + 1) → at < length text → b ≡ is_plain (get_or text at 0) → b ≡ true
      → v ≡ get_or text at 0 → Took (plain_in (drop at text)) text r
  unfolding plain_in
  plain_taken r b v e h q t m =
      taken _ (fine v (drop 1 (drop at text))) r 0 v (at + 1) e (rw (m, first_behind text at, sym q ∙ t)) refl refl (sym (drop-drop 1 at text)) (omega arith)

  pub plain_other : (r : Token) (b : Bool) → r ≡ made 4 0 at → at < length text → b ≡ is_plain (get_or text at 0) → b ≡ false
      → Took (plain_in (drop at text)) text r
  unfolding plain_in
  plain_other r b e h q f = taken _ (fault no_label (drop at text)) r 4 0 at e (rw (first_behind text at, sym q ∙ f)) refl refl refl (omega arith)

  pub plain_over : (r : Token) → r ≡ made 4 0 at → at ≤ length text → length text ≤ at → Took (plain_in (drop at text)) text r
  unfolding plain_in is_plain between
  plain_over r e h l = taken _ (fault no_label (drop at text)) r 4 0 at e (rw (past_end text at 0 (omega arith))) refl refl refl h

  pub literal_taken : (i : ℕ) (r : Token) → r ≡ made 0 0 (at + 1) → at < length text → get_or text at 0 ≡ i → Took (literal_in i (drop at text)) text r
  unfolding literal_in
  literal_taken i r e h q =
      taken _ (fine 0 (drop 1 (drop at text))) r 0 0 (at + 1) e (rw (first_behind text at, eq-eqb (get_or text at 0) i q)) refl refl
      (sym (drop-drop 1 at text)) (omega arith)

  pub literal_other : (i w : ℕ) (r : Token) → w ≡ lacks i → r ≡ made w 0 at → at < length text → (get_or text at 0 ≡ i → ⊥)
      → Took (literal_in i (drop at text)) text r
  unfolding literal_in
  literal_other i w r a e h q =
      taken _ (fault (lacks i) (drop at text)) r w 0 at e (rw (first_behind text at, ne_eqb (get_or text at 0) i q)) a refl refl (omega arith)

  pub literal_over : (i w : ℕ) (r : Token) → w ≡ lacks i → r ≡ made w 0 at → at ≤ length text → length text ≤ at → 0 < i
      → Took (literal_in i (drop at text)) text r
  unfolding literal_in
  literal_over i w r a e h l z =
      taken _ (fault (lacks i) (drop at text)) r w 0 at e (rw (past_end text at 0 (omega arith), ne_eqb 0 i (λ q. omega arith))) a refl refl h

  -- ---- which form
  pub as_constant : (i v : ℕ) (r : Token) → i < 32 → v ≡ i → r ≡ made 0 v at → at ≤ length text → Took (take_as (form_of i) i (drop at text)) text r
  unfolding form_of
  as_constant i v r h q e l = rw (lt-ltb i 32 h) (taken _ (fine i (drop at text)) r 0 v at e refl refl q refl l)

  module _ (i : ℕ) (r : Token) where
    pub as_byte : i ≡ 35 → Took (numbers_in false 256 false 0 0 (drop at text)) text r → Took (take_as (form_of i) i (drop at text)) text r
    unfolding form_of
    as_byte e t = rw e t

    pub as_frames : i ≡ 36 → Took (numbers_in false 4294967296 false 0 0 (drop at text)) text r → Took (take_as (form_of i) i (drop at text)) text r
    unfolding form_of
    as_frames e t = rw e t

    pub as_set : i ≡ 64 → Took (set_in (drop at text)) text r → Took (take_as (form_of i) i (drop at text)) text r
    unfolding form_of
    as_set e t = rw e t

    pub as_hex : i ≡ 37 → Took (hex_in (drop at text)) text r → Took (take_as (form_of i) i (drop at text)) text r
    unfolding form_of
    as_hex e t = rw e t

    pub as_plain : i ≡ 63 → Took (plain_in (drop at text)) text r → Took (take_as (form_of i) i (drop at text)) text r
    unfolding form_of
    as_plain e t = rw e t

    pub as_literal : 32 ≤ i → (i ≡ 35 → ⊥) → (i ≡ 36 → ⊥) → (i ≡ 64 → ⊥) → (i ≡ 37 → ⊥) → (i ≡ 63 → ⊥) → Took (literal_in i (drop at text)) text r
        → Took (take_as (form_of i) i (drop at text)) text r
    unfolding form_of
    as_literal h a b d e f t = rw (le-ltb i 32 h, ne_eqb i 35 a, ne_eqb i 36 b, ne_eqb i 64 d, ne_eqb i 37 e, ne_eqb i 63 f) t

-- ---- what a character is
module _ (c : ℕ) where
  below : (low high : ℕ) → c < low → between low high c ≡ false
  unfolding between
  below low high h = rw (lt-leb low c h)

  pub digit_room : (d : Bool) → d ≡ is_digit c → d ≡ true → 48 ≤ c
  digit_room d e t = digit_low c (sym e ∙ t)

  pub hex_digit_lem : (d : Bool) (v : ℕ) → d ≡ is_digit c → d ≡ true → v ≡ c - 48 → v ≡ hex_of c
  unfolding hex_of
  hex_digit_lem d v e t q = rw (sym e ∙ t) q

  pub hex_low : (d : Bool) → d ≡ is_digit c → d ≡ false → c < 97 → 16 ≡ hex_of c
  unfolding hex_of
  hex_low d e f h = rw (sym e ∙ f, below 97 102 h)

  pub hex_high : (d : Bool) → d ≡ is_digit c → d ≡ false → 102 < c → 16 ≡ hex_of c
  unfolding hex_of
  hex_high d e f h = rw (sym e ∙ f, above 97 102 c h)

  pub hex_letter : (d : Bool) (v : ℕ) → d ≡ is_digit c → d ≡ false → 97 ≤ c → c ≤ 102 → v ≡ c - 87 → v ≡ hex_of c
  unfolding hex_of
  hex_letter d v e f h g q = rw (sym e ∙ f, within 97 102 c h g) q

  pub plain_low : (d : Bool) → c < 65 → d ≡ is_digit c → d ≡ is_plain c
  unfolding is_plain
  plain_low d h e = rw (below 65 90 h) e

  pub plain_high : (d : Bool) → 90 < c → d ≡ is_digit c → d ≡ is_plain c
  unfolding is_plain
  plain_high d h e = rw (above 65 90 c h) e

  pub plain_letter : 65 ≤ c → c ≤ 90 → true ≡ is_plain c
  unfolding is_plain
  plain_letter h g = rw (within 65 90 c h g)

pub ruleset characters = (digit_room, hex_digit_lem, hex_low, hex_high, hex_letter, plain_low, plain_high, plain_letter)

-- ---- how wide
module _ (i : ℕ) where
  pub constant_wide : i < 32 → 1 ≡ width (form_of i)
  unfolding form_of
  constant_wide h = rw (lt-ltb i 32 h)

  pub byte_wide : i ≡ 35 → 1 ≡ width (form_of i)
  unfolding form_of
  byte_wide e = rw e

  pub frames_wide : i ≡ 36 → 4 ≡ width (form_of i)
  unfolding form_of
  frames_wide e = rw e

  pub set_wide : i ≡ 64 → 2 ≡ width (form_of i)
  unfolding form_of
  set_wide e = rw e

  pub hex_wide : i ≡ 37 → 1 ≡ width (form_of i)
  unfolding form_of
  hex_wide e = rw e

  pub plain_wide : i ≡ 63 → 1 ≡ width (form_of i)
  unfolding form_of
  plain_wide e = rw e

  pub literal_wide : 32 ≤ i → (i ≡ 35 → ⊥) → (i ≡ 36 → ⊥) → (i ≡ 64 → ⊥) → (i ≡ 37 → ⊥) → (i ≡ 63 → ⊥) → 0 ≡ width (form_of i)
  unfolding form_of
  literal_wide h a b d e f = rw (le-ltb i 32 h, ne_eqb i 35 a, ne_eqb i 36 b, ne_eqb i 64 d, ne_eqb i 37 e, ne_eqb i 63 f)

pub ruleset wides = (constant_wide, byte_wide, frames_wide, set_wide, hex_wide, plain_wide, literal_wide)

pub ruleset singles = (
  short_none,
  none_room,
  none_taken,
  set_taken,
  hex_short,
  hex_first,
  hex_second,
  hex_taken,
  plain_taken,
  plain_other,
  plain_over,
  literal_taken,
  literal_other,
  literal_over,
)

pub ruleset forms = (as_constant, as_byte, as_frames, as_set, as_hex, as_plain, as_literal)
