-- A loop over numbers: what remains to be read, with what has been read so far, is what there was to read.
use mathlib.Core.Bool.{Bool, ◌&&◌, cond, false, true}
use mathlib.Core.List.{List, [], ◌∷◌}
use mathlib.Core.Path.{◌∙◌, ◌≡◌, ap, refl, sym}
use Prim.Native.Nat.{◌*◌, ◌+◌, ◌-◌, ◌<◌, ◌≤◌, ℕ}
use native.Mathlib.Numerals.{add-one}
use native.Mathlib.Omega.{arith}
use lib.Dec.{eqb, leb}
use lib.ListN.{drop, get_or, length}
use lib.Seq.{drop-cons, drop-length}
use borrow.Author.Tests.{le-ltb, leb-true, lt-ltb}
use Rattle.base.proofs.Reflect.{and_true}
use Rattle.sets.specs.Bits.{with_member}
use Rattle.rows.specs.Items.{Token as Said, between, closed, fault, fine, is_digit, no_number, no_vault, numbers_in, too_large}
use Rattle.parsing.specs.Took.{Took}

pub digit_low : (c : ℕ) → is_digit c ≡ true → 48 ≤ c
unfolding between
digit_low c h = leb-true 48 c (and_true (leb 48 c) (leb c 57) h).0

pub digit_high : (c : ℕ) → is_digit c ≡ true → c ≤ 57
unfolding between
digit_high c h = leb-true c 57 (and_true (leb 48 c) (leb c 57) h).1

-- what stands at a place of a text, and what follows
pub at_place : (text : List ℕ) (at : ℕ) → at < length text → drop at text ≡ get_or text at 0 ∷ drop (at + 1) text
at_place text at h = drop-cons text at 0 h ∙ rw (sym (add-one at))

pub at_end : (text : List ℕ) (at : ℕ) → length text ≤ at → at ≤ length text → drop at text ≡ []
at_end text at h g = let e : at ≡ length text = omega arith in rw e (drop-length text)

-- ---- one character
module _ (many : Bool) (bound set n c : ℕ) (l : List ℕ) where
  in_digit : (seen : Bool) → is_digit c ≡ true → n * 10 + (c - 48) < bound
      → numbers_in many bound seen set n (c ∷ l) ≡ numbers_in many bound true set (n * 10 + (c - 48)) l
  unfolding numbers_in
  in_digit seen h g = simp (h, lt-ltb (n * 10 + (c - 48)) bound g)

  in_over : (seen : Bool) → is_digit c ≡ true → bound ≤ n * 10 + (c - 48)
      → numbers_in many bound seen set n (c ∷ l) ≡ fault (cond many no_vault too_large) (c ∷ l)
  unfolding numbers_in
  in_over seen h g = simp (h, le-ltb (n * 10 + (c - 48)) bound g)

  in_comma : is_digit c ≡ false → (many && eqb c 44) ≡ true → numbers_in many bound true set n (c ∷ l) ≡ numbers_in many bound false (with_member 16 set n) 0 l
  unfolding numbers_in
  in_comma h g = simp (h, g)

  in_closed : is_digit c ≡ false → (many && eqb c 44) ≡ false → numbers_in many bound true set n (c ∷ l) ≡ fine (closed many set n) (c ∷ l)
  unfolding numbers_in
  in_closed h g = simp (h, g)

  in_none : is_digit c ≡ false → numbers_in many bound false set n (c ∷ l) ≡ fault no_number (c ∷ l)
  unfolding numbers_in
  in_none h = simp h

-- what a token is that was read here
pub read_here : {text : List ℕ} {x : Said} (t : Said) (w v at : ℕ) → x ≡ t → w ≡ t.reason → v ≡ t.value → drop at text ≡ t.rest → at ≤ length text
    → Took x text (record { reason = w; value = v; next = at })
read_here t w v at e a b d h = rw e (record { reason_is = a; value_is = b; rest_is = d; inside = h })

pub record Going (many : Bool) (bound : ℕ) (text : List ℕ) (from at : ℕ) (seen : Bool) (set n : ℕ) : Type 0 where
  pub remains : numbers_in many bound seen set n (drop at text) ≡ numbers_in many bound false 0 0 (drop from text)
  pub inside : at ≤ length text
  pub small : n < bound

module _ {many : Bool} {bound : ℕ} {text : List ℕ} {from : ℕ} where
  pub begun : from ≤ length text → 0 < bound → Going many bound text from from false 0 0
  begun h g = record { remains = refl; inside = h; small = g }

  module _ {at : ℕ} {seen : Bool} {set n : ℕ} (now : Going many bound text from at seen set n) where
    -- what there was to read, said by what remains
    left : (t : Said) → numbers_in many bound seen set n (drop at text) ≡ t → numbers_in many bound false 0 0 (drop from text) ≡ t
    left t e = sym now.remains ∙ e

    module _ (here : at < length text) (d : Bool) (is : d ≡ is_digit (get_or text at 0)) where
      pub digit_turn : (r : ℕ) → d ≡ true → r ≡ get_or text at 0 - 48 → n * 10 + r < bound → Going many bound text from (at + 1) true set (n * 10 + r)
      digit_turn r t e l =
          let next : numbers_in many bound seen set n (drop at text) ≡ numbers_in many bound true set (n * 10 + r) (drop (at + 1) text) =
          ap (numbers_in many bound seen set n) (at_place text at here)
          ∙ rw e (in_digit many bound set n (get_or text at 0) (drop (at + 1) text) seen (sym is ∙ t) (rw e at l)) in
          record { remains = sym next ∙ now.remains; inside = omega arith; small = l }

      pub over_here : (w r : ℕ) → d ≡ true → r ≡ get_or text at 0 - 48 → bound ≤ n * 10 + r → w ≡ cond many no_vault too_large
          → Took (numbers_in many bound false 0 0 (drop from text)) text (record { reason = w; value = 0; next = at })
      over_here w r t e l q =
          read_here (fault (cond many no_vault too_large) (get_or text at 0 ∷ drop (at + 1) text)) w 0 at
          (left _ (ap (numbers_in many bound seen set n) (at_place text at here)
          ∙ in_over many bound set n (get_or text at 0) (drop (at + 1) text) seen (sym is ∙ t) (rw e at l)))
          q refl (at_place text at here) (omega arith)

      pub comma_turn : (k : Bool) (s : ℕ) → 0 < bound → d ≡ false → seen ≡ true → k ≡ (many && eqb (get_or text at 0) 44) → k ≡ true → s ≡ with_member 16 set n
          → Going many bound text from (at + 1) false s 0
      comma_turn k s z f t g h e =
          let next : numbers_in many bound seen set n (drop at text) ≡ numbers_in many bound false s 0 (drop (at + 1) text) =
          ap (numbers_in many bound seen set n) (at_place text at here)
          ∙ rw (t, e) (in_comma many bound set n (get_or text at 0) (drop (at + 1) text) (sym is ∙ f) (sym g ∙ h)) in
          record { remains = sym next ∙ now.remains; inside = omega arith; small = z }

      pub closed_here : (k : Bool) (v : ℕ) → d ≡ false → seen ≡ true → k ≡ (many && eqb (get_or text at 0) 44) → k ≡ false → v ≡ closed many set n
          → Took (numbers_in many bound false 0 0 (drop from text)) text (record { reason = 0; value = v; next = at })
      closed_here k v f t g h e =
          read_here (fine (closed many set n) (get_or text at 0 ∷ drop (at + 1) text)) 0 v at
          (left _ (ap (numbers_in many bound seen set n) (at_place text at here)
          ∙ rw t (in_closed many bound set n (get_or text at 0) (drop (at + 1) text) (sym is ∙ f) (sym g ∙ h))))
          refl e (at_place text at here) (omega arith)

      pub none_here : d ≡ false → seen ≡ false
          → Took (numbers_in many bound false 0 0 (drop from text)) text (record { reason = 1; value = 0; next = at })
      none_here f t =
          read_here (fault no_number (get_or text at 0 ∷ drop (at + 1) text)) 1 0 at
          (left _ (ap (numbers_in many bound seen set n) (at_place text at here)
          ∙ rw t (in_none many bound set n (get_or text at 0) (drop (at + 1) text) (sym is ∙ f))))
          refl refl (at_place text at here) (omega arith)

    pub closed_end : (v : ℕ) → length text ≤ at → seen ≡ true → v ≡ closed many set n
        → Took (numbers_in many bound false 0 0 (drop from text)) text (record { reason = 0; value = v; next = at })
    unfolding numbers_in
    closed_end v l t e =
        let z = at_end text at l now.inside in
        read_here (fine (closed many set n) []) 0 v at (left _ (rw (z, t))) refl e z now.inside

    pub none_end : length text ≤ at → seen ≡ false
        → Took (numbers_in many bound false 0 0 (drop from text)) text (record { reason = 1; value = 0; next = at })
    unfolding numbers_in
    none_end l t =
        let z = at_end text at l now.inside in
        read_here (fault no_number []) 1 0 at (left _ (rw (z, t))) refl refl z now.inside

pub ruleset turns = (begun, digit_turn, over_here, comma_turn, closed_here, none_here, closed_end, none_end)
