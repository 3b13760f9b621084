-- The loops that pass over characters.
use mathlib.Core.Bool.{Bool, false, true}
use mathlib.Core.List.{List}
use mathlib.Core.Path.{◌∙◌, ◌≡◌, ap, refl, sym}
use Prim.Native.Nat.{◌+◌, ◌<◌, ◌≤◌, ℕ}
use native.Mathlib.Omega.{arith}
use lib.ListN.{get_or-eq_default, drop, get_or, length}
use borrow.Author.Tests.{eq-eqb, ne_eqb}
use Rattle.parsing.proofs.Turns.{at_end, at_place}
use Rattle.notation.specs.Files.{after_line, is_blank, line_over, skip_blanks}
use Rattle.notation.specs.Lines.{closes}

pub no_byte_lem : (file : List ℕ) (at : ℕ) → length file ≤ at → 0 ≡ get_or file at 0
no_byte_lem file at h = sym (get_or-eq_default file 0 {n = at} h)

pub record Passing (f : List ℕ → List ℕ) (text : List ℕ) (from at : ℕ) : Type 0 where
  pub same : f (drop at text) ≡ f (drop from text)
  pub inside : at ≤ length text

module _ {text : List ℕ} {from : ℕ} where
  pub skip_begun : from ≤ length text → Passing skip_blanks text from from
  skip_begun h = record { same = refl; inside = h }

  pub after_begun : from ≤ length text → Passing after_line text from from
  after_begun h = record { same = refl; inside = h }

  module _ {at : ℕ} (now : Passing skip_blanks text from at) where
    pub skip_turn : (b : Bool) → at < length text → b ≡ is_blank (get_or text at 0) → b ≡ true → Passing skip_blanks text from (at + 1)
    unfolding skip_blanks
    skip_turn b h e t = record { same = sym (ap skip_blanks (at_place text at h) ∙ rw (sym e ∙ t)) ∙ now.same; inside = omega arith }

    pub skip_stop : (b : Bool) → at < length text → b ≡ is_blank (get_or text at 0) → b ≡ false → drop at text ≡ skip_blanks (drop from text)
    unfolding skip_blanks
    skip_stop b h e f = at_place text at h ∙ sym (ap skip_blanks (at_place text at h) ∙ rw (sym e ∙ f)) ∙ now.same

    pub skip_end : length text ≤ at → drop at text ≡ skip_blanks (drop from text)
    unfolding skip_blanks
    skip_end h = at_end text at h now.inside ∙ sym (ap skip_blanks (at_end text at h now.inside)) ∙ now.same

  module _ {at : ℕ} (now : Passing after_line text from at) where
    pub after_turn : at < length text → (get_or text at 0 ≡ 10 → ⊥) → Passing after_line text from (at + 1)
    unfolding after_line
    after_turn h n = record { same = sym (ap after_line (at_place text at h) ∙ rw (ne_eqb (get_or text at 0) 10 n)) ∙ now.same; inside = omega arith }

    pub after_stop : at < length text → get_or text at 0 ≡ 10 → drop (at + 1) text ≡ after_line (drop from text)
    unfolding after_line
    after_stop h e = sym (ap after_line (at_place text at h) ∙ rw (eq-eqb (get_or text at 0) 10 e)) ∙ now.same

    pub after_end : length text ≤ at → drop at text ≡ after_line (drop from text)
    unfolding after_line
    after_end h = at_end text at h now.inside ∙ sym (ap after_line (at_end text at h now.inside)) ∙ now.same

module _ (text : List ℕ) (at : ℕ) where
  pub over_here : (b : Bool) → at < length text → b ≡ closes (get_or text at 0) → b ≡ line_over (drop at text)
  unfolding line_over
  over_here b h e = rw (at_place text at h) e

  pub over_end : at ≤ length text → length text ≤ at → true ≡ line_over (drop at text)
  unfolding line_over
  over_end h l = rw (at_end text at l h)

pub ruleset passes = (no_byte_lem, skip_begun, after_begun, skip_turn, skip_stop, skip_end, after_turn, after_stop, after_end, over_here, over_end)
