-- A line is read by the row that its word chooses.
use mathlib.Core.List.{List}
use mathlib.Core.Path.{◌∙◌, ◌≡◌, refl, sym}
use Prim.Native.Nat.{◌<◌, ◌≤◌, ℕ}
use native.Mathlib.Nat.{add-zero}
use native.Mathlib.Omega.{arith}
use lib.Dec.{leb}
use lib.ListN.{drop, length, take}
use borrow.Author.Tests.{le-leb, le-ltb, lt-leb, lt-ltb, ne_eqb}
use Rattle.base.proofs.Reflect.{and_false}
use Rattle.rows.specs.Reading.{Parsed as Said, read_by}
use Rattle.rows.specs.Table.{raw_row, row, rows, shaped}
use Rattle.digits.proofs.Writing.{made}
use Rattle.digits.specs.Digits.{Put}
use Rattle.notation.specs.Lines.{proposal_read, row_for, scan, second_header, no_word, step_read, too_many, unseen, wrong}
use Rattle.notation.specs.declared.Shape.{Shape}
use Rattle.parsing.specs.Took.{ReadTo}
use Rattle.parsing.specs.declared.Parsed.{Parsed}

-- nothing was put
pub not_read : (text out : List ℕ) (at end why : ℕ) → at ≤ length text → end ≤ length out
    → ReadTo (wrong why (drop at text)) text end out out (record { reason = why; next = at; end = end })
not_read text out at end why h g = record {
  reason_is = refl;
  rest_is = refl;
  inside = h;
  put = record { moved = sym (add-zero end); wrote = refl };
  room = g;
}

module _ {text before after : List ℕ} {end : ℕ} {r : Parsed} (at : ℕ) where
  -- by the front of a buffer, where the row was put
  pub by_front : (t : List ℕ) {o p s : List ℕ} {n : ℕ} → Put o 0 t p n → n ≤ length o → s ≡ take n p → ReadTo (read_by s (drop at text)) text end before after r
      → ReadTo (read_by t (drop at text)) text end before after r
  by_front t w h e d = rw (e ∙ made h w) at d

  module _ (version k : ℕ) (s : Shape) where
    pub few_read : s.inputs ≤ 4 → s.outputs ≤ 4
        → ReadTo (read_by (shaped version k s.inputs s.outputs s.trimmed) (drop at text)) text end before after r
        → ReadTo (proposal_read version k s (drop at text)) text end before after r
    unfolding proposal_read
    few_read a b d = rw (le-leb s.inputs 4 a, le-leb s.outputs 4 b) d

  module _ (version k : ℕ) (is : k ≡ row_for (drop at text)) where
    by_row : (p : Said) → step_read version (drop at text) ≡ p → ReadTo p text end before after r
        → ReadTo (step_read version (drop at text)) text end before after r
    by_row p e d = rw e d

    pub shape_chosen : (s : Shape) → s ≡ scan (unseen k) (drop at text) → 2 ≤ k → k ≤ 3 → k < rows
        → ReadTo (proposal_read version k s (drop at text)) text end before after r
        → ReadTo (step_read version (drop at text)) text end before after r
    unfolding step_read
    shape_chosen s e a b c d =
        by_row (proposal_read version k s (drop at text))
        (rw (sym is, lt-leb rows k c, le-ltb k 2 a, le-leb k 3 b, sym e)) d

    pub raw_chosen : k ≡ 4 → ReadTo (read_by (raw_row version) (drop at text)) text end before after r
        → ReadTo (step_read version (drop at text)) text end before after r
    unfolding step_read
    raw_chosen e d = by_row (read_by (raw_row version) (drop at text)) (rw (sym is, e)) d

    pub own_chosen : 3 < k → k < rows → (k ≡ 4 → ⊥) → ReadTo (read_by (row k) (drop at text)) text end before after r
        → ReadTo (step_read version (drop at text)) text end before after r
    unfolding step_read
    own_chosen a b c d =
        let two : 2 ≤ k = omega arith in
        by_row (read_by (row k) (drop at text)) (rw (sym is, lt-leb rows k b, le-ltb k 2 two, lt-leb k 3 a, ne_eqb k 4 c)) d

module _ (text out : List ℕ) (at end : ℕ) (r : Parsed) (h : at ≤ length text) (g : end ≤ length out) where
  pub many_inputs : (version k : ℕ) (s : Shape) → 4 < s.inputs → r ≡ record { reason = 9; next = at; end = end }
      → ReadTo (proposal_read version k s (drop at text)) text end out out r
  unfolding proposal_read
  many_inputs version k s l e = rw (e, lt-leb s.inputs 4 l) (not_read text out at end too_many h g)

  pub many_outputs : (version k : ℕ) (s : Shape) → 4 < s.outputs → r ≡ record { reason = 9; next = at; end = end }
      → ReadTo (proposal_read version k s (drop at text)) text end out out r
  unfolding proposal_read
  many_outputs version k s l e = rw (e, lt-leb s.outputs 4 l, and_false (leb s.inputs 4)) (not_read text out at end too_many h g)

  pub no_word_lem : (version k : ℕ) → k ≡ row_for (drop at text) → rows ≤ k → r ≡ record { reason = 7; next = at; end = end }
      → ReadTo (step_read version (drop at text)) text end out out r
  unfolding step_read
  no_word_lem version k is l e = rw (e, sym is, le-leb rows k l) (not_read text out at end no_word h g)

  pub second_header_lem : (version k : ℕ) → k ≡ row_for (drop at text) → k < rows → k < 2 → r ≡ record { reason = 10; next = at; end = end }
      → ReadTo (step_read version (drop at text)) text end out out r
  unfolding step_read
  second_header_lem version k is l m e = rw (e, sym is, lt-leb rows k l, lt-ltb k 2 m) (not_read text out at end second_header h g)

pub ruleset reads = (few_read, shape_chosen, raw_chosen, own_chosen, many_inputs, many_outputs, no_word_lem, second_header_lem)
