-- The loops over a row's word and over the table: what remains gives the same answer as the whole.
use mathlib.Core.Bool.{Bool, cond, false, true}
use mathlib.Core.List.{List, [], ◌∷◌}
use mathlib.Core.Path.{◌∙◌, ◌≡◌, ap, refl, sym}
use Prim.Native.Nat.{◌+◌, ◌<◌, ◌≤◌, suc, ℕ}
use native.Mathlib.Omega.{arith}
use lib.Dec.{leb}
use lib.ListN.{drop, get_or, length}
use lib.Seq.{drop-cons}
use borrow.Author.Tests.{eq-eqb, le-ltb, lt-ltb, ne_eqb}
use Rattle.parsing.proofs.Turns.{at_end, at_place}
use Rattle.rows.specs.Table.{row, rows, table}
use Rattle.notation.specs.Lines.{begins, first_of, row_for, word_ends}

module _ (text : List ℕ) (at : ℕ) where
  pub word_here : (b : Bool) → at < length text → b ≡ leb (get_or text at 0) 35 → b ≡ word_ends (drop at text)
  unfolding word_ends
  word_here b h e = rw (at_place text at h) e

  pub word_over : at ≤ length text → length text ≤ at → true ≡ word_ends (drop at text)
  unfolding word_ends
  word_over h l = rw (at_end text at l h)

pub ruleset word_ends_rules = (word_here, word_over)

-- ---- one character of a row
module _ (c : ℕ) (r : List ℕ) where
  skips : (l : List ℕ) → c < 32 → begins (c ∷ r) l ≡ begins r l
  unfolding begins
  skips [] h = rw (lt-ltb c 32 h)
  skips (d ∷ l) h = rw (lt-ltb c 32 h)

  spaces : (l : List ℕ) → c ≡ 32 → begins (c ∷ r) l ≡ word_ends l
  unfolding begins word_ends
  spaces [] e = rw e
  spaces (d ∷ l) e = rw e

  lacks : 32 ≤ c → (c ≡ 32 → ⊥) → begins (c ∷ r) [] ≡ false
  unfolding begins
  lacks h n = rw (le-ltb c 32 h, ne_eqb c 32 n)

goes : (c d : ℕ) (r l : List ℕ) → 32 ≤ c → (c ≡ 32 → ⊥) → d ≡ c → begins (c ∷ r) (d ∷ l) ≡ begins r l
unfolding begins
goes c d r l h n e = rw (le-ltb c 32 h, ne_eqb c 32 n, eq-eqb d c e)

differs : (c d : ℕ) (r l : List ℕ) → 32 ≤ c → (c ≡ 32 → ⊥) → (d ≡ c → ⊥) → begins (c ∷ r) (d ∷ l) ≡ false
unfolding begins
differs c d r l h n e = rw (le-ltb c 32 h, ne_eqb c 32 n, ne_eqb d c e)

pub record Comparing (row text : List ℕ) (from i at : ℕ) : Type 0 where
  pub same : begins (drop i row) (drop at text) ≡ begins row (drop from text)
  pub inside : at ≤ length text
  pub within : i ≤ length row

module _ {row text : List ℕ} {from : ℕ} where
  pub compare_begun : from ≤ length text → Comparing row text from 0 from
  compare_begun h = record { same = refl; inside = h; within = omega arith }

  module _ {i at : ℕ} (now : Comparing row text from i at) where
    over : (b : Bool) → begins (drop i row) (drop at text) ≡ b → b ≡ begins row (drop from text)
    over b e = sym e ∙ now.same

    pub compare_end : (b : Bool) → length row ≤ i → b ≡ word_ends (drop at text) → b ≡ begins row (drop from text)
    unfolding begins
    compare_end b h e = over b (rw (at_end row i h now.within) (sym e))

    module _ (here : i < length row) where
      pub compare_hidden : get_or row i 0 < 32 → Comparing row text from (i + 1) at
      compare_hidden h = record { same = sym (hidden (drop at text)) ∙ now.same; inside = now.inside; within = omega arith }
        where
          hidden : (l : List ℕ) → begins (drop i row) l ≡ begins (drop (i + 1) row) l
          hidden l = rw (at_place row i here) (skips (get_or row i 0) (drop (i + 1) row) l h)

      pub compare_space : (b : Bool) → 32 ≤ get_or row i 0 → get_or row i 0 ≡ 32 → b ≡ word_ends (drop at text) → b ≡ begins row (drop from text)
      compare_space b h e w = over b (rw (at_place row i here) (spaces (get_or row i 0) (drop (i + 1) row) (drop at text) e ∙ sym w))

      pub compare_same : 32 ≤ get_or row i 0 → (get_or row i 0 ≡ 32 → ⊥) → at < length text → get_or text at 0 ≡ get_or row i 0
          → Comparing row text from (i + 1) (at + 1)
      compare_same h n l e = record {
        same = sym (ap (λ (r : List ℕ). begins r (drop at text)) (at_place row i here) ∙ ap (begins (get_or row i 0 ∷ drop (i + 1) row)) (at_place text at l)
            ∙ goes (get_or row i 0) (get_or text at 0) (drop (i + 1) row) (drop (at + 1) text) h n e) ∙ now.same;
        inside = omega arith;
        within = omega arith;
      }

      pub compare_other : 32 ≤ get_or row i 0 → (get_or row i 0 ≡ 32 → ⊥) → at < length text → (get_or text at 0 ≡ get_or row i 0 → ⊥)
          → false ≡ begins row (drop from text)
      compare_other h n l e =
          over false (ap (λ (r : List ℕ). begins r (drop at text)) (at_place row i here) ∙ ap (begins (get_or row i 0 ∷ drop (i + 1) row)) (at_place text at l)
          ∙ differs (get_or row i 0) (get_or text at 0) (drop (i + 1) row) (drop (at + 1) text) h n e)

      pub compare_over : 32 ≤ get_or row i 0 → (get_or row i 0 ≡ 32 → ⊥) → length text ≤ at → false ≡ begins row (drop from text)
      compare_over h n l =
          over false (ap (λ (r : List ℕ). begins r (drop at text)) (at_place row i here) ∙ ap (begins (get_or row i 0 ∷ drop (i + 1) row))
          (at_end text at l now.inside)
          ∙ lacks (get_or row i 0) (drop (i + 1) row) h n)

pub ruleset comparisons = (compare_begun, compare_end, compare_hidden, compare_space, compare_same, compare_other, compare_over)

-- ---- the table
pub record Looking (l : List ℕ) (k : ℕ) : Type 0 where
  pub same : k + first_of (drop k table) l ≡ row_for l
  pub within : k ≤ rows

pub look_begun : (l : List ℕ) → Looking l 0
unfolding row_for
look_begun l = record { same = omega arith; within = omega arith }

module _ {l : List ℕ} {k : ℕ} (now : Looking l k) where
  row_first : k < rows → first_of (drop k table) l ≡ cond (begins (row k) l) 0 (suc (first_of (drop (k + 1) table) l))
  unfolding first_of row
  row_first h =
      let e : k + 1 ≡ suc k = omega arith in
      rw e (ap (λ (t : List (List ℕ)). first_of t l) (drop-cons table k [] h))

  pub look_found : (b : Bool) (s : List ℕ) → k < rows → s ≡ row k → b ≡ begins s l → b ≡ true → k ≡ row_for l
  look_found b s h q e t =
      let z : first_of (drop k table) l ≡ 0 = row_first h ∙ rw (ap (λ (r : List ℕ). begins r l) (sym q) ∙ sym e ∙ t) in
      omega (arith, now.same, z)

  pub look_next : (b : Bool) (s : List ℕ) → k < rows → s ≡ row k → b ≡ begins s l → b ≡ false → Looking l (k + 1)
  look_next b s h q e t =
      let z : first_of (drop k table) l ≡ suc (first_of (drop (k + 1) table) l) = row_first h ∙ rw (ap (λ (r : List ℕ). begins r l) (sym q) ∙ sym e ∙ t) in
      record { same = omega (arith, now.same, z); within = omega arith }

  pub look_none : rows ≤ k → rows ≡ row_for l
  unfolding first_of
  look_none h =
      let e : k ≡ rows = omega arith in
      rw e at now.same

pub ruleset lookups = (look_begun, look_found, look_next, look_none)
