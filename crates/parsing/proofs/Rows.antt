-- A loop over a row: what remains to be read, with the bytes put so far, is what there was to read.
use mathlib.Core.List.{List, [], ◌++◌, ◌∷◌}
use mathlib.Core.Path.{◌∙◌, ◌≡◌, ap, refl, sym}
use Prim.Native.Nat.{◌*◌, ◌+◌, ◌<◌, ◌≤◌, ℕ}
use native.Mathlib.Omega.{arith}
use lib.ListN.{drop, get_or, length, length-append}
use lib.Seq.{length-sets, sets}
use borrow.Author.Tests.{eq-eqb, ne_eqb}
use Rattle.codec.proofs.Numbers.{length_le_bytes, sets_append}
use Rattle.codec.specs.Codec.{le_bytes}
use Rattle.rows.specs.Items.{form_of, take_as, width}
use Rattle.rows.specs.Reading.{Parsed as Said, read_by}
use Rattle.parsing.specs.Took.{ReadTo, Took}
use Rattle.parsing.specs.declared.Token.{Token}
use Rattle.parsing.proofs.Turns.{at_end, at_place}

pub record Reading (row text : List ℕ) (from start : ℕ) (before : List ℕ) (i at end : ℕ) (out : List ℕ) : Type 0 where
  pub reason_is : (read_by (drop i row) (drop at text)).reason ≡ (read_by row (drop from text)).reason
  pub rest_is : (read_by (drop i row) (drop at text)).rest ≡ (read_by row (drop from text)).rest
  pub puts : sets out end (read_by (drop i row) (drop at text)).bytes ≡ sets before start (read_by row (drop from text)).bytes
  pub moves : end + length (read_by (drop i row) (drop at text)).bytes ≡ start + length (read_by row (drop from text)).bytes
  pub inside : at ≤ length text
  pub within : i ≤ length row
  pub few : end ≤ start + 4 * i
  pub size : length out ≡ length before

-- an item that was read, and one that was not
module _ (i : ℕ) (is l : List ℕ) where
  went : (take_as (form_of i) i l).reason ≡ 0 → let p = read_by is (take_as (form_of i) i l).rest in read_by (i ∷ is) l
      ≡ record { reason = p.reason; bytes = le_bytes (width (form_of i)) (take_as (form_of i) i l).value ++ p.bytes; rest = p.rest }
  unfolding read_by
  went e = rw (eq-eqb (take_as (form_of i) i l).reason 0 e)

  halted : ((take_as (form_of i) i l).reason ≡ 0 → ⊥)
      → read_by (i ∷ is) l ≡ record { reason = (take_as (form_of i) i l).reason; bytes = []; rest = (take_as (form_of i) i l).rest }
  unfolding read_by
  halted e = rw (ne_eqb (take_as (form_of i) i l).reason 0 e)

module _ {row text : List ℕ} {from start : ℕ} {before : List ℕ} where
  pub row_begun : from ≤ length text → Reading row text from start before 0 from start before
  row_begun h = record { reason_is = refl; rest_is = refl; puts = refl; moves = refl; inside = h; within = omega arith; few = omega arith; size = refl }

  module _ {i at end : ℕ} {out : List ℕ} (now : Reading row text from start before i at end out) where
    module _ (here : i < length row) (t : Token) (took : Took (take_as (form_of (get_or row i 0)) (get_or row i 0) (drop at text)) text t) where
      pub item_turn : (w e : ℕ) (out₁ : List ℕ) → t.reason ≡ 0 → w ≡ width (form_of (get_or row i 0)) → w ≤ 4 → out₁ ≡ sets out end (le_bytes w t.value)
          → e ≡ end + w
          → Reading row text from start before (i + 1) t.next e out₁
      item_turn w e out₁ z q m u v =
          let x = get_or row i 0 in
          let l = drop at text in
          let is = drop (i + 1) row in
          let p = read_by is (drop t.next text) in
          let b = le_bytes w t.value in
          let n : length b ≡ w = length_le_bytes w t.value in
          let whole : read_by (drop i row) l ≡ record { reason = p.reason; bytes = b ++ p.bytes; rest = p.rest } =
          ap (λ (r : List ℕ). read_by r l) (at_place row i here) ∙ went x is l (sym took.reason_is ∙ z) ∙ rw (took.rest_is, q, took.value_is) in
          let placed : sets (sets out end b) (end + w) p.bytes ≡ sets out end (b ++ p.bytes) =
          ap (λ (k : ℕ). sets (sets out end b) (end + k) p.bytes) (sym n) ∙ sym (sets_append b out end p.bytes) in
          let sum : length (read_by (drop i row) l).bytes ≡ w + length p.bytes =
          ap (λ (r : Said). length r.bytes) whole ∙ length-append b p.bytes ∙ ap (λ (k : ℕ). k + length p.bytes) n in
          record {
            reason_is = ap (λ (r : Said). r.reason) (sym whole) ∙ now.reason_is;
            rest_is = ap (λ (r : Said). r.rest) (sym whole) ∙ now.rest_is;
            puts = rw (u, v) (placed ∙ ap (λ (r : Said). sets out end r.bytes) (sym whole) ∙ now.puts);
            moves = omega (arith, sum, now.moves, v);
            inside = took.inside;
            within = omega arith;
            few = omega (arith, now.few, v);
            size = rw u (length-sets out end b ∙ now.size);
          }

      pub item_stop : (t.reason ≡ 0 → ⊥) → start + 4 * length row ≤ length before
          → ReadTo (read_by row (drop from text)) text start before out (record { reason = t.reason; next = t.next; end = end })
      item_stop z big =
          let x = get_or row i 0 in
          let l = drop at text in
          let whole = ap (λ (r : List ℕ). read_by r l) (at_place row i here)
          ∙ halted x (drop (i + 1) row) l (λ q. z (took.reason_is ∙ q)) in
          record {
            reason_is = took.reason_is ∙ ap (λ (r : Said). r.reason) (sym whole) ∙ now.reason_is;
            rest_is = took.rest_is ∙ ap (λ (r : Said). r.rest) (sym whole) ∙ now.rest_is;
            inside = took.inside;
            put = record {
              moved = omega (arith, ap (λ (r : Said). length r.bytes) whole, now.moves);
              wrote = ap (λ (r : Said). sets out end r.bytes) (sym whole) ∙ now.puts;
            };
            room = omega (arith, now.few);
          }

    pub row_done : length row ≤ i → start + 4 * length row ≤ length before
        → ReadTo (read_by row (drop from text)) text start before out (record { reason = 0; next = at; end = end })
    unfolding read_by
    row_done h big =
        let whole : read_by (drop i row) (drop at text) ≡ record { reason = 0; bytes = []; rest = drop at text } =
        ap (λ (r : List ℕ). read_by r (drop at text)) (at_end row i h now.within) in
        record {
          reason_is = ap (λ (r : Said). r.reason) (sym whole) ∙ now.reason_is;
          rest_is = ap (λ (r : Said). r.rest) (sym whole) ∙ now.rest_is;
          inside = now.inside;
          put = record {
            moved = omega (arith, ap (λ (r : Said). length r.bytes) whole, now.moves);
            wrote = ap (λ (r : Said). sets out end r.bytes) (sym whole) ∙ now.puts;
          };
          room = omega (arith, now.few, now.within);
        }

pub ruleset reading = (row_begun, item_turn, item_stop, row_done)
