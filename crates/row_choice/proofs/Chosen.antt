-- The row that a step is written by stands at the front of the buffer.
use mathlib.Core.Bool.{Bool, ◌&&◌, cond, false, true}
use mathlib.Core.List.{List}
use mathlib.Core.Path.{◌∙◌, ◌≡◌, ap, refl, sym}
use Prim.Native.Nat.{◌+◌, ◌<◌, ◌≤◌, suc, zero, ℕ}
use native.Mathlib.Omega.{arith}
use lib.Dec.{eqb, leb}
use lib.ListN.{drop, get_or, length, take}
use lib.Seq.{get_or-drop}
use borrow.Author.Tests.{eq-eqb, eqb-true, le-leb, leb-true, lt-leb, ne_eqb}
use Rattle.base.proofs.Reflect.{and_false, and_true, by_test}
use Rattle.codec.specs.Codec.{le_at}
use Rattle.rows.specs.Table.{raw_row, row, shaped}
use Rattle.rows.specs.Writing.{fits}
use Rattle.digits.proofs.Writing.{made}
use Rattle.digits.specs.Digits.{Put}
use Rattle.notation.specs.Lines.{has_shape, proposal_row, row_of, shaped_for}
use Rattle.words.specs.Room.{longest_row, row_room}
use Rattle.row_choice.specs.Rows.{Stands}

-- ---- its shape
module _ (s : List ℕ) where
  pub too_many_lem : (o : ℕ) → o ≡ get_or s 4 0 → 4 < o → false ≡ has_shape s
  unfolding has_shape
  too_many_lem o e h =
      sym (rw (lt-leb (get_or s 4 0) 4 (omega (arith, e)))
      (and_false (cond (eqb (get_or s 1 0) 0) (eqb (get_or s 3 0) 0) (eqb (get_or s 1 0) 1 && leb (get_or s 3 0) 4))))

  module _ (o m : ℕ) (e : o ≡ get_or s 4 0) (h : o ≤ 4) (f : m ≡ get_or s 1 0) where
    low : leb (get_or s 4 0) 4 ≡ true
    low = le-leb (get_or s 4 0) 4 (omega (arith, e))

    and_last : (b : Bool) → b ≡ (b && true)
    and_last true = refl
    and_last false = refl

    pub of_accession : (i : ℕ) (b : Bool) → m ≡ 0 → i ≡ get_or s 3 0 → b ≡ eqb i 0 → b ≡ has_shape s
    unfolding has_shape
    of_accession i b z g q = rw (low, eq-eqb (get_or s 1 0) 0 (sym f ∙ z)) (q ∙ rw g (and_last (eqb (get_or s 3 0) 0)))

    pub of_migration : (n i : ℕ) (b : Bool) → (m ≡ 0 → ⊥) → n ≡ get_or s 1 0 → n ≡ 1 → i ≡ get_or s 3 0 → b ≡ leb i 4 → b ≡ has_shape s
    unfolding has_shape
    of_migration n i b z k u g q =
        rw (low, ne_eqb (get_or s 1 0) 0 (λ x. z (f ∙ x)), eq-eqb (get_or s 1 0) 1 (sym k ∙ u)) (q ∙ rw g (and_last (leb (get_or s 3 0) 4)))

    pub of_neither : (n : ℕ) → (m ≡ 0 → ⊥) → n ≡ get_or s 1 0 → (n ≡ 1 → ⊥) → false ≡ has_shape s
    unfolding has_shape
    of_neither n z k u = rw (low, ne_eqb (get_or s 1 0) 0 (λ x. z (f ∙ x)), ne_eqb (get_or s 1 0) 1 (λ x. u (k ∙ x)))

pub ruleset shapes = (too_many_lem, of_accession, of_migration, of_neither)

-- a shape has few entries
pub few_inputs : (s : List ℕ) (i : ℕ) → has_shape s ≡ true → i ≡ get_or s 3 0 → i ≤ 4
unfolding has_shape
few_inputs s i h e =
    let a = (and_true (cond (eqb (get_or s 1 0) 0) (eqb (get_or s 3 0) 0) (eqb (get_or s 1 0) 1 && leb (get_or s 3 0) 4)) _ h).0 in
    by_test (eqb (get_or s 1 0) 0) (λ t. omega (arith, e, eqb-true (get_or s 3 0) 0 (rw t at a)))
    (λ t. omega (arith, e, leb-true (get_or s 3 0) 4 (and_true (eqb (get_or s 1 0) 1) (leb (get_or s 3 0) 4) (rw t at a)).1))

pub few_outputs : (s : List ℕ) (o : ℕ) → has_shape s ≡ true → o ≡ get_or s 4 0 → o ≤ 4
unfolding has_shape
few_outputs s o h e =
    let counts = cond (eqb (get_or s 1 0) 0) (eqb (get_or s 3 0) 0) (eqb (get_or s 1 0) 1 && leb (get_or s 3 0) 4) in
    omega (arith, e, leb-true (get_or s 4 0) 4 (and_true counts (leb (get_or s 4 0) 4) h).1)

le_at_drop : (l : List ℕ) (n at k : ℕ) → le_at (drop n l) at k ≡ le_at l (n + at) k
unfolding le_at
le_at_drop l n at zero = refl
le_at_drop l n at (suc k) =
    let e : n + (at + 1) ≡ n + at + 1 = omega arith in
    rw (get_or-drop n l at 0, le_at_drop l n (at + 1) k, e)

-- ---- which row
pub stands : {o p t : List ℕ} {r : ℕ} → Put o 0 t p r → r ≤ longest_row → row_room ≤ length o → Stands t p r
stands w h g = record { row_is = made (omega arith) w; few = h }

pub shaped_stands : {p : List ℕ} {r : ℕ} (version : ℕ) (s : List ℕ) (m w i o v : ℕ) → m ≡ get_or s 1 0 → w ≡ m → i ≡ get_or s 3 0 → o ≡ get_or s 4 0
    → v ≡ le_at (drop 101 s) 0 4 → Stands (shaped version (2 + w) i o v) p r → Stands (shaped_for version s) p r
unfolding shaped_for
shaped_stands version s m w i o v a b c d e t = rw (b, a, c, d, e ∙ le_at_drop s 101 0 4) at t

module _ (version : ℕ) (s : List ℕ) {p : List ℕ} {r : ℕ} where
  pub by_shape : (f : List ℕ) (a b : Bool) → a ≡ has_shape s → a ≡ true → f ≡ take r p → b ≡ fits f s → b ≡ true → Stands (shaped_for version s) p r
      → Stands (proposal_row version s) p r
  unfolding proposal_row
  by_shape f a b e t q g u d = rw (sym e ∙ t, ap (λ (x : List ℕ). fits x s) (sym (q ∙ d.row_is)) ∙ sym g ∙ u) d

  pub by_bytes : (a : Bool) → a ≡ has_shape s → a ≡ false → Stands (raw_row version) p r → Stands (proposal_row version s) p r
  unfolding proposal_row
  by_bytes a e f d = rw (sym e ∙ f) d

  pub by_bytes_too : (f p₁ : List ℕ) (r₁ : ℕ) (a b : Bool) → a ≡ has_shape s → a ≡ true → f ≡ take r₁ p₁ → Stands (shaped_for version s) p₁ r₁ → b ≡ fits f s
      → b ≡ false
      → Stands (raw_row version) p r → Stands (proposal_row version s) p r
  unfolding proposal_row
  by_bytes_too f p₁ r₁ a b e t q d g u w = rw (sym e ∙ t, ap (λ (x : List ℕ). fits x s) (sym (q ∙ d.row_is)) ∙ sym g ∙ u) w

  pub of_proposal : (k : ℕ) → k ≡ get_or s 0 0 → k ≡ 1 → Stands (proposal_row version s) p r → Stands (row_of version s) p r
  unfolding row_of
  of_proposal k e t d = rw (eq-eqb (get_or s 0 0) 1 (sym e ∙ t)) d

  pub of_kind : (k w : ℕ) → k ≡ get_or s 0 0 → (k ≡ 1 → ⊥) → w ≡ k → Stands (row (w + 3)) p r → Stands (row_of version s) p r
  unfolding row_of
  of_kind k w e n q d = rw (ne_eqb (get_or s 0 0) 1 (λ x. n (e ∙ x))) (rw (q ∙ e) at d)

pub ruleset choices = (few_inputs, few_outputs, stands, shaped_stands, by_shape, by_bytes, by_bytes_too, of_proposal, of_kind)
