-- The loops over a row: what remains, with what is written, is the whole.
use mathlib.Core.Bool.{Bool, ◌&&◌, false, true}
use mathlib.Core.List.{List, [], ◌++◌}
use mathlib.Core.Path.{◌∙◌, ◌≡◌, ap, refl, sym}
use Prim.Native.Nat.{◌*◌, ◌+◌, ◌<◌, ◌^◌, ◌≤◌, ℕ}
use native.Mathlib.Omega.{arith}
use lib.ListN.{drop, get_or, length, length-append}
use lib.Seq.{drop-drop, length-sets, sets}
use Rattle.codec.proofs.Numbers.{sets_append}
use Rattle.codec.specs.Codec.{le_at}
use Rattle.parsing.proofs.Turns.{at_end, at_place}
use Rattle.rows.specs.Items.{fits_as, form_of, text_as, width}
use Rattle.rows.specs.Writing.{fits, longest_as, longest_by, text_by}
use Rattle.digits.specs.Digits.{Put}

-- ---- fitting
pub record Fitting (row s : List ℕ) (i at : ℕ) : Type 0 where
  pub same : fits (drop i row) (drop at s) ≡ fits row s
  pub within : i ≤ length row
  pub few : at ≤ 4 * i

pub fit_begun : (row s : List ℕ) → Fitting row s 0 0
fit_begun row s = record { same = refl; within = omega arith; few = omega arith }

module _ {row s : List ℕ} {i at : ℕ} (now : Fitting row s i at) where
  module _ (here : i < length row) (v w : ℕ) (b : Bool) (wide : w ≡ width (form_of (get_or row i 0))) (is : v ≡ le_at (drop at s) 0 w)
      (q : b ≡ fits_as (form_of (get_or row i 0)) (get_or row i 0) v) where
    next : fits (drop i row) (drop at s) ≡ (b && fits (drop (i + 1) row) (drop (at + w) s))
    unfolding fits
    next = ap (λ (r : List ℕ). fits r (drop at s)) (at_place row i here) ∙ rw (sym wide, drop-drop w at s, sym is, sym q)

    pub fit_turn : b ≡ true → w ≤ 4 → Fitting row s (i + 1) (at + w)
    fit_turn t l = record { same = sym (next ∙ rw t) ∙ now.same; within = omega arith; few = omega (arith, now.few) }

    pub fit_not : b ≡ false → false ≡ fits row s
    fit_not f = sym (next ∙ rw f) ∙ now.same

  pub fit_done : length row ≤ i → true ≡ fits row s
  unfolding fits
  fit_done h = sym (ap (λ (r : List ℕ). fits r (drop at s)) (at_end row i h now.within)) ∙ now.same

pub ruleset fitted = (fit_begun, fit_turn, fit_not, fit_done)

-- ---- writing
pub record Writing (row s before : List ℕ) (start i at end : ℕ) (out : List ℕ) : Type 0 where
  pub puts : sets out end (text_by (drop i row) (drop at s)) ≡ sets before start (text_by row s)
  pub moves : end + length (text_by (drop i row) (drop at s)) ≡ start + length (text_by row s)
  pub within : i ≤ length row
  pub few : at ≤ 4 * i
  pub room : end + longest_by (drop i row) ≤ start + longest_by row
  pub size : length out ≡ length before

pub write_begun : (row s before : List ℕ) (start : ℕ) → Writing row s before start 0 0 start before
write_begun row s before start = record { puts = refl; moves = refl; within = omega arith; few = omega arith; room = omega arith; size = refl }

module _ {row s before : List ℕ} {start i at end : ℕ} {out : List ℕ} (now : Writing row s before start i at end out) where
  pub write_turn : (v w r : ℕ) (out₁ : List ℕ) → i < length row → w ≡ width (form_of (get_or row i 0)) → w ≤ 4 → v ≡ le_at (drop at s) 0 w
      → Put out end (text_as (form_of (get_or row i 0)) (get_or row i 0) v) out₁ r → r ≤ end + longest_as (form_of (get_or row i 0))
      → Writing row s before start (i + 1) (at + w) r out₁
  unfolding text_by longest_by
  write_turn v w r out₁ here wide l is p k =
      let x = get_or row i 0 in
      let b = text_as (form_of x) x v in
      let t = text_by (drop (i + 1) row) (drop (at + w) s) in
      let whole : text_by (drop i row) (drop at s) ≡ b ++ t =
      ap (λ (y : List ℕ). text_by y (drop at s)) (at_place row i here) ∙ rw (sym wide, drop-drop w at s, sym is) in
      record {
        puts = rw (p.wrote, p.moved) (sym (sets_append b out end t) ∙ ap (sets out end) (sym whole) ∙ now.puts);
        moves = omega (arith, p.moved, length-append b t, ap length whole, now.moves);
        within = omega arith;
        few = omega (arith, now.few);
        room = omega (arith, now.room, ap longest_by (at_place row i here));
        size = rw p.wrote (length-sets out end b ∙ now.size);
      }

  pub write_done : length row ≤ i → Put before start (text_by row s) out end
  unfolding text_by
  write_done h =
      let e : text_by (drop i row) (drop at s) ≡ [] = ap (λ (y : List ℕ). text_by y (drop at s)) (at_end row i h now.within) in
      record { moved = omega (arith, ap length e, now.moves); wrote = ap (sets out end) (sym e) ∙ now.puts }

-- a value fits its item
pub below_wide : (v w x : ℕ) → w ≡ x → v < 256 ^ w → v < 256 ^ x
below_wide v w x e h = rw e at h

pub ruleset written = (below_wide, write_begun, write_turn, write_done)
