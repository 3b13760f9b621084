-- A line made by a row that stands at the front of a buffer, and its end.
use mathlib.Core.List.{List, [], ◌++◌, ◌∷◌}
use mathlib.Core.Path.{◌∙◌, ◌≡◌}
use Prim.Native.Nat.{◌+◌, ◌≤◌, ℕ}
use native.Mathlib.Omega.{arith}
use lib.ListN.{take}
use Rattle.printing.specs.Member.{item_room}
use Rattle.rows.specs.Writing.{longest_by, text_by}
use Rattle.digits.proofs.Writing.{then}
use Rattle.digits.specs.Digits.{Put}
use Rattle.row_choice.specs.Rows.{Stands}

module _ {f b : List ℕ} {n : ℕ} (t : List ℕ) (d : Stands t b n) (e : f ≡ take n b) where
  -- there is room for it
  pub row_room_lem : (start size : ℕ) → start + longest_by t + item_room ≤ size → start + longest_by f + item_room ≤ size
  row_room_lem start size h = rw (e ∙ d.row_is) h

  module _ (start r : ℕ) (h : r ≤ start + longest_by f) where
    pub row_end : r ≤ start + longest_by t
    row_end = rw (e ∙ d.row_is) at h

    pub line_end : (q : ℕ) → q ≡ r + 1 → q ≤ start + longest_by t + 1
    line_end q i = omega (arith, row_end, i)

  pub step_put : {o p : List ℕ} {start r : ℕ} (s : List ℕ) → Put o start (text_by f s) p r → Put o start (text_by t s) p r
  step_put s w = rw (e ∙ d.row_is) at w

  pub line_put : {o p q : List ℕ} {start at r : ℕ} (s : List ℕ) → Put o start (text_by f s) p at → Put p at (10 ∷ []) q r
      → Put o start (text_by t s ++ (10 ∷ [])) q r
  line_put s w x = then (rw (e ∙ d.row_is) at w) x
