-- A piece grows by a step's text, and pieces one after another are the whole text.
use mathlib.Core.List.{List, [], ◌++◌, ◌∷◌, append_assoc}
use mathlib.Core.Path.{◌∙◌, ◌≡◌, ap, refl, sym}
use Prim.Native.Nat.{◌≤◌, ℕ}
use lib.ListN.{length, take}
use native.Mathlib.Omega.{arith}
use Rattle.progress.specs.Pieces.{Piece, Pieces, Printed, Whole, printed}
use Rattle.runfile.specs.Run.{Run, text_from}
use Rattle.digits.specs.Digits.{Put}
use Rattle.runfile.proofs.Turns.{none_left}
use Rattle.digits.proofs.Writing.{made, then}

pub nothing_yet : {text rest out : List ℕ} → text ≡ rest → Piece text out out 0 rest
nothing_yet e = record { piece = []; cut = e; put = record { moved = refl; wrote = refl }; fits = omega arith }

pub piece_more : {text before between after line rest rest' : List ℕ} {at r : ℕ} → Piece text before between at rest → rest ≡ line ++ rest'
    → Put between at line after r → r ≤ length before → Piece text before after r rest'
piece_more {line = line} {rest' = rest'} p e w f = record {
  piece = p.piece ++ line;
  cut = p.cut ∙ ap (λ (t : List ℕ). p.piece ++ t) e ∙ sym (append_assoc p.piece line rest');
  put = then p.put w;
  fits = f;
}

-- what a piece prints, and what it leaves
pub piece_printed : {text before after rest : List ℕ} {r : ℕ} → Piece text before after r rest → text ≡ take r after ++ rest
piece_printed {rest = rest} p = p.cut ∙ ap (λ (t : List ℕ). t ++ rest) (sym (made p.fits p.put))

all_printed : (input : List ℕ) (r : Run) (ps : List Printed) → Pieces input r ps → printed ps ≡ text_from input r
all_printed input r [] h = sym (none_left input r h)
all_printed input r (p ∷ ps) h = rw (all_printed input p.left ps h.1) (sym (piece_printed h.0))

pub whole : Whole
whole input p ps a h = rw (all_printed input p.left ps h) (sym (piece_printed a))
