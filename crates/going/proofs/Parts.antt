-- What is written of a text from a place of a buffer on grows by a step's text.
use mathlib.Core.List.{List, [], ◌++◌, append_assoc}
use mathlib.Core.Path.{◌∙◌, ◌≡◌, ap, refl, sym}
use Prim.Native.Nat.{ℕ}
use native.Mathlib.Omega.{arith}
use Rattle.progress.specs.Coming.{Part}
use Rattle.digits.specs.Digits.{Put}
use Rattle.digits.proofs.Writing.{then}

pub nothing_more : {text out : List ℕ} {at : ℕ} → Part text out at out at text
nothing_more = record { piece = []; cut = refl; put = record { moved = omega arith; wrote = refl } }

pub part_more : {text before between after line rest rest' : List ℕ} {from at r : ℕ} → Part text before from between at rest → rest ≡ line ++ rest'
    → Put between at line after r → Part text before from after r rest'
part_more {line = line} {rest' = rest'} p e w = record {
  piece = p.piece ++ line;
  cut = p.cut ∙ ap (λ (t : List ℕ). p.piece ++ t) e ∙ sym (append_assoc p.piece line rest');
  put = then p.put w;
}
