-- The line of a step, from the texts that are written one after another.
use mathlib.Core.List.{List, [], ◌∷◌}
use mathlib.Core.Path.{◌∙◌, ◌≡◌}
use Prim.Native.Nat.{ℕ}
use Rattle.digits.proofs.Writing.{then}
use Rattle.digits.specs.Digits.{Put, decimal}
use Rattle.outcome.specs.Figures.{number_of, value_of, Outcome}
use Rattle.text.specs.Text.{line_for, line_of}

-- three numbers, with what stands between them
pub figures : (step number value : ℕ) {at : ℕ} {o p : List ℕ} {r : ℕ} {o₁ o₂ o₃ o₄ o₅ : List ℕ} {r₁ r₂ r₃ r₄ r₅ : ℕ}
    → Put o at (decimal step) o₁ r₁ → Put o₁ r₁ (32 ∷ []) o₂ r₂ → Put o₂ r₂ (decimal number) o₃ r₃ → Put o₃ r₃ (32 ∷ []) o₄ r₄
    → Put o₄ r₄ (decimal value) o₅ r₅ → Put o₅ r₅ (10 ∷ []) p r → Put o at (line_of step number value) p r
unfolding line_of
figures step number value a b c d e f = then a (then b (then c (then d (then e f))))

-- a line of an outcome's figures
pub line_told : {o p : List ℕ} {at r a b : ℕ} (step : ℕ) (x : Outcome) → a ≡ number_of x → b ≡ value_of x → Put o at (line_of step a b) p r
    → Put o at (line_for step x) p r
line_told step x f g w = rw (f, g) at w

pub widened : {x a b : ℕ} → a ≡ b → b ≡ x → a ≡ x
widened e f = e ∙ f

pub ruleset writing = (line_told, widened)
