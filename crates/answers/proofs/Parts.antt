-- A refusal's row stands at the front of a buffer, and is filled in: what is written is the whole of the refusal.
use mathlib.Core.List.{List, [], ◌∷◌}
use mathlib.Core.Path.{◌∙◌, ◌≡◌}
use Prim.Native.Nat.{◌*◌, ◌+◌, ◌≤◌, ℕ}
use native.Mathlib.Omega.{arith}
use lib.ListN.{drop, length, take}
use borrow.Author.Tests.{eq-eqb, ne_eqb}
use Rattle.explanations.proofs.Lengths.{reason_brief}
use Rattle.explanations.specs.Answers.{refused_text}
use Rattle.explanations.specs.Words.{reason}
use Rattle.rows.specs.Writing.{longest_by, text_by}
use Rattle.digits.proofs.Writing.{made}
use Rattle.digits.specs.Digits.{Put}

-- ---- a row at the front of a buffer
pub row_made : {o p f t : List ℕ} {n : ℕ} → 128 ≤ length o → n ≤ 128 → Put o 0 t p n → f ≡ take n p → f ≡ t
row_made h g w e = e ∙ made (omega arith) w

pub reason_few : (f : List ℕ) (k : ℕ) → f ≡ reason k → longest_by f ≤ 128
reason_few f k e = rw e (reason_brief k)

-- ---- a refusal
module _ {o p : List ℕ} {at r : ℕ} (number entry threshold : ℕ) (bytes f : List ℕ) (is : f ≡ reason number) where
  pub refused_few : number ≡ 16 → Put o at (text_by f (threshold ∷ [])) p r → Put o at (refused_text number entry threshold bytes) p r
  unfolding refused_text
  refused_few e w = rw (eq-eqb number 16 e) (rw is at w)

  pub refused_at : (g : List ℕ) → (number ≡ 16 → ⊥) → g ≡ drop (4 + 12 * entry) bytes → Put o at (text_by f g) p r
      → Put o at (refused_text number entry threshold bytes) p r
  unfolding refused_text
  refused_at g n q w = rw (ne_eqb number 16 n) (rw (is, q) at w)
