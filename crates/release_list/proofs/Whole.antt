-- The whole list: the lines, and the line with their number; and through the shut gate nothing.
use mathlib.Core.List.{List, [], ◌∷◌}
use mathlib.Core.Path.{◌∙◌, ◌≡◌, ap, refl, subst, sym}
use Prim.Native.Nat.{◌≤◌, ℕ}
use native.Mathlib.Omega.{arith}
use lib.ListN.{length}
use Rattle.consequences.specs.Freed.{Freed}
use Rattle.ledger.specs.Steps.{whole_gate}
use Rattle.ledger.specs.declared.Ledger.{Ledger}
use Rattle.outcome.specs.Figures.{Verdict}
use Rattle.std.specs.Prelude.{Ok, Err}
use Rattle.outcome.specs.declared.Refusal.{Refusal}
use Rattle.digits.proofs.Writing.{then}
use Rattle.digits.specs.Digits.{Put, decimal}
use Rattle.release_lines.specs.Tapes.{Listed}
use Rattle.release_lines.specs.declared.Cursor.{Cursor}
use Rattle.release_list.specs.Listing.{Released, list_text, tapes_freed}

pub list_counted : {o p : List ℕ} {d : Cursor} (xs : List Freed) → Listed o (record { at = 0; count = 0 }) xs p d → d.count ≡ length xs
list_counted xs a = omega (arith, a.counted)

pub list_told : {o p q s : List ℕ} {d : Cursor} {r₁ r₂ : ℕ} (xs : List Freed) → Listed o (record { at = 0; count = 0 }) xs p d
    → Put p d.at (decimal d.count) q r₁ → Put q r₁ (10 ∷ []) s r₂ → Put o 0 (list_text xs) s r₂
unfolding list_text
list_told {o} {p} {q} {s} {d} {r₁} {r₂} xs a b c =
    then a.put (then (subst (λ (m : ℕ). Put p d.at (decimal m) q r₁) (list_counted xs a) b) c)

-- ---- the two ways: through the open gate the list is written, through the shut one nothing
module _ (l : Ledger) (journal : List ℕ) (g : Verdict) (is : g ≡ whole_gate l journal) where
  pub list_passed : {o p : List ℕ} {n at : ℕ} → g ≡ Ok (tt {0}) → Put o 0 (list_text (tapes_freed l journal)) p at → at ≤ 12805 → n ≡ length (tapes_freed l journal)
      → Released l journal o p (record { outcome = Ok n; written = at })
  list_passed q w h e = record { answer = simp (sym is ∙ q) (ap Ok e); text = simp (sym is ∙ q) w; short = h }

  pub list_shut : (o : List ℕ) (why : Refusal) → g ≡ Err why → Released l journal o o (record { outcome = Err why; written = 0 })
  list_shut o why q = record { answer = simp (sym is ∙ q); text = simp (sym is ∙ q) (record { moved = refl; wrote = refl }); short = omega arith }
