-- What is printed, by the three cases: the list of the run's end, the line of the step that can't be read, the line of the file that is turned back.
use mathlib.Core.Bool.{Bool, false, true}
use mathlib.Core.List.{List}
use mathlib.Core.Path.{◌∙◌, ◌≡◌, ap₂, subst, sym}
use Prim.Native.Nat.{◌<◌, ℕ}
use native.Mathlib.Omega.{arith}
use borrow.Author.Tests.{eq-eqb, ne_eqb}
use Rattle.consequences.specs.Freed.{Freed}
use Rattle.ledger.specs.declared.Ledger.{Ledger}
use Rattle.outcome.specs.Figures.{Verdict}
use Rattle.std.specs.Prelude.{Err}
use Rattle.outcome.specs.declared.Refusal.TheVariants.{Settings as BadSettings, Unreadable}
use Rattle.release_file.specs.Releases.{freed_at, releases_text, unread_in}
use Rattle.release_list.specs.Listing.{Released, list_text, printed, tapes_freed}
use Rattle.release_list.specs.declared.Releases.{Releases}
use Rattle.runfile.specs.History.{final_run}
use Rattle.runfile.specs.Run.{opens}
use Rattle.whole_run.specs.RanOut.{RanOut}
use Rattle.digits.specs.Digits.{Put}
use Rattle.text.specs.Text.{line_for}

module _ {o p : List ℕ} (input : List ℕ) where
  module _ (b : Bool) (lets : b ≡ opens input) (through : b ≡ true) where
    pub list_told : unread_in input ≡ 0 → (l : Ledger) (journal : List ℕ) → RanOut input l journal → (d : Releases) → Released l journal o p d
        → Put o 0 (releases_text input) p d.written
    unfolding releases_text
    list_told z l journal ran d w =
        let same : tapes_freed l journal ≡ freed_at (final_run input) = ap₂ tapes_freed ran.ledger_is ran.journal_is in
        simp (sym lets ∙ through, eq-eqb (unread_in input) 0 z)
        (subst (λ (xs : List Freed). Put o 0 (list_text xs) p d.written) same
        (subst (λ (g : Verdict). Put o 0 (printed g (tapes_freed l journal)) p d.written) ran.passes w.text))

    pub cut_told : {r : ℕ} (first : ℕ) → first ≡ unread_in input → 0 < first → Put o 0 (line_for first (Err Unreadable)) p r → Put o 0 (releases_text input) p r
    unfolding releases_text
    cut_told {r} first is n w =
        simp (sym lets ∙ through, ne_eqb (unread_in input) 0 (λ e. absurd (omega (arith, is, e, n)))) (subst (λ (k : ℕ). Put o 0 (line_for k (Err Unreadable)) p r) is w)

  pub back_told : {r : ℕ} (b : Bool) → b ≡ opens input → b ≡ false → Put o 0 (line_for 0 (Err BadSettings)) p r → Put o 0 (releases_text input) p r
  unfolding releases_text
  back_told {r} b is n w = simp (sym is ∙ n) w
