-- What is kept of kind 13 is right.
use mathlib.Core.Bool.{Bool, false, true, true≢false}
use mathlib.Core.List.{List}
use mathlib.Core.Path.{◌∙◌, ◌≡◌, ap, refl, sym}
use Prim.Native.Nat.{ℕ}
use Rattle.std.specs.Prelude.{Some}
use Rattle.std.specs.Option.{is_some}
use Rattle.federation.specs.declared.Settings.{Settings}
use Rattle.job_sets.specs.declared.job_set.JobSet.{JobSet}
use Rattle.vaults.specs.declared.Votes.{Votes}
use Rattle.runfile.specs.declared.Kind.{Kind}
use Rattle.naming.specs.Kept.{Found, Right, Still, is_naming, named_by, Remembered, unknown_yet}

module _ (s : Settings) (votes : List Votes) (journal : List ℕ) (booked : ℕ) (kind : Kind) where
  pub already_known : (kept : Remembered) → Right s votes journal booked kept → is_some kept ≡ true → Found s votes journal booked kind kept
  already_known kept h t = record { right = h; known = λ _. t }

  pub known_now : (r : JobSet) → r ≡ named_by s votes journal booked → Found s votes journal booked kind (Some r)
  known_now r q = record { right = record { are = λ _. q }; known = λ _. refl }

  pub not_asked : (kept : Remembered) (b : Bool) → b ≡ is_naming kind → b ≡ false → Right s votes journal booked kept → Found s votes journal booked kind kept
  not_asked kept b e f h = record { right = h; known = λ t. absurd (true≢false (sym t ∙ (sym e ∙ f))) }

module _ (kept : Remembered) (booked signatures booked' signatures' : ℕ) where
  pub still_known : booked ≡ booked' → signatures ≡ signatures' → Still kept booked signatures booked' signatures' kept
  still_known a b = record { same = λ _. (refl, a, b) }

  pub not_known : (r : Remembered) → r ≡ unknown_yet → Still kept booked signatures booked' signatures' r
  not_known r e = record { same = λ t. absurd (true≢false (sym t ∙ ap (λ (x : Remembered). is_some x) e)) }

pub ruleset names = (already_known, known_now, not_asked, still_known, not_known)
