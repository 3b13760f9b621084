-- What M-103 of document 02 leaves: "n 16, b 3, u 1 is 812.5 and gives 812 .. All other draws keep their values."
use Rattle.std.specs.Prelude.{◌≡◌, ◌*◌, ◌+◌, ◌/◌, ◌<◌, ◌≤◌, ℕ, Ok}
use Rattle.outcome.specs.Figures.{Outcome}
use Rattle.federation.specs.Federation.{threshold_of}
use Rattle.federation.specs.declared.Settings.{Settings}
use Rattle.binomials.specs.Binomials.{choose}
use Rattle.binomials.specs.Draw.{failing}

-- the rounding before M-103, document 01's "halves rounded up"
unfoldable pub halves_up : ℕ → ℕ → ℕ
halves_up part whole = (2000 * part + whole) / (2 * whole)

-- what it means: at most half a thousandth above the share, and less than half a thousandth below
pub record NearestUp (part whole r : ℕ) : Type 0 where
  pub not_above : r * (2 * whole) ≤ 2000 * part + whole
  pub not_below : 2000 * part + whole < (r + 1) * (2 * whole)

-- the draw of case C9
pub record C9 (s : Settings) (u : ℕ) : Type 0 where
  pub vaults : s.n ≡ 16
  pub bound : s.b ≡ 3
  pub away : u ≡ 1

-- a draw's value as it was, or C9's as it is now
pub data Kept (s : Settings) (u : ℕ) : Outcome → Type 0 where
  same : (C9 s u → ⊥) → Kept s u (Ok (halves_up (failing s u) (choose s.n (threshold_of s))))
  changed : C9 s u → halves_up (failing s u) (choose s.n (threshold_of s)) ≡ 813 → Kept s u (Ok 812)
