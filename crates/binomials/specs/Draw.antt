-- The draw ("Draw", the paper's Theorem 4 with both sizes n − b): "with u vaults that can't sign, the chance that a random preflight quorum
-- fails, 1 − C(n−u, n−b) / C(n, n−b), in thousandths"; M-103 of document 02: "an exact half to the even neighbour. The draw follows".
use Rattle.std.specs.Prelude.{cond, ◌≡◌, ◌%◌, ◌*◌, ◌+◌, ◌-◌, ◌/◌, ◌<◌, ◌≤◌, ℕ, leb, ltb, Ok, Err}
use Rattle.outcome.specs.Figures.{Outcome}
use Rattle.outcome.specs.declared.Refusal.TheVariants.{Settings as BadSettings, TooManyAbsent}
use Rattle.federation.specs.Federation.{Lawful, is_lawful, threshold_of}
use Rattle.federation.specs.declared.Settings.{Settings}
use Rattle.binomials.specs.Binomials.{choose}

-- "an exact half to the even neighbour": of a number and the next
unfoldable pub to_even : ℕ → ℕ
to_even down = down + down % 2

-- a share in thousandths: down where what is left over is less than half of the whole, up where it is more
unfoldable pub thousandths : ℕ → ℕ → ℕ
thousandths part whole =
    let down = 1000 * part / whole in
    let over = 2 * (1000 * part % whole) in
    cond (ltb over whole) down (cond (ltb whole over) (down + 1) (to_even down))

-- of all quorums, those with a vault that can't sign
unfoldable pub failing : Settings → ℕ → ℕ
failing s u = choose s.n (threshold_of s) - choose (s.n - u) (threshold_of s)

-- checks 1 and 17, then the chance
unfoldable pub draw_of : Settings → ℕ → Outcome
draw_of s u =
    cond (is_lawful s)
    (cond (leb u s.n) (Ok (thousandths (failing s u) (choose s.n (threshold_of s)))) (Err TooManyAbsent))
    (Err BadSettings)

-- ---- what the draw means

-- how far m thousandths are from part / whole, in thousandths of 1 / whole
abbrev pub gap : ℕ → ℕ → ℕ → ℕ
gap part whole m = (1000 * part - m * whole) + (m * whole - 1000 * part)

-- no number of thousandths is nearer to part / whole than r, and where another is as near, r is the even one
pub record Nearest (part whole r : ℕ) : Type 0 where
  pub nearest : (m : ℕ) → gap part whole r ≤ gap part whole m
  pub even : (m : ℕ) → gap part whole m ≡ gap part whole r → (m ≡ r → ⊥) → r % 2 ≡ 0

-- what each answer of kind 7 means
pub data Drawn (s : Settings) (u : ℕ) : Outcome → Type 0 where
  unlawful : (Lawful s → ⊥) → Drawn s u (Err BadSettings)
  absent : Lawful s → s.n < u → Drawn s u (Err TooManyAbsent)
  chance : (r : ℕ) → Lawful s → u ≤ s.n → Nearest (failing s u) (choose s.n (threshold_of s)) r → Drawn s u (Ok r)
