-- What the call answers (document 02, M-111), by numbers alone; what the answers mean along lines of play is in Meaning.antt.
use Rattle.std.specs.Prelude.{Bool, cond, ◌&&◌, Result, Ok, Err, ℕ, ◌+◌, ◌-◌, ◌*◌, ◌/◌, ◌≤◌, max, leb}
use Rattle.outcome.specs.declared.Refusal.TheVariants.{NoContest}
use Rattle.outcome.specs.declared.Refusal.{Refusal}
use Rattle.contest.specs.declared.Outlook.{Outlook}
use Rattle.contest.specs.declared.Prospect.{Prospect}
use Rattle.contest.specs.declared.Prospect.TheVariants.{First, Neither}

-- "26 unless n is 1 to 16, f at most n, and t 1 to n"
unfoldable pub is_lawful : ℕ → ℕ → ℕ → Bool
is_lawful n f t = leb 1 n && (leb n 16 && (leb f n && (leb 1 t && leb t n)))

-- the same, said without a test
pub record Lawful (n f t : ℕ) : Type 0 where
  pub some : 1 ≤ n
  pub few : n ≤ 16
  pub among : f ≤ n
  pub one : 1 ≤ t
  pub most : t ≤ n

-- what the first client can be sure of: the equivocating vaults and, since it moves first, half of the correct ones, rounded up
unfoldable pub share_of : ℕ → ℕ → ℕ
share_of n f = f + (n - f + 1) / 2

-- who can force a win; that it is never the second client is `never_second` (proofs/Meaning.antt)
unfoldable pub prospect_of : ℕ → ℕ → ℕ → Prospect
prospect_of n f t = cond (leb t (share_of n f)) First Neither

-- "twice the larger of t − f and 0 is at most n − f"
unfoldable pub both_of : ℕ → ℕ → ℕ → Bool
both_of n f t = leb (2 * max (t - f) 0) (n - f)

-- the outlook, or the refusal where there is no such contest
abbrev pub Answer : Type 0
Answer = Result Outlook Refusal

unfoldable pub forecast_of : ℕ → ℕ → ℕ → Answer
forecast_of n f t =
    cond (is_lawful n f t) (Ok (record { prospect = prospect_of n f t; both = both_of n f t })) (Err NoContest)
