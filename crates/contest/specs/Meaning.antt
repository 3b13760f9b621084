-- What each answer of the call means (M-111), whichever f of the n vaults are equivocating.
use Rattle.std.specs.Prelude.{Bool, ◌≡◌, Result, Ok, Err, ℕ}
use Rattle.base.specs.Reflect.{Reflects}
use Rattle.outcome.specs.declared.Refusal.TheVariants.{NoContest}
use Rattle.contest.specs.Contest.{Answer, Lawful}
use Rattle.contest.specs.Game.{first, second, count}
use Rattle.contest.specs.Plans.{BothReach, CanForce, CanStop}
use Rattle.contest.specs.declared.Prospect.{Prospect}
use Rattle.contest.specs.declared.Prospect.TheVariants.{First, Second, Neither}

-- "whether the first desk can force a win, the second can, or each can stop the other"
abbrev pub Right : ℕ → (ℕ → Bool) → ℕ → Prospect → Type 0
Right n equivocates t First = CanForce n equivocates t first
Right n equivocates t Second = CanForce n equivocates t second
Right n equivocates t Neither = CanStop n equivocates t first × CanStop n equivocates t second

pub data Told (n f t : ℕ) : Answer → Type 0 where
  unlawful : (Lawful n f t → ⊥) → Told n f t (Err NoContest)
  known : (r : Prospect) (both : Bool) → Lawful n f t
      → ((equivocates : ℕ → Bool) → count n equivocates ≡ f → Right n equivocates t r)
      → ((equivocates : ℕ → Bool) → count n equivocates ≡ f → Reflects both (BothReach n equivocates t))
      → Told n f t (Ok (record { prospect = r; both = both }))
