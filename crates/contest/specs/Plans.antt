-- What a client can force and stop (M-111), "shown over all lines of play": a plan of the one against every play of the other.
use Rattle.std.specs.Prelude.{◌≡◌, Bool, ℕ, suc, ◌≤◌, ◌<◌}
use Rattle.contest.specs.Game.{Client, other, Position, signatures, mover, Turn, Line}

module _ (n : ℕ) (equivocates : ℕ → Bool) where
  -- What the client does in its turns. A position has all that was asked, in order: a plan may go by the whole play so far.
  pub record Plan (c : Client) : Type 0 where
    pub next : Position → Position
    pub lawful : (p : Position) → Turn n equivocates c p (next p)

  abbrev pub Follows : (c : Client) → Plan c → (ℕ → Position) → Type 0
  Follows c plan line = (i : ℕ) → mover i ≡ c → line (suc i) ≡ plan.next (line i)

  module _ (t : ℕ) where
    -- "The first desk with t signatures wins": up to a turn at which it has them the other has fewer
    pub record Wins (c : Client) (line : ℕ → Position) : Type 0 where
      pub turn : ℕ
      pub reached : t ≤ signatures c (line turn)
      pub before : (i : ℕ) → i ≤ turn → signatures (other c) (line i) < t

    -- some plan wins along every line that follows it
    pub record CanForce (c : Client) : Type 0 where
      pub plan : Plan c
      pub always : (line : ℕ → Position) → Line n equivocates line → Follows c plan line → Wins c line

    -- some plan keeps the other from winning along every line that follows it
    pub record CanStop (c : Client) : Type 0 where
      pub plan : Plan c
      pub always : (line : ℕ → Position) → Line n equivocates line → Follows c plan line → Wins (other c) line → ⊥

    -- "both jobs could reach t if play went on after a win": a line does not end with a win
    pub record BothReach : Type 0 where
      pub line : ℕ → Position
      pub played : Line n equivocates line
      pub turn : ℕ
      pub reached : (c : Client) → t ≤ signatures c (line turn)
