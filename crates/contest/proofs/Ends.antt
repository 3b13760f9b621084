-- Every play ends: a turn that asks leaves less to ask, and where both clients pass nothing is left.
use mathlib.Core.Bool.{Bool, true≢false}
use mathlib.Core.Logic.{◌⊎◌, inl, inr, ⊎_elim}
use mathlib.Core.Path.{◌≡◌, sym, ◌∙◌}
use Prim.Native.Nat.{ℕ, zero, suc, ◌+◌, ◌≤◌, ◌<◌}
use native.Mathlib.Omega.{arith}
use Rattle.contest.proofs.Greedy.{turned}
use Rattle.contest.proofs.Tallies.{Effect, correct, equivocating, free, left, none_stuck, passed}
use Rattle.contest.specs.Game.{Client, first, second, other, Position, mover, Stuck, Turn, asks, passes, Line, Ended}

module _ (n : ℕ) (equivocates : ℕ → Bool) where
  -- what is left to ask
  abbrev rest : Client → Client → Position → ℕ
  rest m w p = free n equivocates p + (left n equivocates m p + left n equivocates w p)

  -- two turns leave less, unless nothing is left
  falls : (m w : Client) (p q r : Position) → Effect n equivocates m w p q → Effect n equivocates w m q r
      → (rest w m q < rest m w p) ⊎ ((rest m w r < rest m w p) ⊎ (rest m w p ≡ 0))
  falls m w p q r (correct s) e = inl (omega arith)
  falls m w p q r (equivocating s) e = inl (omega arith)
  falls m w p q r (passed z l s) (correct u) = inr (inl (omega arith))
  falls m w p q r (passed z l s) (equivocating u) = inr (inl (omega arith))
  falls m w p q r (passed z l s) (passed y k u) = inr (inr (omega arith))

  pub record Over (p : Position) : Type 0 where
    pub none : free n equivocates p ≡ 0
    pub nothing : (c : Client) → left n equivocates c p ≡ 0

  over : (m : Client) (p : Position) → rest m (other m) p ≡ 0 → Over p
  over m p z = record { none = omega arith; nothing = by m z }
    where
      by : (m : Client) → rest m (other m) p ≡ 0 → (c : Client) → left n equivocates c p ≡ 0
      by first z first = omega arith
      by first z second = omega arith
      by second z first = omega arith
      by second z second = omega arith

  module _ (line : ℕ → Position) (played : Line n equivocates line) where
    ends : (k i : ℕ) → rest (mover i) (other (mover i)) (line i) ≤ k → (j : ℕ) × Over (line j)
    ends zero i h = (i, over (mover i) (line i) (omega arith))
    ends (suc k) i h =
        ⊎_elim
        (λ l. ends k (suc i) (omega arith))
        (λ d. ⊎_elim (λ l. ends k (suc (suc i)) (omega arith)) (λ z. (i, over (mover i) (line i) z)) d)
        (by (mover i) (turned n equivocates line played i) (turned n equivocates line played (suc i)))
      where
        by : (m : Client) → Effect n equivocates m (other m) (line i) (line (suc i))
            → Effect n equivocates (other m) (other (other m)) (line (suc i)) (line (suc (suc i)))
            → (rest (other m) (other (other m)) (line (suc i)) < rest m (other m) (line i))
            ⊎ ((rest (other (other m)) (other (other (other m))) (line (suc (suc i))) < rest m (other m) (line i)) ⊎ (rest m (other m) (line i) ≡ 0))
        by first e d = falls first second _ _ _ e d
        by second e d = falls second first _ _ _ e d

    pub line_over_lem : (i : ℕ) × Over (line i)
    line_over_lem = ends (rest first second (line 0)) 0 (omega arith)

    -- every line of play comes to its end
    pub line_ends : (i : ℕ) × Ended n equivocates (line i)
    line_ends =
        let o = line_over_lem in
        let stuck : (c : Client) → Stuck n equivocates c (line o.0) = λ c. none_stuck n equivocates c _ o.1.none (o.1.nothing c) in
        (o.0, (stuck first, stuck second))

    -- and there it stays
    pub ended_stays : (i : ℕ) → Ended n equivocates (line i) → line (suc i) ≡ line i
    ended_stays i e = by (mover i) (stuck (mover i) e) (played.goes i)
      where
        stuck : (m : Client) → Ended n equivocates (line i) → Stuck n equivocates m (line i)
        stuck first e = e.0
        stuck second e = e.1

        by : (m : Client) → Stuck n equivocates m (line i) → Turn n equivocates m (line i) (line (suc i)) → line (suc i) ≡ line i
        by m s (asks v l a e) = absurd (true≢false (sym a ∙ s v l))
        by m s (passes h e) = sym e
