-- Two plans meet on one line, and a line has one winner: so no client can force what the other can stop, and no two answers are right.
use mathlib.Core.Bool.{Bool}
use mathlib.Core.Path.{◌≡◌, refl, subst}
use Prim.Native.Nat.{ℕ, zero, suc}
use native.Mathlib.Omega.{arith}
use Rattle.base.proofs.Reflect.{by_cases}
use lib.Dec.{leb}
use borrow.Author.Tests.{leb-false, leb-true}
use Rattle.contest.specs.Game.{Client, first, second, other, Position, start, mover, Line}
use Rattle.contest.specs.Meaning.{Right}
use Rattle.contest.specs.Plans.{CanForce, CanStop, Follows, Plan, Wins}
use Rattle.contest.specs.declared.Prospect.{Prospect}
use Rattle.contest.specs.declared.Prospect.TheVariants.{First, Second, Neither}

module _ (n : ℕ) (equivocates : ℕ → Bool) where
  -- ---- the line along which both clients follow their plans
  module _ (plans : (c : Client) → Plan n equivocates c) where
    unfoldable pub duel : ℕ → Position
    duel zero = start
    duel (suc i) = (plans (mover i)).next (duel i)

    pub duel_played : Line n equivocates duel
    unfolding duel
    duel_played = record { begins = refl; goes = λ i. (plans (mover i)).lawful (duel i) }

    pub duel_follows : (c : Client) → Follows n equivocates c (plans c) duel
    unfolding duel
    duel_follows c i e = subst (λ m. (plans (mover i)).next (duel i) ≡ (plans m).next (duel i)) e refl

  abbrev both : Plan n equivocates first → Plan n equivocates second → (c : Client) → Plan n equivocates c
  both a b first = a
  both a b second = b

  module _ (t : ℕ) where
    one_winner : (line : ℕ → Position) → Wins n equivocates t first line → Wins n equivocates t second line → ⊥
    one_winner line a b =
        by_cases (λ _. ⊥) (leb a.turn b.turn)
        (λ e. let g = leb-true a.turn b.turn e in let l = b.before a.turn (omega arith) in omega (arith, a.reached))
        (λ e. let g = leb-false a.turn b.turn e in let l = a.before b.turn (omega arith) in omega (arith, b.reached))

    -- who can force a win can stop the other
    pub force_stop : (c : Client) → CanForce n equivocates t c → CanStop n equivocates t c
    force_stop first f = record { plan = f.plan; always = λ line l o w. one_winner line (f.always line l o) w }
    force_stop second f = record { plan = f.plan; always = λ line l o w. one_winner line w (f.always line l o) }

    -- and the other cannot stop it
    pub force_unstopped : (c : Client) → CanForce n equivocates t c → CanStop n equivocates t (other c) → ⊥
    force_unstopped first f s =
        let plans = both f.plan s.plan in
        let line = duel_played plans in
        s.always (duel plans) line (duel_follows plans second) (f.always (duel plans) line (duel_follows plans first))
    force_unstopped second f s =
        let plans = both s.plan f.plan in
        let line = duel_played plans in
        s.always (duel plans) line (duel_follows plans first) (f.always (duel plans) line (duel_follows plans second))

    -- at most one answer is right
    pub one_right : (r s : Prospect) → Right n equivocates t r → Right n equivocates t s → r ≡ s
    one_right First First a b = refl
    one_right First Second a b = absurd (force_unstopped first a (force_stop second b))
    one_right First Neither a b = absurd (force_unstopped first a b.1)
    one_right Second First a b = absurd (force_unstopped second a (force_stop first b))
    one_right Second Second a b = refl
    one_right Second Neither a b = absurd (force_unstopped second a b.0)
    one_right Neither First a b = absurd (force_unstopped first b a.1)
    one_right Neither Second a b = absurd (force_unstopped second b a.0)
    one_right Neither Neither a b = refl
