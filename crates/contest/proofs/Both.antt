-- Both jobs reach t on some line exactly if twice what each needs of the correct vaults is there. Who may still ask an equivocating vault will be
-- signed by it, so a client's signatures and equivocating vaults together grow with each correct vault that it asks, and only so.
use mathlib.Core.Bool.{Bool}
use mathlib.Core.Path.{◌≡◌, sym}
use Prim.Native.Nat.{ℕ, zero, suc, ◌+◌, ◌*◌, ◌-◌, ◌≤◌, max}
use native.Mathlib.Omega.{arith}
use Rattle.base.proofs.Reflect.{reflect_as, reflect_le}
use Rattle.base.specs.Reflect.{Reflects}
use Rattle.contest.proofs.Ends.{line_over_lem}
use Rattle.contest.proofs.Greedy.{greedy, on_turn, reach, turned}
use Rattle.contest.proofs.Rivals.{duel, duel_follows, duel_played}
use Rattle.contest.proofs.Tallies.{Effect, correct, equivocating, free, free_start, left, left_start, passed}
use Rattle.contest.proofs.Winning.{gets}
use Rattle.contest.specs.Contest.{both_of}
use Rattle.contest.specs.Game.{Client, first, second, other, Position, start, signatures, mover, Line, count}
use Rattle.contest.specs.Plans.{BothReach}

module _ (n : ℕ) (equivocates : ℕ → Bool) where
  abbrev sum : Client → Position → ℕ
  sum c p = signatures c p + left n equivocates c p

  -- each has its equivocating vaults, and together they have no more than there are
  record Shares (m w : Client) (p : Position) : Type 0 where
    pub all : sum m p + sum w p + free n equivocates p ≡ n + count n equivocates
    pub mine : count n equivocates ≤ sum m p
    pub theirs : count n equivocates ≤ sum w p

  shares_next : (m w : Client) (p q : Position) → Effect n equivocates m w p q → Shares m w p → Shares w m q
  shares_next m w p q (correct s) h = record { all = omega arith; mine = omega arith; theirs = omega arith }
  shares_next m w p q (equivocating s) h = record { all = omega arith; mine = omega arith; theirs = omega arith }
  shares_next m w p q (passed z l s) h = record { all = omega arith; mine = omega arith; theirs = omega arith }

  shares_start : Shares first second start
  shares_start =
      let f = free_start n equivocates in
      let a = left_start n equivocates first in
      let b = left_start n equivocates second in
      record { all = omega arith; mine = omega arith; theirs = omega arith }

  shares : (line : ℕ → Position) → Line n equivocates line → (i : ℕ) → Shares (mover i) (other (mover i)) (line i)
  shares line played zero = rw played.begins shares_start
  shares line played (suc i) = by (mover i) (turned n equivocates line played i) (shares line played i)
    where
      by : (m : Client) → Effect n equivocates m (other m) (line i) (line (suc i)) → Shares m (other m) (line i)
          → Shares (other m) (other (other m)) (line (suc i))
      by first e h = shares_next first second _ _ e h
      by second e h = shares_next second first _ _ e h

  module _ (t : ℕ) where
    both_bound : BothReach n equivocates t → 2 * max (t - count n equivocates) 0 ≤ n - count n equivocates
    both_bound b =
        let m = mover b.turn in
        let s = shares b.line b.played b.turn in
        let f = free_start n equivocates in
        omega (arith, b.reached m, b.reached (other m))

    -- both follow the plan
    both_line : 2 * max (t - count n equivocates) 0 ≤ n - count n equivocates → BothReach n equivocates t
    unfolding reach
    both_line h =
        let plans = greedy n equivocates in
        let played = duel_played n equivocates plans in
        record {
          line = duel n equivocates plans;
          played = played;
          turn = (line_over_lem n equivocates (duel n equivocates plans) played).0;
          reached = λ c. gets n equivocates t (duel n equivocates plans) played c (duel_follows n equivocates plans c) (enough c);
        }
      where
        enough : (c : Client) → t ≤ reach n equivocates (on_turn first c) c start
        enough first = let f = free_start n equivocates in let l = left_start n equivocates first in omega arith
        enough second = let f = free_start n equivocates in let l = left_start n equivocates second in omega arith

  pub reflect_both : (f t : ℕ) → count n equivocates ≡ f → Reflects (both_of n f t) (BothReach n equivocates t)
  unfolding both_of
  reflect_both f t e = rw (sym e) (reflect_as (reflect_le (2 * max (t - count n equivocates) 0) (n - count n equivocates)) (both_line t) (both_bound t))
