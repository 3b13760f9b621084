-- The plan's line from the first client's side: it stays ahead until it has t signatures, and it gets them if it could reach them.
use mathlib.Core.Bool.{Bool, true}
use mathlib.Core.Path.{◌≡◌}
use Prim.Native.Nat.{ℕ, zero, suc, ◌+◌, ◌≤◌, ◌<◌}
use native.Mathlib.Omega.{arith}
use lib.Dec.{leb}
use borrow.Author.Tests.{le-leb, leb-false, leb-true}
use Rattle.base.proofs.Reflect.{not_true_false}
use Rattle.base.proofs.Search.{any_intro, first_any, first_least}
use Rattle.base.specs.Search.{Least, first_below}
use Rattle.contest.proofs.Ends.{line_over_lem}
use Rattle.contest.proofs.Greedy.{greedy, has_reach, on_turn, reach, reach_has, reach_kept, reach_limited, turned}
use Rattle.contest.proofs.Tallies.{Effect, correct, equivocating, passed}
use Rattle.contest.specs.Game.{Client, first, second, other, Position, start, signatures, mover, Line}
use Rattle.contest.specs.Plans.{CanForce, CanStop, Follows, Wins}

module _ (n : ℕ) (equivocates : ℕ → Bool) (t : ℕ) where
  -- ---- the client that follows the plan gets t signatures, if it could reach them
  pub gets : (line : ℕ → Position) (played : Line n equivocates line) (c : Client) → Follows n equivocates c (greedy n equivocates c) line
      → t ≤ reach n equivocates (on_turn first c) c start → t ≤ signatures c (line (line_over_lem n equivocates line played).0)
  gets line played c follows h =
      let o = line_over_lem n equivocates line played in
      let last = reach_has n equivocates (mover o.0) c (line o.0) o.1.none (o.1.nothing c) in
      omega (arith, reach_kept n equivocates line played c follows o.0)

  -- ---- and the first gets them first
  module _ (line : ℕ → Position) (played : Line n equivocates line) (follows : Follows n equivocates first (greedy n equivocates first) line)
      (some : 1 ≤ t) (enough : t ≤ reach n equivocates 1 first start) where
    -- until the first client has t, it is ahead whenever the second moves, and not behind in its own turn
    record Leads (i : ℕ) : Type 0 where
      pub ahead : signatures second (line i) + on_turn (mover i) second ≤ signatures first (line i)
      pub below : signatures second (line i) < t

    leads : (i : ℕ) → ((k : ℕ) → k < i → signatures first (line k) < t) → Leads i
    leads zero h = record { ahead = rw played.begins (omega arith); below = rw played.begins some }
    leads (suc i) h =
        let l = leads i (λ k m. h k (omega arith)) in
        let r = reach_kept n equivocates line played first follows i in
        let s = step (mover i) (turned n equivocates line played i) l.ahead l.below (h i (omega arith)) (omega arith) in
        record { ahead = s.0; below = s.1 }
      where
        step : (m : Client) → Effect n equivocates m (other m) (line i) (line (suc i))
            → signatures second (line i) + on_turn m second ≤ signatures first (line i) → signatures second (line i) < t → signatures first (line i) < t
            → t ≤ reach n equivocates (on_turn m first) first (line i)
            → (signatures second (line (suc i)) + on_turn (other m) second ≤ signatures first (line (suc i))) × (signatures second (line (suc i)) < t)
        step first (correct s) a b l r = (omega arith, omega arith)
        step first (equivocating s) a b l r = (omega arith, omega arith)
        step first (passed z u s) a b l r = absurd (omega (arith, reach_has n equivocates first first (line i) z u))
        step second (correct s) a b l r = (omega arith, omega arith)
        step second (equivocating s) a b l r = (omega arith, omega arith)
        step second (passed z u s) a b l r = (omega arith, omega arith)

    abbrev has : ℕ → Bool
    has k = leb t (signatures first (line k))

    -- the first turn at which it has t
    least : (j : ℕ) → t ≤ signatures first (line j) → (i : ℕ) × Least (suc j) (λ k. has k ≡ true) i
    least j h =
        (first_below (suc j) has, first_least has (suc j) (first_any has (suc j) (any_intro has (suc j) j (omega arith) (le-leb _ _ h))))

    pub wins : Wins n equivocates t first line
    wins =
        let i = least (line_over_lem n equivocates line played).0 (gets line played first follows enough) in
        record {
          turn = i.0;
          reached = leb-true _ _ i.1.has;
          before = λ k l. (leads k (λ j m. leb-false _ _ (not_true_false _ (i.1.none_before j (omega arith))))).below;
        }

  pub can_force : 1 ≤ t → t ≤ reach n equivocates 1 first start → CanForce n equivocates t first
  can_force some enough = record { plan = greedy n equivocates first; always = λ line played follows. wins line played follows some enough }

  -- ---- the plan stops a client that cannot reach t
  pub can_stop : (c : Client) → reach n equivocates (on_turn first (other c)) (other c) start < t → CanStop n equivocates t c
  can_stop c h =
      record {
        plan = greedy n equivocates c;
        always = λ line played follows w.
            let l = reach_limited n equivocates line played c follows w.turn in
            omega (arith, w.reached, has_reach n equivocates (on_turn (mover w.turn) (other c)) (other c) (line w.turn));
      }
