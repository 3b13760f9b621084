-- The call's answer is right about the game, whichever vaults are equivocating, and no other answer is.
use mathlib.Core.Bool.{Bool, cond}
use mathlib.Core.Path.{◌≡◌}
use Rattle.std.specs.Prelude.{Ok, Err}
use Prim.Native.Nat.{ℕ, zero, suc, ◌+◌, ◌≤◌, ◌<◌, min}
use native.Mathlib.Omega.{arith}
use lib.Dec.{leb, ltb}
use borrow.Author.Tests.{leb-false, leb-true, ltb-false, ltb-true}
use Rattle.base.proofs.Reflect.{by_cases, refuted, refutes, reflects_same}
use Rattle.outcome.specs.declared.Refusal.TheVariants.{NoContest}
use Rattle.contest.proofs.Both.{reflect_both}
use Rattle.contest.proofs.Greedy.{reach}
use Rattle.contest.proofs.Lawful.{reflect_lawful}
use Rattle.contest.proofs.Rivals.{force_stop, force_unstopped, one_right}
use Rattle.contest.proofs.Tallies.{free_start, left_start}
use Rattle.contest.proofs.Winning.{can_force, can_stop}
use Rattle.contest.specs.Contest.{Answer, both_of, forecast_of, is_lawful, prospect_of, share_of}
use Rattle.contest.specs.Game.{first, second, count}
use Rattle.contest.specs.Meaning.{Right, Told, known, unlawful}
use Rattle.contest.specs.Plans.{CanForce, CanStop}
use Rattle.contest.specs.declared.Prospect.TheVariants.{First, Neither}

-- ---- who can force a win
module _ (n : ℕ) (equivocates : ℕ → Bool) (f t : ℕ) (chosen : count n equivocates ≡ f) (some : 1 ≤ t) where
  first_forces : t ≤ share_of n f → CanForce n equivocates t first
  unfolding reach share_of
  first_forces h =
      let s = free_start n equivocates in
      let l = left_start n equivocates first in
      can_force n equivocates t some (omega arith)

  each_stops : share_of n f < t → CanStop n equivocates t first × CanStop n equivocates t second
  unfolding reach share_of
  each_stops h =
      let s = free_start n equivocates in
      let l = left_start n equivocates first in
      let r = left_start n equivocates second in
      (can_stop n equivocates t first (omega arith), can_stop n equivocates t second (omega arith))

  pub prospect_right : Right n equivocates t (prospect_of n f t)
  unfolding prospect_of
  prospect_right =
      by_cases (λ b. Right n equivocates t (cond b First Neither)) (leb t (share_of n f))
      (λ e. first_forces (leb-true _ _ e))
      (λ e. each_stops (leb-false _ _ e))

  -- the first client can always stop the second, by winning or by the plan
  pub first_stops : CanStop n equivocates t first
  first_stops =
      by_cases (λ _. CanStop n equivocates t first) (leb t (share_of n f))
      (λ e. force_stop n equivocates t first (first_forces (leb-true _ _ e)))
      (λ e. (each_stops (leb-false _ _ e)).0)

  -- so the second can never force a win
  pub never_second : CanForce n equivocates t second → ⊥
  never_second c = force_unstopped n equivocates t second c first_stops

-- ---- there is a choice of f vaults: the first f
below_count : (f k : ℕ) → count k (λ v. ltb v f) ≡ min k f
unfolding count
below_count f zero = omega arith
below_count f (suc k) =
    let h = below_count f k in
    by_cases (λ b. cond b 1 0 + count k (λ v. ltb v f) ≡ min (suc k) f) (ltb k f)
    (λ e. omega (arith, ltb-true k f e))
    (λ e. omega (arith, ltb-false k f e))

-- ---- the whole answer
pub forecast_means : (n f t : ℕ) → Told n f t (forecast_of n f t)
unfolding forecast_of
forecast_means n f t =
    by_cases (λ b. Told n f t (cond b (Ok (record { prospect = prospect_of n f t; both = both_of n f t })) (Err NoContest))) (is_lawful n f t)
    (λ e. let l = (reflect_lawful n f t).sound e in
    known _ _ l (λ equivocates h. prospect_right n equivocates f t h l.one) (λ equivocates h. reflect_both n equivocates f t h))
    (λ e. unlawful (refuted (reflect_lawful n f t) e))

pub means_forecast : (n f t : ℕ) (a : Answer) → Told n f t a → a ≡ forecast_of n f t
unfolding forecast_of
means_forecast n f t a (unlawful h) = rw (refutes (reflect_lawful n f t) h)
means_forecast n f t a (known r both l right reflects) =
    let h : count n (λ v. ltb v f) ≡ f = omega (arith, below_count f n, l.among) in
    let p : r ≡ prospect_of n f t = one_right n (λ v. ltb v f) t r (prospect_of n f t) (right _ h) (prospect_right n _ f t h l.one) in
    let b : both ≡ both_of n f t = reflects_same (reflects _ h) (reflect_both n _ f t h) in
    rw ((reflect_lawful n f t).complete l, p, b)
