-- One plan is best for both clients: ask a correct vault while there is one that nobody has asked. What a client can still reach is its signatures,
-- its equivocating vaults, and half of the free correct ones, rounded up in its own turn: the plan keeps that, and does not let the other's grow.
use mathlib.Core.Bool.{Bool}
use mathlib.Core.Logic.{◌⊎◌, inl, inr, ⊎_elim}
use mathlib.Core.Path.{◌≡◌, refl, sym}
use Prim.Native.Nat.{ℕ, zero, suc, ◌+◌, ◌/◌, ◌≤◌}
use native.Mathlib.Nat.{eq-or-lt_of_le}
use native.Mathlib.Omega.{arith}
use Rattle.base.proofs.Reflect.{by_cases}
use Rattle.base.proofs.Search.{any_elim, any_none}
use Rattle.base.specs.Search.{any_below}
use Rattle.contest.proofs.Tallies.{Change, Effect, correct, effect, equivocating, free, free_turn, left, passed}
use Rattle.contest.specs.Game.{Client, first, second, other, Position, start, signatures, ask, may_ask, mover, Turn, asks, passes, Line}
use Rattle.contest.specs.Plans.{Plan, Follows}

-- 1 for the client whose turn it is
abbrev pub on_turn : Client → Client → ℕ
on_turn first first = 1
on_turn first second = 0
on_turn second first = 0
on_turn second second = 1

module _ (n : ℕ) (equivocates : ℕ → Bool) where
  -- what the plan takes care of in c's turn, while w waits: where a correct vault is free, one is asked
  abbrev pub Best : Client → Client → Position → Position → Type 0
  Best c w p q = (free n equivocates p ≡ 0) ⊎ Change n equivocates c w p q 1 0 1

  pub record Choice (c : Client) (p : Position) : Type 0 where
    pub next : Position
    pub turn : Turn n equivocates c p next
    pub best : Best c (other c) p next

  any_turn : (c : Client) (p : Position) → free n equivocates p ≡ 0 → Choice c p
  any_turn c p z =
      by_cases (λ _. Choice c p) (any_below n (may_ask equivocates c p))
      (λ e. let v = any_elim _ n e in record { next = ask c v.which p; turn = asks v.which v.below v.has refl; best = inl z })
      (λ e. record { next = p; turn = passes (any_none _ n e) refl; best = inl z })

  pub choice : (c : Client) (p : Position) → Choice c p
  choice c p =
      ⊎_elim
      (λ z. any_turn c p (sym z))
      (λ l. let v = free_turn n equivocates c p l in record { next = v.0; turn = v.1; best = inr v.2 })
      (eq-or-lt_of_le (omega arith))

  abbrev pub greedy : (c : Client) → Plan n equivocates c
  greedy c = record { next = λ p. (choice c p).next; lawful = λ p. (choice c p).turn }

  unfoldable pub reach : ℕ → Client → Position → ℕ
  reach turn c p = signatures c p + left n equivocates c p + (free n equivocates p + turn) / 2

  pub has_reach : (turn : ℕ) (c : Client) (p : Position) → signatures c p ≤ reach turn c p
  unfolding reach
  has_reach turn c p = omega arith

  -- where nothing is left to ask, a client reaches what it has
  pub reach_has : (m c : Client) (p : Position) → free n equivocates p ≡ 0 → left n equivocates c p ≡ 0 → reach (on_turn m c) c p ≡ signatures c p
  unfolding reach
  reach_has m c p z l = omega (arith, one_turn m c)
    where
      one_turn : (m c : Client) → on_turn m c ≤ 1
      one_turn first first = omega arith
      one_turn first second = omega arith
      one_turn second first = omega arith
      one_turn second second = omega arith

  -- c's turn gains c nothing and takes nothing from w, who waits
  turn_reach : (c w : Client) (p q : Position) → Effect n equivocates c w p q → (reach 0 c q ≤ reach 1 c p) × (reach 0 w p ≤ reach 1 w q)
  unfolding reach
  turn_reach c w p q (correct s) = (omega arith, omega arith)
  turn_reach c w p q (equivocating s) = (omega arith, omega arith)
  turn_reach c w p q (passed z l s) = (omega arith, omega arith)

  -- by the plan it also loses c nothing and gives w nothing
  plan_reach : (c w : Client) (p q : Position) → Effect n equivocates c w p q → Best c w p q
      → (reach 1 c p ≤ reach 0 c q) × (reach 1 w q ≤ reach 0 w p)
  unfolding reach
  plan_reach c w p q e (inr s) = (omega arith, omega arith)
  plan_reach c w p q (correct s) (inl z) = (omega arith, omega arith)
  plan_reach c w p q (equivocating s) (inl z) = (omega arith, omega arith)
  plan_reach c w p q (passed y l s) (inl z) = (omega arith, omega arith)

  -- ---- along a line
  module _ (line : ℕ → Position) (played : Line n equivocates line) where
    pub turned : (i : ℕ) → Effect n equivocates (mover i) (other (mover i)) (line i) (line (suc i))
    turned i = effect n equivocates (mover i) (line i) (line (suc i)) (played.goes i)

    -- that follows the plan of c
    module _ (c : Client) (follows : Follows n equivocates c (greedy c) line) where
      step : (i : ℕ)
          → (reach (on_turn (mover i) c) c (line i) ≤ reach (on_turn (mover (suc i)) c) c (line (suc i)))
          × (reach (on_turn (mover (suc i)) (other c)) (other c) (line (suc i)) ≤ reach (on_turn (mover i) (other c)) (other c) (line i))
      step i = by c (mover i) (turned i) (λ e. rw (follows i e) (choice c (line i)).best)
        where
          by : (c m : Client) → Effect n equivocates m (other m) (line i) (line (suc i)) → (m ≡ c → Best c (other c) (line i) (line (suc i)))
              → (reach (on_turn m c) c (line i) ≤ reach (on_turn (other m) c) c (line (suc i)))
              × (reach (on_turn (other m) (other c)) (other c) (line (suc i)) ≤ reach (on_turn m (other c)) (other c) (line i))
          by first first e b = plan_reach first second _ _ e (b refl)
          by first second e b = let h = turn_reach second first _ _ e in (h.1, h.0)
          by second first e b = let h = turn_reach first second _ _ e in (h.1, h.0)
          by second second e b = plan_reach second first _ _ e (b refl)

      pub reach_kept : (i : ℕ) → reach (on_turn first c) c start ≤ reach (on_turn (mover i) c) c (line i)
      reach_kept zero = rw played.begins (omega arith)
      reach_kept (suc i) = omega (arith, reach_kept i, (step i).0)

      pub reach_limited : (i : ℕ) → reach (on_turn (mover i) (other c)) (other c) (line i) ≤ reach (on_turn first (other c)) (other c) start
      reach_limited zero = rw played.begins (omega arith)
      reach_limited (suc i) = omega (arith, reach_limited i, (step i).1)
