-- When what goes in can be what comes out, as a test and as a claim; and what the loop that tightens keeps.
use mathlib.Core.Bool.{Bool, cond, false, true, true≢false}
use mathlib.Core.List.{List}
use mathlib.Core.Path.{◌∙◌, ◌≡◌, ap₂, refl, sym}
use Prim.Native.Nat.{◌-◌, ◌≤◌, ℕ}
use lib.ListN.{length}
use lib.Seq.{sets}
use borrow.Author.Tests.{eq-eqb}
use Rattle.base.proofs.Reflect.{reflect_and, reflect_as, reflect_le}
use Rattle.base.specs.Reflect.{Reflects}
use Rattle.outcome.specs.declared.Refusal.{Refusal}
use Rattle.outcome.specs.declared.Refusal.TheVariants.{NoneBalances}
use Rattle.outcome.specs.Figures.{Verdict}
use Rattle.std.specs.Prelude.{Ok, Err}
use Rattle.ranges.specs.Ranges.{list_from}
use Rattle.ranges.specs.Spans.{Meeting}
use Rattle.ranges.specs.Form.{form_of}
use Rattle.ranges.specs.Tighten.{balance_of, can_balance, checks_of, first_failing, inflow, meets, order_of, outflow, tightest_at}
use Rattle.ranges.specs.declared.Estimate.{Estimate}
use Rattle.ranges.specs.declared.Range.{Range}
use Rattle.ranges.specs.declared.Span.{Span}

-- some sum is within both spans
pub record Meet (a b : Span) : Type 0 where
  pub there : a.least ≤ b.most
  pub back : b.least ≤ a.most

pub turned : {a b : Span} → Meet a b → Meet b a
turned m = record { there = m.back; back = m.there }

pub reflect_meets : (a b : Span) → Reflects (meets a b) (Meet a b)
unfolding meets
reflect_meets a b =
    reflect_as (reflect_and (reflect_le a.least b.most) (reflect_le b.least a.most))
    (λ h. record { there = h.0; back = h.1 })
    (λ h. (h.there, h.back))

pub migration_meets : (e : Estimate) → e.kind ≡ 1 → can_balance e ≡ meets (inflow e) (outflow e)
unfolding can_balance
migration_meets e k = simp (eq-eqb e.kind 1 k)

-- ---- checks that pass
fail_pass : (r : Refusal) → Err r ≡ Ok (tt {0}) → ⊥
fail_pass r e = let z : true ≡ false = cc in true≢false z

both_pass : (v w : Verdict) → first_failing v w ≡ Ok (tt {0}) → (v ≡ Ok (tt {0})) × (w ≡ Ok (tt {0}))
both_pass (Ok _) w e = (refl, e)
both_pass (Err r) w e = absurd (fail_pass r e)

balance_pass : (b : Bool) (r : Refusal) → cond b (Ok (tt {0})) (Err r) ≡ Ok (tt {0}) → b ≡ true
balance_pass true r e = refl
balance_pass false r e = absurd (fail_pass r e)

-- 25 has passed where all have
pub checks_balance : (e : Estimate) (v : Verdict) → v ≡ checks_of e → v ≡ Ok (tt {0}) → can_balance e ≡ true
unfolding checks_of balance_of
checks_balance e v p q =
    balance_pass (can_balance e) NoneBalances (both_pass (order_of e) (balance_of e) (both_pass (form_of e) _ (sym p ∙ q)).1).1

-- ---- the spans that the code found
abbrev Small : Span → Type 0
Small a = (a.least ≤ 21474836475) × (a.most ≤ 21474836475)

pub meeting : (e : Estimate) (a b : Span) → a ≡ inflow e → b ≡ outflow e → e.kind ≡ 1 → can_balance e ≡ true → Small a → Small b
    → Meeting a b × Meeting b a
meeting e a b p q k t small_a small_b =
    let m = (reflect_meets a b).sound (ap₂ meets p q ∙ sym (migration_meets e k) ∙ t) in (
      record { there = m.there; back = m.back; small = small_b.0; limited = small_b.1 },
      record { there = m.back; back = m.there; small = small_a.0; limited = small_a.1 },
    )

-- the entries before i have their tightest ranges, and with those that remain they are the whole list
pub record Narrowing (e : Estimate) (inward outward : Span) (ranges : List Range) (i : ℕ) : Type 0 where
  pub entry : i ≤ 8
  pub eight : length ranges ≡ 8
  pub migration : e.kind ≡ 1
  pub in_is : inward ≡ inflow e
  pub out_is : outward ≡ outflow e
  pub meet : Meeting inward outward × Meeting outward inward
  pub rest : sets ranges i (list_from (tightest_at e) i (8 - i)) ≡ list_from (tightest_at e) 0 8
