-- Where the order is full nothing is entered, whether the job is there or not; so the order is looked through only where its count is within it.
use mathlib.Core.Bool.{Bool, cond}
use mathlib.Core.Logic.{inr}
use mathlib.Core.Path.{◌∙◌, ◌≡◌, ap, sym}
use Prim.Native.Nat.{◌≤◌, ℕ}
use lib.Dec.{leb}
use borrow.Author.Tests.{le-leb, lt-leb}
use Rattle.base.proofs.Reflect.{or_intro}
use Rattle.journal.specs.Journal.{capacity}
use Rattle.ledger.specs.State.{arriving, enqueued, has_arrived}
use Rattle.ledger.specs.declared.Ledger.{Ledger}
use Rattle.arrivals.proofs.arrive.Goals as goal

full : (l : Ledger) (job : ℕ) → capacity ≤ l.arrivals → l ≡ arriving l job
unfolding arriving
full l job h =
    sym (ap (λ (b : Bool). cond b l (enqueued l job))
    (or_intro (has_arrived l.order l.arrivals job) (leb capacity l.arrivals) (inr (le-leb _ _ h))))

pub returns-then-n-ge-CAPACITY : goal.returns-then-n-ge-CAPACITY
returns-then-n-ge-CAPACITY c = full _ _ c.if-n-ge-CAPACITY.true

pub returns-then-has_arrived : goal.returns-then-has_arrived
unfolding arriving enqueued
returns-then-has_arrived c = simp (sym c.has_arrived.ensures ∙ c.if-has_arrived.true)

pub returns : goal.returns
unfolding arriving enqueued
returns c = simp (sym c.has_arrived.ensures ∙ c.if-has_arrived.false, lt-leb _ _ c.if-n-ge-CAPACITY.false)
