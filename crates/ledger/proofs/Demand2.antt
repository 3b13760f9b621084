-- Demand 2, put together along a list of steps: the invariant of demand 3 holds wherever it has led, and so does that a vault has acknowledged what it holds.
use mathlib.Core.Bool.{Bool, false, true}
use mathlib.Core.Path.{◌≡◌, refl, sym}
use Rattle.ledger.proofs.Demand3.{along, first}
use Rattle.ledger.proofs.Invariant.{Inv}
use Rattle.ledger.proofs.Leaves.{leaves}
use Rattle.ledger.proofs.Obeys.{obeys}
use Rattle.ledger.proofs.OnlyThen.{Acknowledges, acknowledges_along, only_then}
use Rattle.ledger.proofs.Views.{held_at, voted_at}
use Rattle.ledger.specs.Demand2.{Demand2, Rules}
use Rattle.ledger.specs.Register.{Register, new_register}
use Rattle.ledger.specs.Worlds.{World, start}

both_ways : (a b : Bool) → (a ≡ true → b ≡ true) → (b ≡ true → a ≡ true) → a ≡ b
both_ways true b f g = sym (f refl)
both_ways false true f g = g refl
both_ways false false f g = refl

pub rules : {w : World} {r : Register} → Inv w r → Acknowledges w → Rules w
unfolding held_at voted_at
rules i a = record {
  when = obeys i;
  leaves = leaves i a;
  only_then = λ e v k c. only_then i v k c e;
  acknowledged = λ v k c. both_ways _ _ (i.safe.honest v k c) (a v k);
}

pub demand2 : Demand2
demand2 n b faulty version lawful es =
    let i = first n b faulty version lawful in
    rules (along es (start n b faulty version) (new_register version) i)
    (acknowledges_along es (start n b faulty version) (new_register version) i (λ v k t. absurd (i.held_taken v k t)))
