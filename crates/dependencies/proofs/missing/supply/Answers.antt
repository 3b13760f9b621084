-- The missing jobs join the held ones, and checks 11 to 14 are asked with both.
use Rattle.ledger.specs.Decisions.{admission_at, receiving_all, supplying}
use Rattle.dependencies.proofs.missing.supply.Goals as goal

pub returns : goal.returns
unfolding supplying admission_at receiving_all
returns c =
    let u = c in
    simp (← u.missing-jobs.ensures, ← u.union-held.ensures, ← c.without-others.ensures, ← c.admission-admission.ensures)
    c.if_admitted.ensures
