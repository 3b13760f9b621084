-- The job itself is left out of the jobs that the vault signed.
use Rattle.ledger.specs.Decisions.{admission_at}
use Rattle.preflights.proofs.admission_at.Goals as goal

pub returns : goal.returns
unfolding admission_at
returns c = simp (← c.without-others.ensures) c.admission.ensures
