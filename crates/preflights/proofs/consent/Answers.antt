-- The vault's answer to the verdict, decided.
use Rattle.ledger.specs.Decisions.{consent}
use Rattle.preflights.proofs.consent.Goals as goal

pub returns : goal.returns
unfolding consent
returns c = simp (← c.preflight.ensures) c.decide.ensures
