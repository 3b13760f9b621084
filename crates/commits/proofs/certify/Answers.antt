-- By the certificate's verdict.
use Rattle.ledger.specs.Decisions.{committing}
use Rattle.commits.proofs.certify.Goals as goal

pub returns-in-Ok : goal.returns-in-Ok
unfolding committing
returns-in-Ok c = simp (← c.certificate-verdict.ensures, c.in-Ok.is) c.receive.ensures

pub returns-in-Err : goal.returns-in-Err
unfolding committing
returns-in-Err c = simp (← c.certificate-verdict.ensures, c.in-Err.is) c.refuse.ensures
