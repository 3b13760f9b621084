-- By the verdict of checks 4, 19 and 20.
use Rattle.ledger.specs.Decisions.{releasing}
use Rattle.supersession.proofs.give_up.Goals as goal

pub returns-in-Ok : goal.returns-in-Ok
unfolding releasing
returns-in-Ok c =
    let told = c in
    simp (← told.supersession-verdict.ensures, told.in-Ok.is, c.release.ensures, c.size.ensures)

pub returns-in-Err : goal.returns-in-Err
unfolding releasing
returns-in-Err c = simp (← c.supersession-verdict.ensures, c.in-Err.is) c.refuse.ensures
