-- An open gate answers the status, a shut one refuses.
use Rattle.decisions.proofs.show.Goals as goal

pub returns-in-Ok : goal.returns-in-Ok
returns-in-Ok c = simp (c.in-Ok.is, ← c.status.ensures) c.answer.ensures

pub returns-in-Err : goal.returns-in-Err
returns-in-Err c = simp c.in-Err.is c.refuse.ensures
