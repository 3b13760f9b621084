-- An open gate lets the vote through, which joins its column; a shut one refuses.
use Rattle.decisions.proofs.cast.Goals as goal

pub returns-in-Ok : goal.returns-in-Ok
returns-in-Ok c = simp (c.in-Ok.is, ← c.of.ensures) c.vote.ensures

pub returns-in-Err : goal.returns-in-Err
returns-in-Err c = simp c.in-Err.is c.refuse.ensures
