-- An open gate lets the preflight through to the vault, a shut one refuses.
use Rattle.preflights.proofs.preflight.Goals as goal

pub consult-requires : goal.consult-requires
consult-requires c = (c.requires.0.below c.in-Ok.is, c.requires.1)

pub returns-in-Ok : goal.returns-in-Ok
returns-in-Ok c = simp c.in-Ok.is c.consult.ensures

pub returns-in-Err : goal.returns-in-Err
returns-in-Err c = simp c.in-Err.is c.refuse.ensures
