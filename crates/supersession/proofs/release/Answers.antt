-- An open gate lets the release through to the checks, a shut one refuses.
use Rattle.supersession.proofs.release.Goals as goal

pub give_up-requires : goal.give_up-requires
give_up-requires c = let p = c.requires in (p.0.below c.in-Ok.is, p.1)

pub returns-in-Ok : goal.returns-in-Ok
returns-in-Ok c = simp c.in-Ok.is c.give_up.ensures

pub returns-in-Err : goal.returns-in-Err
returns-in-Err c = simp c.in-Err.is c.refuse.ensures
