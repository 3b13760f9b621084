-- An open gate lets the request through to check 22, a shut one refuses.
use Rattle.preflights.proofs.clients.client_preflight.Goals as goal

pub consult_for-requires : goal.consult_for-requires
consult_for-requires c =
    let start = c in
    (start.requires.0.below c.in-Ok.is, start.requires.1)

pub returns-in-Ok : goal.returns-in-Ok
returns-in-Ok c = simp c.in-Ok.is c.consult_for.ensures

pub returns-in-Err : goal.returns-in-Err
returns-in-Err c = simp c.in-Err.is c.refuse.ensures
