-- By the verdict of checks 11 to 14.
use Rattle.dependencies.proofs.missing.if_admitted.Goals as goal

pub returns-in-Ok : goal.returns-in-Ok
returns-in-Ok c = simp c.in-Ok.is c.list.ensures

pub returns-in-Err : goal.returns-in-Err
returns-in-Err c = simp c.in-Err.is c.unlist.ensures
