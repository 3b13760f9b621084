-- An open gate lets the question through, a shut one lists nothing.
use Rattle.dependencies.proofs.missing.dependencies.Goals as goal

pub require-requires : goal.require-requires
require-requires c = let p = c.requires in (p.0, p.1.below c.in-Ok.is, p.2)

pub returns-in-Ok : goal.returns-in-Ok
returns-in-Ok c = simp c.in-Ok.is c.require.ensures

pub returns-in-Err : goal.returns-in-Err
returns-in-Err c = simp c.in-Err.is c.unlist.ensures
