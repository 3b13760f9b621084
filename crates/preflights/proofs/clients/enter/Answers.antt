-- The history is remembered as its definition says.
use Rattle.preflights.proofs.clients.enter.Goals as goal

pub returns : goal.returns
returns c = simp c.remember.ensures
