-- The request is entered as one that brought nothing new.
use Rattle.preflights.proofs.clients.note.Goals as goal

pub returns : goal.returns
returns c = simp c.enter.ensures
