-- Nothing is listed: the set is the empty one.
use Rattle.decisions.proofs.listings.unlist.Goals as goal

pub returns : goal.returns
returns c = simp c.empty.ensures
