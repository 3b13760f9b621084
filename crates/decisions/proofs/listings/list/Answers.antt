-- The value counts what is listed.
use Rattle.decisions.proofs.listings.list.Goals as goal

pub returns : goal.returns
returns c = simp c.count.ensures
