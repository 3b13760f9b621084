-- The run's place in its buffer alone is another.
use Rattle.explaining.proofs.said_by.Goals as goal

pub returns : goal.returns
returns c = simp c.at_front-progress.ensures
