-- What the comparison of two slices ensures is that its answer is `same_list`.
use Rattle.base.proofs.Lists.{same_is}
use Rattle.journal.specs.Journal.{equal_at}
use Rattle.journal.proofs.equal_at.Goals as goal

pub returns : goal.returns
unfolding equal_at
returns c = rw (← c.slot.ensures) (same_is _ _ _ c.same.ensures)
