-- What is seen after the visit is stored, and counted for the value.
use Rattle.ledger.specs.Decisions.{snapshotting}
use Rattle.decisions.proofs.snapshot.Goals as goal

pub returns : goal.returns
unfolding snapshotting
returns c = simp (c.count.ensures, c.seen_after-all.ensures)
