-- The record at the front is read as its own bytes.
use Rattle.codec.specs.Codec.{front_job}
use Rattle.records.proofs.read.Goals as goal

pub returns : goal.returns
unfolding front_job
returns c = rw (← c.front.ensures) c.said.ensures
