-- A record has at least 100 bytes, so they can be divided by.
use Rattle.codec.specs.Codec.{whole_in}
use Rattle.codec.proofs.whole_in.Goals as goal

pub returns : goal.returns
unfolding whole_in
returns c = rw c.record_size.ensures.0
