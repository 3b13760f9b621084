-- The shifted 1 is the power of 2, since the bit is below the width.
use Rattle.sets.proofs.Bits.{or_shl}
use Rattle.job_sets.proofs.words.with.Goals as goal

pub returns : goal.returns
returns c = or_shl 64 c.args.word c.args.bit c.requires
