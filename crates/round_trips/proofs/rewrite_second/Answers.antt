use Rattle.std.proofs.Common.{rules}
use Rattle.codec.specs.Codec.{record_size, says_trimmed}
use Rattle.round_trips.proofs.rewrite_second.Goals as goal

pub again-requires : goal.again-requires
unfolding record_size says_trimmed
again-requires c = search rules
