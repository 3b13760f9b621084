-- The sum is the number of the eight characters.
use native.Mathlib.Omega.{arith}
use Rattle.codec.specs.Codec.{le_at}
use Rattle.load.specs.Records.{label_for}
use Rattle.load_records.proofs.label.Goals as goal

pub returns : goal.returns
unfolding label_for le_at
returns c = omega arith
