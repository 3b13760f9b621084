-- The name, the version, the settings and the faulty set, one after the other.
use native.Mathlib.Omega.{arith}
use Rattle.codec.specs.Codec.{le_bytes}
use Rattle.digits.proofs.Writing.{then}
use Rattle.load.specs.Steps.{header_bytes}
use Rattle.load_steps.proofs.put_header.Goals as goal

pub returns : goal.returns
unfolding header_bytes le_bytes
returns c = (
  then c.put_bytes-magic.ensures.0 (then c.put_word-version.ensures.0 (then
      c.put_bytes-settings.ensures.0 c.put_word.ensures.0)),
  omega arith,
)
