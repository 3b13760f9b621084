-- Each return is one way through the test of `record_size`.
use mathlib.Core.Path.{◌∙◌, sym}
use native.Mathlib.Omega.{arith}
use Rattle.codec.specs.Codec.{record_size}
use Rattle.codec.proofs.record_size.Goals as goal

pub returns-then-says_trimmed : goal.returns-then-says_trimmed
unfolding record_size
returns-then-says_trimmed c = (simp (sym c.says_trimmed.ensures ∙ c.if-says_trimmed.true), (omega arith, omega arith))

pub returns-else-says_trimmed : goal.returns-else-says_trimmed
unfolding record_size
returns-else-says_trimmed c = (simp (sym c.says_trimmed.ensures ∙ c.if-says_trimmed.false), (omega arith, omega arith))
