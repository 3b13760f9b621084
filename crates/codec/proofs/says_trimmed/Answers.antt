-- The test is the definition's.
use Rattle.base.proofs.Tests.{tests}
use Rattle.codec.specs.Codec.{says_trimmed}
use Rattle.codec.proofs.says_trimmed.Goals as goal

pub returns : goal.returns
unfolding says_trimmed
returns c = search tests
