-- std's sum of four bytes is the definition's.
use Rattle.std.proofs.Common.{rules}
use Rattle.codec.proofs.Numbers.{le_at_four}
use Rattle.codec.proofs.four_in.Goals as goal

pub returns : goal.returns
returns c = simp le_at_four (search rules)
