use Rattle.std.proofs.Common.{rules}
use Rattle.rows.specs.Items.{between}
use Rattle.parsing.proofs.numbers.is_digit.Goals as goal

pub returns : goal.returns
unfolding between
returns c = search rules
