use Rattle.std.proofs.Common.{rules}
use Rattle.words.specs.Rows.{part}
use Rattle.words.proofs.part.Goals as goal

pub returns : goal.returns
unfolding part
returns c = search rules
