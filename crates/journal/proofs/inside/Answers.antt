use Rattle.std.proofs.Common.{rules}
use Rattle.journal.specs.Journal.{inside_of}
use Rattle.journal.proofs.inside.Goals as goal

pub returns : goal.returns
unfolding inside_of
returns c = search rules
