-- The code's test is the definition.
use borrow.Author.Rules.{rules}
use Rattle.sets.specs.Bits.{subset_of}
use Rattle.sets.proofs.vaults.subset.Goals as goal

pub returns : goal.returns
unfolding subset_of
returns c = search rules
