-- An input sets one bit, an output two.
use borrow.Author.Rules.{rules}
use Rattle.index.proofs.Enters.{mark_input, mark_output}
use Rattle.indexing.proofs.mark.Goals as goal

ruleset by = (mark_input, mark_output, rules)

pub returns-then-e-lt4 : goal.returns-then-e-lt4
returns-then-e-lt4 c = search by

pub returns : goal.returns
returns c = search by
