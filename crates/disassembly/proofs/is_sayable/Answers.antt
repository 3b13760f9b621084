-- The header opens the file, and each step can be read.
use Rattle.disassembly.proofs.Walks.{sayings}
use borrow.Author.Rules.{rules}
use Rattle.disassembly.proofs.is_sayable.Goals as goal

ruleset by = (sayings, rules)

pub word_at-requires : goal.word_at-requires
word_at-requires c = search by

pub is_whole-requires : goal.is_whole-requires
is_whole-requires c = search by

pub returns-then-opens : goal.returns-then-opens
returns-then-opens c = search by

pub returns-else-opens : goal.returns-else-opens
returns-else-opens c = search by
