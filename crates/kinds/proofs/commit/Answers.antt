use Rattle.kinds.proofs.Arms.{arms}
use borrow.Author.Rules.{rules}
use Rattle.kinds.proofs.commit.Goals as goal

ruleset by = (arms, rules)

pub overflow_cast-job : goal.overflow_cast-job
overflow_cast-job c = search by

pub gate-requires : goal.gate-requires
gate-requires c = search by

pub overflow_add-step : goal.overflow_add-step
overflow_add-step c = search by

pub word_at-requires : goal.word_at-requires
word_at-requires c = search by

pub commit-requires : goal.commit-requires
commit-requires c = search by

pub returns : goal.returns
returns c = search by
