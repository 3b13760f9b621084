use Rattle.kinds.proofs.Arms.{arms}
use borrow.Author.Rules.{rules}
use Rattle.kinds.proofs.vote.Goals as goal

ruleset by = (arms, rules)

pub overflow_cast-job : goal.overflow_cast-job
overflow_cast-job c = search by

pub gate-requires : goal.gate-requires
gate-requires c = search by

pub cast-requires : goal.cast-requires
cast-requires c = search by

pub returns : goal.returns
returns c = search by
