use Rattle.kinds.proofs.Arms.{arms}
use borrow.Author.Rules.{rules}
use Rattle.kinds.proofs.show.Goals as goal

ruleset by = (arms, rules)

pub overflow_cast-job : goal.overflow_cast-job
overflow_cast-job c = search by

pub booked_or-requires : goal.booked_or-requires
booked_or-requires c = search by

pub show-requires : goal.show-requires
show-requires c = search by

pub returns : goal.returns
returns c = search by
