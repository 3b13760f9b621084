use borrow.Author.Rules.{rules}
use Rattle.job_states.proofs.States.{states}
use Rattle.job_states.proofs.lost_to.Goals as goal

ruleset by = (states, rules)

pub rivals_of-rivals-requires : goal.rivals_of-rivals-requires
rivals_of-rivals-requires c = search by

pub common-requires : goal.common-requires
common-requires c = search by

pub returns : goal.returns
returns c = search by depth 8
