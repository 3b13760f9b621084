use borrow.Author.Rules.{rules}
use Rattle.job_states.proofs.States.{states}
use Rattle.job_states.proofs.rivals_held.Goals as goal

ruleset by = (states, rules)

pub offset_bounds-ledger-v : goal.offset_bounds-ledger-v
offset_bounds-ledger-v c = search by

pub bounds-ledger-v : goal.bounds-ledger-v
bounds-ledger-v c = search by

pub has-requires : goal.has-requires
has-requires c = search by

pub rivals_of-rivals-requires : goal.rivals_of-rivals-requires
rivals_of-rivals-requires c = search by

pub common-requires : goal.common-requires
common-requires c = search by

pub returns-then-not-has : goal.returns-then-not-has
returns-then-not-has c = search by depth 8

pub empty-requires : goal.empty-requires
empty-requires c = search by

pub returns : goal.returns
returns c = search by depth 8
