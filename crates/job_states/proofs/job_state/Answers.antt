use borrow.Author.Rules.{rules}
use Rattle.job_states.proofs.States.{states}
use Rattle.job_states.proofs.job_state.Goals as goal

ruleset by = (states, rules)

pub offset_bounds-ledger-k : goal.offset_bounds-ledger-k
offset_bounds-ledger-k c = search by

pub bounds-ledger-k : goal.bounds-ledger-k
bounds-ledger-k c = search by

pub is_quorum-requires : goal.is_quorum-requires
is_quorum-requires c = search by

pub returns-then-is_quorum : goal.returns-then-is_quorum
returns-then-is_quorum c = search by depth 8

pub is_quorum-requires-2 : goal.is_quorum-requires-2
is_quorum-requires-2 c = search by

pub returns-then-is_quorum-2 : goal.returns-then-is_quorum-2
returns-then-is_quorum-2 c = search by depth 8

pub rivals_of-rivals-requires : goal.rivals_of-rivals-requires
rivals_of-rivals-requires c = search by

pub meets-requires : goal.meets-requires
meets-requires c = search by

pub returns-then-meets : goal.returns-then-meets
returns-then-meets c = search by depth 8

pub returns : goal.returns
returns c = search by depth 8
