use borrow.Author.Rules.{rules}
use Rattle.job_states.proofs.States.{states}
use Rattle.job_states.proofs.may_preflight.Goals as goal

ruleset by = (states, rules)

pub offset_bounds-ledger-v : goal.offset_bounds-ledger-v
offset_bounds-ledger-v c = search by

pub bounds-ledger-v : goal.bounds-ledger-v
bounds-ledger-v c = search by

pub has-requires : goal.has-requires
has-requires c = search by

pub returns-then-has : goal.returns-then-has
returns-then-has c = search by depth 8

pub without-requires : goal.without-requires
without-requires c = search by

pub admission-verdict-requires : goal.admission-verdict-requires
admission-verdict-requires c = search by

pub returns : goal.returns
returns c = search by depth 8
