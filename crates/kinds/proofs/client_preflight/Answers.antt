use Rattle.kinds.proofs.Arms.{arms}
use borrow.Author.Rules.{rules}
use Rattle.kinds.proofs.client_preflight.Goals as goal

ruleset by = (arms, rules)

pub overflow_cast-job : goal.overflow_cast-job
overflow_cast-job c = search by

pub gate-requires : goal.gate-requires
gate-requires c = search by

pub overflow_add-step : goal.overflow_add-step
overflow_add-step c = search by

pub byte_at-requires : goal.byte_at-requires
byte_at-requires c = search by

pub client_preflight-requires : goal.client_preflight-requires
client_preflight-requires c = search by

pub returns : goal.returns
returns c = search by
