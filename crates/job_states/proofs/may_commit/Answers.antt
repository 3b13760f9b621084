-- A job that is not held there is committed where enough vaults signed it.
use Rattle.job_states.proofs.States.{commit_by_lem}
use Rattle.job_states.proofs.may_commit.Goals as goal

pub returns-then-not-has : goal.returns-then-not-has
returns-then-not-has c = commit_by_lem _ _ _ _ _ c.has.ensures c.if-not-has.true _ c.is_quorum.ensures
