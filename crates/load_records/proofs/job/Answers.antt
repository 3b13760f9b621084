-- Each arm is one way through the tests of `job_for`.
use Rattle.std.proofs.Common.{arith}
use Rattle.std.proofs.lemmas.Grind.{common_steps}
use Rattle.load.specs.Records.{job_for}
use Rattle.load_records.proofs.job.Goals as goal

pub returns-in-0 : goal.returns-in-0
unfolding job_for
returns-in-0 c = grind (arith, common_steps)

pub returns-in-1 : goal.returns-in-1
unfolding job_for
returns-in-1 c = grind (arith, common_steps)

pub returns-in_default : goal.returns-in_default
unfolding job_for
returns-in_default c = grind (arith, common_steps)
