-- The job, with the tape that was made for it.
use Rattle.load.specs.Records.{side_job}
use Rattle.load_records.proofs.side_job.Goals as goal

pub returns : goal.returns
unfolding side_job
returns c = cc
