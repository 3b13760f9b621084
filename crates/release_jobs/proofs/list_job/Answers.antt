-- A quorum of acknowledgements is what the definition asks, and the job that was read is the booked one.
use Rattle.release_jobs.proofs.Jobs.{job_listed, job_skipped}
use Rattle.release_jobs.proofs.list_job.Goals as goal

pub returns-then-is_quorum : goal.returns-then-is_quorum
returns-then-is_quorum c =
    job_listed c.args.settings c.args.votes c.args.journal.now _ c.args.booked c.args.k _ _ c.is_quorum.ensures c.if-is_quorum.true c.lookup.ensures
    c.read-job.ensures c.list_inputs.ensures

pub returns-else-is_quorum : goal.returns-else-is_quorum
returns-else-is_quorum c = job_skipped _ _ c.args.settings c.args.votes _ _ _ c.is_quorum.ensures c.if-is_quorum.false
