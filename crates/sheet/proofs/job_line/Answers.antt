-- A job's line is put together; where the job is booked, it is the next of the sheet.
use Rattle.sheet.proofs.Parts.{listed_here, listed_past}
use Rattle.sheet.proofs.job_line.Goals as goal

pub returns-then-job-lt128 : goal.returns-then-job-lt128
returns-then-job-lt128 c =
    let put = c in
    let test = put in
    let start = test in
    listed_here start.args.ledger start.args.job test.if-job-lt128.true start.requires put.put_job.ensures.0 put.put_job.ensures.1

pub returns-else-job-lt128 : goal.returns-else-job-lt128
returns-else-job-lt128 c = let start = c in listed_past start.args.ledger start.args.job c.if-job-lt128.false
