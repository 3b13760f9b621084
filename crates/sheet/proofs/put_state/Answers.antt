-- The job's row stands at the front of the buffer, and is filled in.
use Rattle.sheet.proofs.Parts.{job_few, row_is}
use Rattle.answers.proofs.Parts.{row_made}
use native.Mathlib.Omega.{arith}
use borrow.Author.Rules.{rules}
use Rattle.sheet.proofs.put_state.Goals as goal

pub write_row-requires : goal.write_row-requires
write_row-requires c =
    let front = c in
    let row = front in
    let e = row_made (search rules) row.put_job_row-n.ensures.1 row.put_job_row-n.ensures.0 front.front.ensures.0 in (
      omega (arith, front.front.ensures.1, row.put_job_row-n.ensures.1),
      omega (arith, job_few _ _ e, row.requires),
    )

pub returns : goal.returns
returns c =
    let write = c in
    let front = write in
    let row = front in
    let e = row_made (search rules) row.put_job_row-n.ensures.1 row.put_job_row-n.ensures.0 front.front.ensures.0 in (
      row_is _ e write.write_row.ensures.0,
      omega (arith, job_few _ _ e, write.write_row.ensures.1),
    )
