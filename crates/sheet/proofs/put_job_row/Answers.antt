-- The row's three parts.
use Rattle.sheet.proofs.Parts.{job_row_lem}
use native.Mathlib.Omega.{arith}
use Rattle.sheet.proofs.put_job_row.Goals as goal

pub returns : goal.returns
returns c =
    let last = c in
    let state = last in
    let first = state in (
      job_row_lem _ first.put-a.ensures.0 state.put_status-b.ensures.0 last.put.ensures.0,
      omega (arith, last.put.ensures.1, state.put_status-b.ensures.1, first.put-a.ensures.1),
    )
