-- The line's parts, the last one first.
use Rattle.sheet.proofs.Parts.{job_put}
use native.Mathlib.Omega.{arith}
use Rattle.sheet.proofs.put_job.Goals as goal

pub returns : goal.returns
returns c =
    let last = c in
    let names = last in
    let head = names in
    let waiting = head in
    let acknowledged = waiting in
    let signed = acknowledged in
    let state = signed in (
      job_put _ _ _ _ _ _ _ state.state_of-state.ensures signed.size-signed.ensures acknowledged.size-acknowledged.ensures waiting.to_sign-waiting.ensures
          head.put_state-a.ensures.0 names.put_names-b.ensures.0 last.put.ensures.0,
      omega (arith, last.put.ensures.1, names.put_names-b.ensures.1, head.put_state-a.ensures.1),
    )
