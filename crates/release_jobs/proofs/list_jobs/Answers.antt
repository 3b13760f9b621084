-- The jobs before k are listed; there is room, since each takes four lines at most.
use mathlib.Core.Path.{◌≡◌}
use native.Mathlib.Omega.{arith}
use borrow.Author.Rules.{rules}
use Rattle.journal.specs.Journal.{job_at}
use Rattle.ledger.specs.State.{version_of}
use Rattle.release_jobs.proofs.Jobs.{jobs_first, jobs_on, jobs_room}
use Rattle.release_jobs.proofs.list_jobs.Goals as goal

ruleset by = (jobs_first, rules)

pub list_job-cursor-requires : goal.list_job-cursor-requires
list_job-cursor-requires c =
    let l = c.loop-k in
    let a = c.args in
    let next = c.loop-k-test.true in
    let i = l.invariant.1.1 in
    let room = jobs_room a.ledger (job_at (version_of a.ledger) a.journal.now a.ledger.booked) l.k l.invariant.1.0 in (
      omega (arith, i.1.0),
      record { inside = i.1.1.0; below = next },
      omega (arith, room.1, i.1.0),
      omega (arith, room.0, i.0, i.1.0, i.1.1.1),
    )

pub loop-k-preserved : goal.loop-k-preserved
loop-k-preserved c =
    let l = c.loop-k in
    let a = c.args in
    let listed = c.list_job-cursor.ensures in
    let all = jobs_on a.ledger (job_at (version_of a.ledger) a.journal.now a.ledger.booked) l.k l.invariant.1.0 listed in
    (search rules, (all, (search rules, l.invariant.1.1.1)))

pub returns : goal.returns
returns c =
    let l = c.loop-k in
    let all : l.k ≡ c.args.ledger.booked = omega (arith, l.invariant.0, c.loop-k-test.false) in
    let a = c.args in
    let i = l.invariant.1.1 in
    let room = jobs_room a.ledger (job_at (version_of a.ledger) a.journal.now a.ledger.booked) l.k l.invariant.1.0 in
    (rw all at l.invariant.1.0, omega (arith, room.0, i.1.0), omega (arith, room.1, i.1.0))

pub loop-k-init : goal.loop-k-init
loop-k-init c = search by
