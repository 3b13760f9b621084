-- Each arm writes the bytes of its case.
use native.Mathlib.Omega.{arith}
use Rattle.load.proofs.Writes.{arm}
use Rattle.load_steps.proofs.put.Goals as goal

pub returns-in-Propose : goal.returns-in-Propose
returns-in-Propose c = let d = c in let e = d in
    (arm _ e.args.step _ e.in-Propose.is d.put_proposal.ensures.0, omega arith)

pub returns-in-Preflight : goal.returns-in-Preflight
returns-in-Preflight c = let d = c in let e = d in
    (arm _ e.args.step _ e.in-Preflight.is d.put_bytes.ensures.0, omega arith)

pub returns-in-Commit : goal.returns-in-Commit
returns-in-Commit c = let d = c in let e = d in
    (arm _ e.args.step _ e.in-Commit.is d.put_commit.ensures.0, omega arith)

pub returns-in-FaultySign : goal.returns-in-FaultySign
returns-in-FaultySign c = let d = c in let e = d in
    (arm _ e.args.step _ e.in-FaultySign.is d.put_bytes-in-FaultySign.ensures.0, omega arith)

pub returns-in-FaultyAcknowledge : goal.returns-in-FaultyAcknowledge
returns-in-FaultyAcknowledge c = let d = c in let e = d in
    (arm _ e.args.step _ e.in-FaultyAcknowledge.is d.put_bytes-in-FaultyAcknowledge.ensures.0, omega arith)

pub returns-in-Show : goal.returns-in-Show
returns-in-Show c = let d = c in let e = d in
    (arm _ e.args.step _ e.in-Show.is d.put_bytes-in-Show.ensures.0, omega arith)

pub returns-in-Draw : goal.returns-in-Draw
returns-in-Draw c = let d = c in let e = d in
    (arm _ e.args.step _ e.in-Draw.is d.put_bytes-in-Draw.ensures.0, omega arith)

pub returns-in-Generations : goal.returns-in-Generations
returns-in-Generations c = let d = c in let e = d in
    (arm _ e.args.step _ e.in-Generations.is d.put_bytes-in-Generations.ensures.0, omega arith)
