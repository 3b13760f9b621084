-- The step's line, then its end.
use Rattle.digits.proofs.Writing.{then}
use native.Mathlib.Omega.{arith}
use Rattle.disassembly.proofs.put_line.Goals as goal

pub returns : goal.returns
returns c =
    let end = c in
    let step = end in
    (then step.put_step-end.ensures.0 end.put.ensures.0, omega (arith, step.put_step-end.ensures.1, end.put.ensures.1))
