-- The row, then the line's end.
use Rattle.digits.proofs.Writing.{then}
use native.Mathlib.Omega.{arith}
use Rattle.answers.proofs.refuse.Goals as goal

pub returns : goal.returns
returns c =
    let end = c in
    let row = end in
    (then row.put_reason-end.ensures.0 end.put.ensures.0, omega (arith, row.put_reason-end.ensures.1, end.put.ensures.1))
