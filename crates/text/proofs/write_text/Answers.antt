use Rattle.digits.proofs.Writing.{then}
use native.Mathlib.Omega.{arith}
use Rattle.text.proofs.write_text.Goals as goal

pub returns : goal.returns
returns c =
    let end = c in
    (then end.write_line-end.ensures.0 end.write_list.ensures.0, omega arith)
