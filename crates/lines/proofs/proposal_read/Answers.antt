-- The row stands at the front of the buffer.
use Rattle.lines.proofs.ByRow.{by_front, few_read, many_inputs, many_outputs}
use native.Mathlib.Omega.{arith}
use Rattle.lines.proofs.proposal_read.Goals as goal
use Rattle.lines.proofs.proposal_read.Goals.{then-s-gt4-via-else-s-gt4+then-s-gt4-2, then-s-gt4-via-then-s-gt4}

pub returns-then-s-gt4 : goal.returns-then-s-gt4
returns-then-s-gt4 c =
    elim c.then-s-gt4.branch [
      | then-s-gt4-via-then-s-gt4 w ↦ many_inputs _ _ _ _ _ c.requires.0 (omega (arith, c.requires.2)) _ _ _ w.if-s-gt4.true c.wrong.ensures
      | then-s-gt4-via-else-s-gt4+then-s-gt4-2 w ↦
          many_outputs _ _ _ _ _ c.requires.0 (omega (arith, c.requires.2)) _ _ _ w.if-s-gt4-2.true c.wrong.ensures
    ]

pub returns : goal.returns
returns c =
    few_read c.args.at _ _ _ c.if-s-gt4.false c.if-s-gt4-2.false
    (by_front c.args.at _ c.put_shaped-n.ensures.0 (omega (arith, c.put_shaped-n.ensures.1, c.requires.1)) c.front.ensures.0 c.read_row.ensures)
