-- The row stands at the front of the buffer.
use Rattle.lines.proofs.ByRow.{by_front}
use native.Mathlib.Omega.{arith}
use Rattle.lines.proofs.raw_read.Goals as goal

pub returns : goal.returns
returns c =
    let read = c in
    let front = read in
    let put = front in
    let start = put in
    by_front start.args.at _ put.put_raw-n.ensures.0 (omega (arith, put.put_raw-n.ensures.1, start.requires.1)) front.front.ensures.0
    read.read_row.ensures
