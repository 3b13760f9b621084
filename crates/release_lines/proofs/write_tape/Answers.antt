use Rattle.release_lines.specs.Tapes.{tape_line}
use Rattle.digits.proofs.Writing.{then}
use native.Mathlib.Omega.{arith}
use Rattle.release_lines.proofs.write_tape.Goals as goal

-- The six parts of the line, the last one first: four places lie between one call and the next.
pub returns : goal.returns
unfolding tape_line
returns c =
    let end = c in
    let job = end in
    let space = job in
    let frames = space in
    let blank = frames in
    let label = blank in (
      then label.write_label-a.ensures.0
          (then blank.write_byte-b.ensures.0 (then frames.write_number-c.ensures.0
          (then space.write_byte-d.ensures.0 (then job.write_some-e.ensures.0 end.write_byte.ensures.0)))),
      omega arith,
    )
