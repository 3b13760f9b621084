-- The row's seven parts, the last one first: four places lie between one call and the next.
use Rattle.words.proofs.Copies.{shaped_put}
use native.Mathlib.Omega.{arith}
use Rattle.words.proofs.put_shaped.Goals as goal

pub returns : goal.returns
returns c =
    let trimmed = c in
    let outputs = trimmed in
    let arrow = outputs in
    let inputs = arrow in
    let second = inputs in
    let first = second in
    let row = first in (
      shaped_put _ _ _ _ _ row.put_row-a.ensures.0 first.write_byte-b.ensures.0 second.write_byte-c.ensures.0 inputs.put_half-d.ensures.0
          arrow.put_arrow-e.ensures.0 outputs.put_half-f.ensures.0 trimmed.put_trimmed.ensures.0,
      omega arith,
    )
