use Rattle.text.proofs.Writing.{figures}
use native.Mathlib.Omega.{arith}
use Rattle.text.proofs.write_figures.Goals as goal

-- The six parts of the line, the last one first: four places lie between one call and the next.
pub returns : goal.returns
returns c =
    let end = c in
    let value = end in
    let space = value in
    let number = space in
    let blank = number in
    let step = blank in (
      figures _ _ _ step.write_many-a.ensures.0 blank.write_byte-b.ensures.0 number.write_some-c.ensures.0 space.write_byte-d.ensures.0
          value.write_number-e.ensures.0 end.write_byte.ensures.0,
      omega arith,
    )
