use native.Mathlib.Omega.{arith}
use Rattle.digits.proofs.Writing.{then}
use Rattle.text.specs.Text.{number_line}
use Rattle.text.proofs.listing.write_alone.Goals as goal

-- four places lie between one call and the next
pub returns : goal.returns
unfolding number_line
returns c =
    let end = c in
    (then end.write_some-end.ensures.0 end.write_byte.ensures.0, omega arith)
