use native.Mathlib.Omega.{arith}
use Rattle.digits.proofs.Writing.{then}
use Rattle.tape_lines.proofs.write_named.Goals as goal

-- the word, then the number
pub returns : goal.returns
returns c =
    let number = c in
    let word = number in
    (then word.put-a.ensures.0 number.write_some.ensures.0, omega (arith, word.put-a.ensures.1, number.write_some.ensures.1))
