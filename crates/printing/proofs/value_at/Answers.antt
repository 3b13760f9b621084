-- The bytes behind a place are the bytes from it on, and each digit to the base 256 has eight bits.
use mathlib.Core.Path.{◌∙◌}
use native.Mathlib.Omega.{arith}
use Rattle.printing.proofs.Shown.{behind, bytes_power}
use Rattle.printing.proofs.value_at.Goals as goal

pub returns : goal.returns
returns c =
    (c.number_at.ensures.0 ∙ behind c.args.step.now c.args.at c.args.count, omega (arith, c.number_at.ensures.1, bytes_power c.args.count c.requires.0))
