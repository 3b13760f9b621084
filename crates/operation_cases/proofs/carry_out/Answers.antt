-- What is lent of the journal has as many bytes as it is to have: no more than there are.
use Rattle.std.proofs.Common.{arith}
use Rattle.std.proofs.lemmas.Grind.{common_steps}
use lib.Seq.{length-take-le}
use mathlib.Core.Path.{sym}
use Rattle.operation_cases.proofs.carry_out.Goals as goal

pub slice_bounds-step-end-in-loop-at : goal.slice_bounds-step-end-in-loop-at
slice_bounds-step-end-in-loop-at c = sym (length-take-le _ _ (grind (arith, common_steps, c.min-n.ensures)))
