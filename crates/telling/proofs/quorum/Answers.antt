-- No more than the vaults, which are a byte.
use Rattle.telling.proofs.Parts.{quorum_few}
use native.Mathlib.Omega.{arith}
use Rattle.telling.proofs.quorum.Goals as goal

pub overflow_cast-result : goal.overflow_cast-result
overflow_cast-result c = omega (arith, quorum_few c.args.settings _ c.threshold.ensures)
