-- A set of sixteen vaults has no more members.
use lib.Count.{ones-le}
use native.Mathlib.Omega.{arith}
use Rattle.sheet.proofs.size.Goals as goal

pub overflow_cast-result : goal.overflow_cast-result
overflow_cast-result c = omega (arith, c.size.ensures, ones-le 16 c.args.set (omega (arith, c.ranges.set)))
