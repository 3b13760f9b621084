-- At or above 16 every 16-bit set is below the power of 2; the rest the check finds by itself.
use mathlib.Core.Path.{sym, ◌∙◌}
use Prim.Native.Nat.{◌^◌}
use native.Mathlib.Omega.{arith}
use lib.Pow.{pow_mono}
use borrow.Author.Tests.{le-leb, lt-ltb}
use Rattle.sets.proofs.vaults.within.Goals as goal

pub returns-then-n-ge16 : goal.returns-then-n-ge16
returns-then-n-ge16 c = le-leb _ _ c.if-n-ge16.true ∙ sym (lt-ltb c.args.set (2 ^ c.args.n) (omega (arith, pow_mono c.if-n-ge16.true)))
