-- The bit of the word, by the shift that has its meaning below 64.
use Prim.Native.Nat.{◌%◌, ◌/◌}
use native.Mathlib.Omega.{arith}
use lib.ListN.{get_or}
use Rattle.sets.proofs.Bits.{or_shl}
use Rattle.index.specs.Words.{marked}
use Rattle.index.proofs.words.mark.Goals as goal

pub returns : goal.returns
unfolding marked
returns c = let a = c.args in simp (or_shl 64 (get_or a.words.now (a.b / 64) 0) (a.b % 64) (omega arith))
