-- The label is two numbers of four bytes, the frames a third.
use Rattle.codec.proofs.Numbers.{le_at_halves}
use Rattle.codec.specs.Codec.{entry_at}
use Rattle.codec.proofs.entry_in.Goals as goal

pub returns : goal.returns
unfolding entry_at
returns c = simp (le_at_halves, c.four_in.ensures, c.four_in-2.ensures, c.four_in-3.ensures)
