-- Inside, `entry_in` says it; an entry cut short is two numbers, eight bytes and four.
use Rattle.codec.specs.Codec.{entry_at}
use Rattle.codec.proofs.entry_at.Goals as goal

pub returns : goal.returns
unfolding entry_at
returns c = simp (c.number_at.ensures.0, c.number_at-2.ensures.0)
