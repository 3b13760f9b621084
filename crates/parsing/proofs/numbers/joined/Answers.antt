use Rattle.sets.proofs.Bits.{member_beyond}
use mathlib.Core.Path.{sym}
use Rattle.parsing.proofs.numbers.joined.Goals as goal

pub returns : goal.returns
returns c = sym (member_beyond 16 _ _ c.if-n-lt16.false)
