-- The two bytes are those of the definition.
use Rattle.codec.specs.Codec.{le_bytes}
use Rattle.load_steps.proofs.put_word.Goals as goal

pub returns : goal.returns
unfolding le_bytes
returns c = c.put_bytes.ensures
