-- It is a byte of the head.
use borrow.Author.Rules.{rules}
use Rattle.codec.specs.Codec.{job_of}
use Rattle.codec.proofs.inputs_of.Goals as goal

pub returns : goal.returns
unfolding job_of
returns c = search rules
