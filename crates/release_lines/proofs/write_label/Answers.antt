use Rattle.codec.specs.Codec.{le_bytes}
use borrow.Author.Rules.{rules}
use Rattle.release_lines.proofs.write_label.Goals as goal

pub returns : goal.returns
unfolding le_bytes
returns c = search rules
