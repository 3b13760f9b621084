use Rattle.std.proofs.Common.{arith}
use Rattle.std.proofs.lemmas.Grind.{common_steps}
use Rattle.rows.specs.Items.{between, is_plain}
use Rattle.parsing.proofs.items.is_plain.Goals as goal

pub returns-then-is_ascii_uppercase : goal.returns-then-is_ascii_uppercase
unfolding is_plain between
returns-then-is_ascii_uppercase c = grind (arith, common_steps)

pub returns-else-is_ascii_uppercase : goal.returns-else-is_ascii_uppercase
unfolding is_plain between
returns-else-is_ascii_uppercase c = grind (arith, common_steps)
