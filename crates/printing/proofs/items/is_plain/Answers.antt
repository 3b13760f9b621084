use Rattle.printing.proofs.Shown.{no_plain}
use borrow.Author.Rules.{rules}
use Rattle.printing.proofs.items.is_plain.Goals as goal

ruleset by = (no_plain, rules)

pub returns-else-c-lt256 : goal.returns-else-c-lt256
returns-else-c-lt256 c = search by
