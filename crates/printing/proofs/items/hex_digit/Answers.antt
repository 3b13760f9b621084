use Rattle.printing.proofs.Shown.{digit_high, digit_low}
use borrow.Author.Rules.{rules}
use Rattle.printing.proofs.items.hex_digit.Goals as goal

ruleset by = (digit_low, digit_high, rules)

pub returns-then-d-lt10 : goal.returns-then-d-lt10
returns-then-d-lt10 c = search by

pub returns-else-d-lt10 : goal.returns-else-d-lt10
returns-else-d-lt10 c = search by
