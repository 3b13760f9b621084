use Rattle.printing.proofs.Shown.{fitting}
use borrow.Author.Rules.{rules}
use Rattle.printing.proofs.items.fits.Goals as goal

ruleset by = (fitting, rules)

pub returns-in-0-to-31 : goal.returns-in-0-to-31
returns-in-0-to-31 c = search by

pub returns-in-63 : goal.returns-in-63
returns-in-63 c = search by

pub returns-in_default : goal.returns-in_default
returns-in_default c = search by
