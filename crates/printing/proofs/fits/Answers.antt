-- Each turn looks at an item.
use Rattle.printing.proofs.Written.{fitted}
use borrow.Author.Rules.{rules}
use Rattle.printing.proofs.fits.Goals as goal

ruleset by = (fitted, rules)

pub loop-c-preserved : goal.loop-c-preserved
loop-c-preserved c = search by

pub returns-then-not-fits : goal.returns-then-not-fits
returns-then-not-fits c = search by

pub returns : goal.returns
returns c = search by
