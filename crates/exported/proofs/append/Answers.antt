-- The piece is written where the text fits, else only counted.
use Rattle.exported.proofs.Counting.{counted_here, written_here}
use borrow.Author.Rules.{rules}
use Rattle.exported.proofs.append.Goals as goal

ruleset by = (counted_here, written_here, rules)

pub put-requires : goal.put-requires
put-requires c = let test = c in test.requires.0.room test.if-fits.true

pub returns-then-fits : goal.returns-then-fits
returns-then-fits c = search by

pub returns : goal.returns
returns c = search by
