-- Each turn puts the characters once more.
use Rattle.words.proofs.Copies.{repeats}
use borrow.Author.Rules.{rules}
use Rattle.words.proofs.put_times.Goals as goal

ruleset by = (repeats, rules)

pub loop-i-preserved : goal.loop-i-preserved
loop-i-preserved c = search by

pub returns : goal.returns
returns c = search by
