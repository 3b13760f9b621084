use Rattle.printing.proofs.Shown.{showing}
use borrow.Author.Rules.{rules}
use Rattle.printing.proofs.items.write.Goals as goal

ruleset by = (showing, rules)

pub overflow_cast-value : goal.overflow_cast-value
overflow_cast-value c = search by

pub overflow_cast-value-in-63 : goal.overflow_cast-value-in-63
overflow_cast-value-in-63 c = search by

pub put_hex-requires : goal.put_hex-requires
put_hex-requires c = search by

pub returns-in-0-to-31 : goal.returns-in-0-to-31
returns-in-0-to-31 c = search by

pub returns-in-35 : goal.returns-in-35
returns-in-35 c = search by

pub returns-in-36 : goal.returns-in-36
returns-in-36 c = search by

pub returns-in-37 : goal.returns-in-37
returns-in-37 c = search by

pub returns-in-63 : goal.returns-in-63
returns-in-63 c = search by

pub returns-in-64 : goal.returns-in-64
returns-in-64 c = search by

pub returns-in_default : goal.returns-in_default
returns-in_default c = search by
