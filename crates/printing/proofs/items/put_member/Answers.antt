use Rattle.printing.proofs.Shown.{lists}
use borrow.Author.Rules.{rules}
use Rattle.printing.proofs.items.put_member.Goals as goal

ruleset by = (lists, rules)

pub returns-then-first : goal.returns-then-first
returns-then-first c = search by

pub returns : goal.returns
returns c = search by
