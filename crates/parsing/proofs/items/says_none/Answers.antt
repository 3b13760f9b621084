use Rattle.base.proofs.Lists.{same_is}
use Rattle.parsing.proofs.Singles.{short_none}
use Rattle.rows.specs.Items.{says_none}
use borrow.Author.Rules.{rules}
use Rattle.parsing.proofs.items.says_none.Goals as goal

ruleset by = (short_none, rules)

pub returns : goal.returns
unfolding says_none
returns c = rw (← c.four.ensures) (same_is _ _ _ c.same.ensures)

pub returns-then-text-at-lt4 : goal.returns-then-text-at-lt4
returns-then-text-at-lt4 c = search by
