-- Each return is one way through the two tests.
use Rattle.base.proofs.Tests.{chain}
use Rattle.ledger.specs.Steps.{whole_gate}
use borrow.Author.Rules.{rules}
use Rattle.books.proofs.whole_gate.Goals as goal

ruleset by = (chain, rules)

pub returns-then-is_whole : goal.returns-then-is_whole
unfolding whole_gate
returns-then-is_whole c = search by depth 8

pub returns-then-is_sane : goal.returns-then-is_sane
unfolding whole_gate
returns-then-is_sane c = search by depth 8

pub returns : goal.returns
unfolding whole_gate
returns c = search by depth 8
