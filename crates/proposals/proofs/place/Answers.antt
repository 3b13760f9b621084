-- Each return is one way through the two tests, of an equal and of room.
use Rattle.base.proofs.Tests.{chain}
use Rattle.ledger.specs.Decisions.{placing}
use borrow.Author.Rules.{rules}
use Rattle.proposals.proofs.place.Goals as goal

ruleset by = (chain, rules)

pub returns-then-equal-inside : goal.returns-then-equal-inside
unfolding placing
returns-then-equal-inside c = search by depth 8

pub returns-then-room : goal.returns-then-room
unfolding placing
returns-then-room c = search by depth 8

pub returns : goal.returns
unfolding placing
returns c = search by depth 8
