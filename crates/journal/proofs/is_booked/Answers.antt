-- Each return is one way through the tests of `is_booked`.
use Rattle.base.proofs.Tests.{chain}
use Rattle.journal.specs.Journal.{is_booked}
use Rattle.journal.proofs.is_booked.Goals as goal

pub returns-then-is_whole : goal.returns-then-is_whole
unfolding is_booked
returns-then-is_whole c = search chain depth 8

pub returns-else-is_whole : goal.returns-else-is_whole
unfolding is_booked
returns-else-is_whole c = search chain depth 8
