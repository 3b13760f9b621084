-- Each return is one way through the tests of `has_room`.
use borrow.Author.Tests.{le-ltb, lt-ltb}
use Rattle.journal.specs.Journal.{has_room}
use Rattle.journal.proofs.has_room.Goals as goal

pub returns-then-booked-lt-CAPACITY : goal.returns-then-booked-lt-CAPACITY
unfolding has_room
returns-then-booked-lt-CAPACITY c = simp (← c.whole_in.ensures, lt-ltb _ _ c.if-booked-lt-CAPACITY.true)

pub returns-else-booked-lt-CAPACITY : goal.returns-else-booked-lt-CAPACITY
unfolding has_room
returns-else-booked-lt-CAPACITY c = simp (le-ltb _ _ c.if-booked-lt-CAPACITY.false)
