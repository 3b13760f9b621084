use Rattle.base.proofs.Tests.{chain}
use Rattle.kinds.specs.Decided.{booked_or}
use Rattle.kinds.proofs.gates.booked_or.Goals as goal

pub returns-then-is_booked : goal.returns-then-is_booked
unfolding booked_or
returns-then-is_booked c = search chain

pub returns : goal.returns
unfolding booked_or
returns c = search chain
