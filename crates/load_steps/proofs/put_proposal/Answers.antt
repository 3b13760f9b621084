-- The kind, then the record.
use native.Mathlib.Omega.{arith}
use Rattle.digits.proofs.Writing.{then}
use Rattle.load_steps.proofs.put_proposal.Goals as goal

pub returns : goal.returns
returns c = (then c.put_bytes-next.ensures.0 c.put_record.ensures.0, omega arith)
