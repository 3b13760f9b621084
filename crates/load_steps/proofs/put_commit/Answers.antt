-- Kind, vault and job, then the signers.
use native.Mathlib.Omega.{arith}
use Rattle.digits.proofs.Writing.{then}
use Rattle.load_steps.proofs.put_commit.Goals as goal

pub returns : goal.returns
returns c = (then c.put_bytes-next.ensures.0 c.put_word.ensures.0, omega arith)
