-- The value stands after what it means.
use Rattle.digits.proofs.Writing.{then}
use Rattle.explanations.specs.Answers.{done_text}
use native.Mathlib.Omega.{arith}
use Rattle.answers.proofs.values.put_done.Goals as goal

pub returns : goal.returns
unfolding done_text
returns c = (then c.put_meaning-end.ensures.0 c.put_figure.ensures.0, omega (arith, c.put_meaning-end.ensures.1, c.put_figure.ensures.1))
