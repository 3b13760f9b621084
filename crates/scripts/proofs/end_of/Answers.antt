-- By the reason that the number was read with, or not.
use borrow.Author.Tests.{eq-eqb, ne_eqb}
use Rattle.scripts.proofs.end_of.Goals as goal

pub returns-then-cut-eq0 : goal.returns-then-cut-eq0
returns-then-cut-eq0 c = simp (eq-eqb _ 0 c.if-cut-eq0.true)

pub returns : goal.returns
returns c = simp (ne_eqb _ 0 c.if-cut-eq0.false)
