-- The two ways through the test.
use borrow.Author.Tests.{eq-eqb, ne_eqb}
use Rattle.index.proofs.seeking.label_number.Goals as goal

pub returns-then-seen-eq0 : goal.returns-then-seen-eq0
returns-then-seen-eq0 c = simp (eq-eqb _ _ c.if-seen-eq0.true)

pub returns : goal.returns
returns c = simp (ne_eqb _ _ c.if-seen-eq0.false) c.number.ensures.0
