-- By whether the job is held already.
use Rattle.ledger.specs.Decisions.{receiving}
use mathlib.Core.Path.{◌∙◌, sym}
use Rattle.commits.proofs.receive.Goals as goal

pub returns-then-has : goal.returns-then-has
unfolding receiving
returns-then-has c = simp (sym c.has.ensures ∙ c.if-has.true, ← c.size.ensures) c.answer.ensures

pub returns : goal.returns
unfolding receiving
returns c = simp (sym c.has.ensures ∙ c.if-has.false, c.vote.ensures, c.commit.ensures)
