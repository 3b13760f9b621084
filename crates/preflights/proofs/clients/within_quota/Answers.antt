-- By whether the quota is spent.
use Rattle.ledger.specs.Decisions.{within_quota}
use mathlib.Core.Path.{◌∙◌, sym}
use Rattle.preflights.proofs.clients.within_quota.Goals as goal

pub returns-then-is_spent : goal.returns-then-is_spent
unfolding within_quota
returns-then-is_spent c = simp (sym c.is_spent.ensures ∙ c.if-is_spent.true)

pub returns : goal.returns
unfolding within_quota
returns c = simp (sym c.is_spent.ensures ∙ c.if-is_spent.false) c.admission_at.ensures
