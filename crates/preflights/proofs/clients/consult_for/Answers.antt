-- By whether there is such a client.
use Rattle.ledger.specs.Decisions.{client_preflighting}
use mathlib.Core.Path.{◌∙◌, sym}
use Rattle.preflights.proofs.clients.consult_for.Goals as goal

pub returns-then-is_client : goal.returns-then-is_client
unfolding client_preflighting
returns-then-is_client c = simp (sym c.is_client.ensures ∙ c.if-is_client.true) c.ask.ensures

pub returns : goal.returns
unfolding client_preflighting
returns c = simp (sym c.is_client.ensures ∙ c.if-is_client.false) c.refuse.ensures
