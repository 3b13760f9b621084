-- A job that is signed is answered before the quota and checks 11 to 14 are looked at, as the vault's own preflight would.
use Rattle.ledger.specs.Decisions.{counted_consent}
use Rattle.vaults.specs.Vaults.{vault_preflight}
use mathlib.Core.Path.{◌∙◌, sym}
use Rattle.preflights.proofs.clients.ask.Goals as goal

pub returns-then-has : goal.returns-then-has
unfolding counted_consent vault_preflight
returns-then-has c = simp (sym c.has.ensures ∙ c.if-has.true, ← c.size.ensures) c.note.ensures

pub returns : goal.returns
unfolding counted_consent
returns c = simp (← c.within_quota-verdict.ensures, ← c.preflight.ensures) c.count.ensures
