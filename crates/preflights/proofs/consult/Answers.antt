-- A job that is signed is answered before checks 11 to 14 are looked at, as the vault's own preflight would.
use Rattle.ledger.specs.Decisions.{consent, preflighting}
use Rattle.vaults.specs.Vaults.{vault_preflight}
use mathlib.Core.Path.{◌∙◌, sym}
use Rattle.preflights.proofs.consult.Goals as goal

pub returns-then-has : goal.returns-then-has
unfolding preflighting consent vault_preflight
returns-then-has c = simp (sym c.has.ensures ∙ c.if-has.true, ← c.size.ensures) c.answer.ensures

pub returns : goal.returns
unfolding preflighting
returns c = simp (← c.admission_at-verdict.ensures) c.consent.ensures
