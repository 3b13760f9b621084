use Rattle.vaults.specs.Vaults.{vault_preflight}
use mathlib.Core.Path.{◌∙◌, sym}
use Rattle.vaults.proofs.Vault.preflight.Goals as goal

pub returns-then-has : goal.returns-then-has
unfolding vault_preflight
returns-then-has c = simp (sym c.has.ensures ∙ c.if-has.true)

pub returns-in-Ok : goal.returns-in-Ok
unfolding vault_preflight
returns-in-Ok c =
    simp (sym c.has.ensures ∙ c.if-has.false, c.in-Ok.is, c.sign.ensures)

pub returns-in-Err : goal.returns-in-Err
unfolding vault_preflight
returns-in-Err c = simp (sym c.has.ensures ∙ c.if-has.false, c.in-Err.is)
