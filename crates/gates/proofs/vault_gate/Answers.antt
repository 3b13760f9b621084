use Rattle.ledger.specs.Steps.{vault_gate}
use mathlib.Core.Path.{◌∙◌, sym}
use Rattle.gates.proofs.vault_gate.Goals as goal

pub returns-then-is_sane : goal.returns-then-is_sane
unfolding vault_gate
returns-then-is_sane c =
    simp (sym c.is_sane.ensures ∙ c.if-is_sane.true, ← c.is_booked-booked.ensures)
    c.gate.ensures

pub returns : goal.returns
unfolding vault_gate
returns c = simp (sym c.is_sane.ensures ∙ c.if-is_sane.false)
