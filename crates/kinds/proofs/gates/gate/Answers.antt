use Rattle.ledger.specs.Steps.{gate_of}
use mathlib.Core.Path.{◌∙◌, ap}
use Rattle.kinds.proofs.gates.gate.Goals as goal

pub returns : goal.returns
returns c = c.gate.ensures ∙ ap (gate_of _ _ _) c.is_booked-known.ensures
