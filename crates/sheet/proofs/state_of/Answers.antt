-- Behind a gate that passes, kind 6 answers the state.
use mathlib.Core.Path.{◌∙◌, ap}
use Rattle.ledger.specs.declared.Decision.{Decision}
use Rattle.outcome.specs.Figures.{value_of}
use Rattle.sheet.proofs.state_of.Goals as goal

pub returns : goal.returns
returns c = c.value.ensures ∙ ap (λ (d : Decision). value_of d.outcome) c.show-decision.ensures
