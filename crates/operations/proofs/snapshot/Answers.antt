use Rattle.ledger.proofs.Gates.{entering}
use Rattle.ledger.specs.State.{applied}
use Rattle.ledger.specs.Steps.{sane_gate, snapshot_decision, snapshot_of}
use borrow.Author.Rules.{rules}
use mathlib.Core.Path.{◌∙◌, sym}
use Rattle.operations.proofs.snapshot.Goals as goal

ruleset by = (entering, rules)

pub returns-then-is_sane : goal.returns-then-is_sane
unfolding snapshot_of snapshot_decision sane_gate
returns-then-is_sane c = simp (
  sym c.is_sane.ensures
      ∙ c.if-is_sane.true,
  ← c.snapshot.ensures,
) c.carry.ensures

pub returns : goal.returns
unfolding snapshot_of snapshot_decision sane_gate applied
returns c = simp (sym c.is_sane.ensures ∙ c.if-is_sane.false) c.turn_back.ensures

pub bounds-ledger-v : goal.bounds-ledger-v
bounds-ledger-v c = search by

pub carry-requires : goal.carry-requires
carry-requires c = search by
