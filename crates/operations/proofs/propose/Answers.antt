use Rattle.ledger.proofs.Writes.{buildable, searchable, writes}
use Rattle.ledger.proofs.Gates.{entering, sane_booked}
use Rattle.ledger.specs.State.{applied}
use Rattle.ledger.specs.Steps.{journal_after, propose_decision, propose_of, sane_gate}
use borrow.Author.Rules.{rules}
use mathlib.Core.Path.{◌∙◌, sym}
use Rattle.operations.proofs.propose.Goals as goal

ruleset by = (entering, buildable, searchable, rules)

pub write-requires : goal.write-requires
write-requires c = writes _ _ _ _ _ c.propose-decision.ensures

pub returns-then-is_sane : goal.returns-then-is_sane
unfolding propose_of journal_after propose_decision sane_gate
returns-then-is_sane c =
    let s = sym c.is_sane.ensures
    ∙ c.if-is_sane.true in record {
      value = simp (s, ← c.propose-decision.ensures) c.carry.ensures;
      journal_after = simp (s, ← c.propose-decision.ensures) c.write.ensures;
    }

pub returns : goal.returns
unfolding propose_of journal_after propose_decision sane_gate applied
returns c =
    let s = sym c.is_sane.ensures ∙ c.if-is_sane.false in record {
      value = simp s c.turn_back.ensures;
      journal_after = simp s;
    }

pub enter-requires : goal.enter-requires
enter-requires c =
    let b = buildable _ _ _ _ (sane_booked _ _ c.is_sane.ensures c.if-is_sane.true) c.inside-inside.ensures in
    (b.0, b.1, c.blank-tables.ensures)

pub propose-decision-requires : goal.propose-decision-requires
propose-decision-requires c = search by

pub carry-requires : goal.carry-requires
carry-requires c = search by
