-- Through the open gate the jobs are those that the rule names; through the shut one nothing is listed.
use Rattle.ledger.proofs.Gates.{placed_few, placed_known, placed_vaults, ways}
use Rattle.ledger.specs.Steps.{dependencies_of}
use Rattle.index.proofs.Tables.{entries_part}
use borrow.Author.Rules.{rules}
use Rattle.inquiries.proofs.dependencies.Goals as goal

ruleset by = (ways, rules)

pub returns-in-Ok : goal.returns-in-Ok
unfolding dependencies_of
returns-in-Ok c = search by depth 8

pub returns-in-Err : goal.returns-in-Err
unfolding dependencies_of
returns-in-Err c = search by depth 8

pub bounds-ledger-v : goal.bounds-ledger-v
bounds-ledger-v c = search by

pub dependencies-requires : goal.dependencies-requires
dependencies-requires c =
    let k = placed_known _ _ _ _ _ _ c.vault_gate-gate.ensures c.in-Ok.is in (
      placed_vaults _ _ _ _ _ _ c.vault_gate-gate.ensures c.in-Ok.is,
      record { below = λ e. k.below },
      entries_part _ _ _ _ _ _ c.enter.ensures,
    )

pub enter-requires : goal.enter-requires
enter-requires c = (
  placed_few _ _ _ _ _ _ c.vault_gate-gate.ensures c.in-Ok.is,
  (placed_known _ _ _ _ _ _ c.vault_gate-gate.ensures c.in-Ok.is).inside,
  c.blank-tables.ensures,
)
