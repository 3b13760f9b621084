-- Through the open gate the journal's index and an empty memo are ready; through the shut one the answer is the gate's.
use Rattle.generations.proofs.Memos.{memo_none}
use Rattle.index.proofs.Tables.{entries_part, indexed_entered}
use Rattle.ledger.proofs.Gates.{known_arrivals, known_booked, known_few, ways}
use Rattle.ledger.specs.Steps.{generations_decision}
use borrow.Author.Rules.{rules}
use mathlib.Core.Path.{refl}
use Rattle.inquiries.proofs.generations.Goals as goal

ruleset by = (ways, rules)

pub returns-in-Ok : goal.returns-in-Ok
unfolding generations_decision
returns-in-Ok c = search by depth 8

pub returns-in-Err : goal.returns-in-Err
unfolding generations_decision
returns-in-Err c = search by depth 8

pub enter-requires : goal.enter-requires
enter-requires c = (
  known_few _ _ _ _ c.booked_gate-gate.ensures c.in-Ok.is,
  (known_booked _ _ _ _ c.booked_gate-gate.ensures c.in-Ok.is).inside,
  c.blank-tables.ensures,
)

pub generations-requires : goal.generations-requires
generations-requires c =
    let i = c.enter.ensures in (
      search by,
      record {
        few = i.few;
        inside = i.inside;
        entered = indexed_entered _ _ _ _ _ (entries_part _ _ _ _ _ _ i);
        short = known_arrivals _ _ _ _ c.booked_gate-gate.ensures c.in-Ok.is;
        placed = search (known_arrivals _ _ _ _ c.booked_gate-gate.ensures c.in-Ok.is, rules);
        size = refl;
        right = memo_none _ _ _ 128;
      },
    )
