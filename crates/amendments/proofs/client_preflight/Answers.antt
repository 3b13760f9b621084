-- As for a preflight; the history that is read is the one at the place of this client and vault.
use Prim.Native.Nat.{ℕ}
use lib.ListN.{get_or}
use Rattle.ledger.proofs.Gates.{placed_few, placed_known, ways}
use Rattle.ledger.specs.Decisions.{client_preflighting}
use Rattle.ledger.specs.State.{history_at, votes_in}
use Rattle.ledger.specs.Steps.{client_preflight_decision, client_preflight_of}
use Rattle.ledger.specs.declared.Decision.{Decision}
use Rattle.quota.specs.Quota.{history_place}
use Rattle.vaults.specs.declared.Vault.{Vault}
use borrow.Author.Rules.{rules}
use mathlib.Core.List.{List}
use mathlib.Core.Path.{◌≡◌}
use Rattle.amendments.proofs.client_preflight.Goals as goal

-- the history that was read is the client's
placed-history : (state : Vault) (version : ℕ) (journal : List ℕ) (booked c : ℕ) (histories : List ℕ) (signers v k p : ℕ) (d : Decision)
    → p ≡ history_place v c → d ≡ client_preflighting state version journal booked c (get_or histories p 0) signers v k
    → d ≡ client_preflighting state version journal booked c (get_or histories (history_place v c) 0) signers v k
placed-history state version journal booked c histories signers v k p d e h = rw e at h

ruleset by = (placed-history, ways, rules)

pub returns-in-Ok : goal.returns-in-Ok
unfolding client_preflight_of client_preflight_decision votes_in history_at
returns-in-Ok c = search by depth 8

pub returns-in-Err : goal.returns-in-Err
unfolding client_preflight_of client_preflight_decision
returns-in-Err c = search by depth 8

pub bounds-ledger-v : goal.bounds-ledger-v
bounds-ledger-v c = search by

pub bounds-ledger-j : goal.bounds-ledger-j
bounds-ledger-j c = search by

pub place-place-requires : goal.place-place-requires
place-place-requires c = search by

pub enter-requires : goal.enter-requires
enter-requires c = (
  placed_few _ _ _ _ _ _ c.vault_gate-gate.ensures c.in-Ok.is,
  (placed_known _ _ _ _ _ _ c.vault_gate-gate.ensures c.in-Ok.is).inside,
  c.blank-tables.ensures,
)

pub client_preflight-decision-requires : goal.client_preflight-decision-requires
client_preflight-decision-requires c = search by

pub carry-requires : goal.carry-requires
carry-requires c = search by
