-- No kind but 12 reads or writes a history: what it decides is said of other parts of the ledger, and its change is another one.
use mathlib.Core.Bool.{Bool, cond, false, true, true≢false}
use mathlib.Core.List.{List}
use mathlib.Core.Path.{◌≡◌, refl}
use Prim.Native.Nat.{ℕ}
use lib.Count.{ones}
use lib.Dec.{ltb}
use Rattle.outcome.specs.Figures.{Verdict}
use Rattle.std.specs.Prelude.{Ok, Err}
use Rattle.outcome.specs.declared.Refusal.TheVariants.{Full, NotHeld}
use Rattle.checks.specs.Checks.{examined}
use Rattle.generations.specs.Generations.{age_in}
use Rattle.journal.specs.Journal.{equal_in, job_at}
use Rattle.job_sets.specs.Jobs.{job_has}
use Rattle.ledger.proofs.Views.{arrives}
use Rattle.ledger.specs.Decisions.{
  admission_at,
  ageing,
  answering,
  certificate,
  committing,
  consent,
  consenting,
  gated,
  placing,
  preflighting,
  proposal,
  receiving,
  refusing,
  releasing,
  settling,
  snapshotting,
  status_of,
  supersession,
  voting,
}
use Rattle.ledger.specs.Holders.{is_held}
use Rattle.ledger.specs.Quota.{NoQuota, is_client_preflight, with_histories}
use Rattle.ledger.specs.State.{applied, booking, is_sane, signers_of, vault_at, version_of, visited, voted, votes_at, votes_in, with_vault}
use Rattle.ledger.specs.Steps.{
  booked_gate,
  commit_decision,
  dependencies_decision,
  dependencies_of,
  equivocators_decision,
  equivocators_of,
  faulty_vote_decision,
  generations_decision,
  preflight_decision,
  propose_decision,
  release_decision,
  sane_gate,
  show_decision,
  snapshot_decision,
  vault_gate,
  whole_gate,
}
use Rattle.ledger.specs.Worlds.{
  Request,
  client_preflight,
  commit,
  decision_of,
  dependencies,
  equivocating,
  faulty_vote,
  generations,
  job_in,
  preflight,
  propose,
  release,
  show,
  snapshot,
  step_of,
  vault_in,
}
use Rattle.ledger.specs.declared.Change.{Change}
use Rattle.ledger.specs.declared.Change.TheVariants.{Book, Count, Grant, Hold, Nothing, Record, Release, See, Sign}
use Rattle.ledger.specs.declared.Decision.{Decision}
use Rattle.ledger.specs.declared.Ledger.{Ledger}
use Rattle.vaults.specs.Vaults.{holding, vault_preflight}
use Rattle.vaults.specs.declared.Column.TheVariants.{Acknowledgements}
use Rattle.vaults.specs.declared.Consent.{Consent}
use Rattle.vaults.specs.declared.Consent.TheVariants.{Already, Denied, Fresh}
use Rattle.vaults.specs.declared.Vault.{Vault}

-- a change that leaves the histories
abbrev Plain : Change → Type 0
Plain Nothing = Unit {0}
Plain Book = Unit {0}
Plain (Sign state) = Unit {0}
Plain (Hold state) = Unit {0}
Plain (Release state) = Unit {0}
Plain (Record column) = Unit {0}
Plain (See seen) = Unit {0}
Plain (Count history) = ⊥
Plain (Grant grant) = ⊥

leaves : (l : Ledger) (v k : ℕ) (c : Change) → Plain c → (applied l c v k).histories ≡ l.histories
unfolding applied booking visited voted with_vault
leaves l v k Nothing p = refl
leaves l v k Book p = refl
leaves l v k (Sign state) p = refl
leaves l v k (Hold state) p = (arrives (voted (with_vault l v state) Acknowledgements v k) k).histories
leaves l v k (Release state) p = refl
leaves l v k (Record column) p = refl
leaves l v k (See seen) p = refl
leaves l v k (Count history) p = absurd p
leaves l v k (Grant grant) p = absurd p

-- ---- what is decided
behind : (g : Verdict) (d : Decision) → Plain d.change → Plain (gated g d).change
behind (Ok _) d p = p
behind (Err why) d p = tt

either : (b : Bool) (d e : Decision) → Plain d.change → Plain e.change → Plain (cond b d e).change
either true d e p q = p
either false d e p q = q

placed : (equal inside booked : ℕ) (room : Bool) → Plain (placing equal inside booked room).change
unfolding placing
placed equal inside booked room =
    either (ltb equal inside) (answering equal) _ tt (either room (record { outcome = Ok booked; change = Book }) (refusing Full) tt tt)

consents : (c : Consent) (state : Vault) (signers v : ℕ) → Plain (consenting c state signers v).change
consents Already state signers v = tt
consents Fresh state signers v = tt
consents (Denied why) state signers v = tt

received : (state : Vault) (acknowledgers v k : ℕ) → Plain (receiving state acknowledgers v k).change
unfolding receiving
received state acknowledgers v k =
    either (job_has state.held k) (answering (ones acknowledgers)) (voting acknowledgers v (Hold (holding state k))) tt tt

aged : (b : Bool) (age : ℕ) → Plain (ageing b age).change
unfolding ageing
aged b age = either b (answering age) (refusing NotHeld) tt tt

module _ (l : Ledger) (journal : List ℕ) where
  plain : (q : Request) → is_client_preflight q ≡ false → Plain (decision_of l journal q).change
  unfolding propose_decision proposal settling preflight_decision preflighting consent commit_decision committing faulty_vote_decision
      show_decision generations_decision snapshot_decision snapshotting release_decision releasing dependencies_decision
      equivocators_decision
  plain (propose bytes) e =
      behind (sane_gate l) (proposal (version_of l) journal l.booked bytes)
      (behind (examined (version_of l) bytes) (settling (version_of l) journal l.booked bytes)
      (placed (equal_in (version_of l) journal l.booked bytes) _ _ _))
  plain (preflight v k) e =
      let answer = vault_preflight (vault_at l v) (admission_at (vault_at l v) (version_of l) journal l.booked k) k in
      behind (vault_gate l journal v k false) (preflighting (vault_at l v) (version_of l) journal l.booked (signers_of l k) v k)
      (consents answer.consent answer.vault (signers_of l k) v)
  plain (commit v k signers) e =
      behind (vault_gate l journal v k false) (committing l.settings (vault_at l v) (votes_at l k) v k signers)
      (behind (certificate l.settings (votes_at l k).signatures signers) _ (received (vault_at l v) _ v k))
  plain (faulty_vote c v k) e = behind (vault_gate l journal v k true) _ tt
  plain (show k) e = behind (booked_gate l journal k) (answering (status_of l.settings (votes_at l k))) tt
  plain (generations k) e =
      let age = age_in (job_at (version_of l) journal l.booked) l.order l.arrivals k in
      behind (booked_gate l journal k) (ageing (is_held l.settings l.vaults k) age) (aged (is_held l.settings l.vaults k) age)
  plain snapshot e = behind (sane_gate l) (snapshotting l.settings l.next l.seen (vault_at l l.next).held) tt
  plain (release v k rival) e =
      behind (vault_gate l journal v k false) (releasing (vault_at l v) (version_of l) journal l.booked (signers_of l k) k rival)
      (behind (supersession (vault_at l v) (version_of l) journal l.booked k rival) _ tt)
  plain (dependencies v k) e = tt
  plain equivocating e = tt
  plain (client_preflight v k client) e = absurd (true≢false e)

  pub same_histories : (q : Request) → is_client_preflight q ≡ false → (step_of l journal q).ledger.histories ≡ l.histories
  same_histories q e = leaves l (vault_in q) (job_in q) (decision_of l journal q).change (plain q e)

  unread : (histories : List ℕ) (q : Request) → is_client_preflight q ≡ false → decision_of (with_histories l histories) journal q ≡ decision_of l journal q
  unfolding propose_decision preflight_decision commit_decision faulty_vote_decision show_decision generations_decision snapshot_decision release_decision
      dependencies_decision dependencies_of equivocators_decision equivocators_of whole_gate sane_gate booked_gate vault_gate is_sane votes_in
  unread histories (propose bytes) e = refl
  unread histories (preflight v k) e = refl
  unread histories (commit v k signers) e = refl
  unread histories (faulty_vote c v k) e = refl
  unread histories (show k) e = refl
  unread histories (generations k) e = refl
  unread histories snapshot e = refl
  unread histories (release v k rival) e = refl
  unread histories (dependencies v k) e = refl
  unread histories equivocating e = refl
  unread histories (client_preflight v k client) e = absurd (true≢false e)

pub no_quota : NoQuota
no_quota l journal histories q e = (unread l journal histories q e, same_histories l journal q e)
