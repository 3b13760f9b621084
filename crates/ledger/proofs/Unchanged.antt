-- "A refusal alters no set, book or order": whatever the state, the journal and the request, a step that is refused decides that nothing
-- changes, so it leaves the ledger and the journal as they were. A client's request that counts changes its history and nothing else.
use mathlib.Core.Bool.{Bool, cond, false, true, true≢false}
use mathlib.Core.List.{List}
use mathlib.Core.Path.{◌∙◌, ◌≡◌, ap, refl, sym}
use Prim.Native.Nat.{ℕ}
use lib.Count.{ones}
use lib.Dec.{ltb}
use Rattle.outcome.specs.Figures.{number_of, refusal_number, Outcome, Verdict}
use Rattle.std.specs.Prelude.{Ok, Err}
use Rattle.outcome.specs.declared.Refusal.{Refusal}
use Rattle.outcome.specs.declared.Refusal.TheVariants.{Full, NoClient, NotHeld, OverQuota}
use Rattle.checks.specs.Checks.{examined}
use Rattle.quota.specs.Quota.{is_client, is_spent}
use Rattle.job_sets.specs.Jobs.{job_has}
use Rattle.ledger.specs.Decisions.{
  ageing,
  answering,
  certificate,
  client_preflighting,
  committing,
  consent,
  consenting,
  counted_consent,
  counting,
  gated,
  history_with,
  placing,
  preflighting,
  proposal,
  receiving,
  refusing,
  releasing,
  settling,
  snapshotting,
  supersession,
  within_quota,
}
use Rattle.ledger.specs.Register.{is_done}
use Rattle.ledger.proofs.Counted.{Says, admission_says, gate_says}
use Rattle.ledger.specs.Refused.{is_counted, refused_ledger}
use Rattle.ledger.specs.State.{applied, counted, history_at, vault_at, version_of}
use Rattle.ledger.specs.Steps.{
  booked_gate,
  client_preflight_decision,
  commit_decision,
  dependencies_decision,
  equivocators_decision,
  faulty_vote_decision,
  generations_decision,
  journal_after,
  journal_with,
  preflight_decision,
  propose_decision,
  release_decision,
  sane_gate,
  show_decision,
  snapshot_decision,
  vault_gate,
}
use Rattle.vaults.specs.Vaults.{consented, vault_preflight}
use Rattle.ledger.specs.Worlds.{Request, client_preflight, commit, dependencies, equivocating, faulty_vote, generations, left_by, preflight}
use Rattle.ledger.specs.Worlds.{propose, release, show, snapshot, step_of}
use Rattle.ledger.specs.declared.Change.{Change}
use Rattle.ledger.specs.declared.Change.TheVariants.{Book, Count, Nothing}
use Rattle.vaults.specs.declared.Consent.{Consent}
use Rattle.vaults.specs.declared.Consent.TheVariants.{Already, Denied, Fresh}
use Rattle.ledger.specs.declared.Decision.{Decision}
use Rattle.ledger.specs.declared.Ledger.{Ledger}
use Rattle.vaults.specs.declared.Signing.{Signing}
use Rattle.vaults.specs.declared.Vault.{Vault}

-- a decision that changes nothing where it refuses
record Quiet (d : Decision) : Type 0 where
  refused : (why : Refusal) → d.outcome ≡ Err why → d.change ≡ Nothing

quiet : (d : Decision) → d.change ≡ Nothing → Quiet d
quiet d e = record { refused = λ why r. e }

-- what is carried out is not refused
done : (value : ℕ) (c : Change) → Quiet (record { outcome = Ok value; change = c })
done value c = record { refused = λ why r. absurd (true≢false (ap is_done r)) }

behind : (g : Verdict) (d : Decision) → Quiet d → Quiet (gated g d)
behind (Ok _) d q = q
behind (Err why) d q = quiet (refusing why) refl

either : (b : Bool) (d e : Decision) → Quiet d → Quiet e → Quiet (cond b d e)
either true d e p q = p
either false d e p q = q

placed : (equal inside booked : ℕ) (room : Bool) → Quiet (placing equal inside booked room)
unfolding placing
placed equal inside booked room =
    either (ltb equal inside) _ _ (quiet (answering equal) refl) (either room _ _ (done booked Book) (quiet (refusing Full) refl))

consents : (state : Vault) (d : Verdict) (signers v k : ℕ) → Quiet (consent state d signers v k)
unfolding consent
consents state d signers v k = let answer = vault_preflight state d k in by answer.consent answer.vault
  where
    by : (c : Consent) (next : Vault) → Quiet (consenting c next signers v)
    by Already next = quiet (answering (ones signers)) refl
    by Fresh next = done _ _
    by (Denied why) next = quiet (refusing why) refl

received : (state : Vault) (acknowledgers v k : ℕ) → Quiet (receiving state acknowledgers v k)
unfolding receiving
received state acknowledgers v k = either (job_has state.held k) _ _ (quiet (answering (ones acknowledgers)) refl) (done _ _)

aged : (b : Bool) (age : ℕ) → Quiet (ageing b age)
unfolding ageing
aged b age = either b _ _ (quiet (answering age) refl) (quiet (refusing NotHeld) refl)

-- what a client's request decides where it is refused
module _ (client history : ℕ) where
  abbrev noting : Refusal → Change
  noting why = cond (is_counted (refusal_number why)) (Count (history_with client history false)) Nothing

  record Notes (d : Decision) : Type 0 where
    refused : (why : Refusal) → d.outcome ≡ Err why → d.change ≡ noting why

  notes_done : (value : ℕ) (c : Change) → Notes (record { outcome = Ok value; change = c })
  notes_done value c = record { refused = λ why r. absurd (true≢false (ap is_done r)) }

  -- of a refusal, by whether it counts
  notes_refused : (why : Refusal) (b : Bool) → is_counted (refusal_number why) ≡ b
      → Notes (record { outcome = Err why; change = cond b (Count (history_with client history false)) Nothing })
  notes_refused why b s = record {
    refused = λ r e. ap (λ (x : Bool). cond x (Count (history_with client history false)) Nothing) (sym s ∙ ap (λ (o : Outcome). is_counted (number_of o)) e);
  }

  noted : (g : Verdict) (d : Decision) → Says is_counted false g → Notes d → Notes (gated g d)
  noted (Ok _) d s n = n
  noted (Err why) d s n = notes_refused why false s

  counts : (state : Vault) (d : Verdict) (signers v k : ℕ) → Says is_counted true d → Notes (counted_consent state d client history signers v k)
  unfolding counted_consent vault_preflight within_quota
  counts state d signers v k s = by (job_has state.signed k) (is_spent history) d s
    where
      by : (signed spent : Bool) (d : Verdict) → Says is_counted true d
          → let answer : Signing = cond signed (record { consent = Already; vault = state }) (consented (cond spent (Err OverQuota) d) state k) in
          Notes (counting answer.consent answer.vault client history signers v)
      by true spent d s = notes_done _ _
      by false true d s = notes_refused OverQuota true refl
      by false false (Ok _) s = notes_done _ _
      by false false (Err why) s = notes_refused why true s

  known : (b : Bool) (d : Decision) → Notes d → Notes (cond b d (refusing NoClient))
  known true d n = n
  known false d n = notes_refused NoClient false refl

module _ (l : Ledger) (journal : List ℕ) where
  client_notes : (v k client : ℕ) → Notes client (history_at l v client) (client_preflight_decision l journal v k client)
  unfolding client_preflight_decision client_preflighting
  client_notes v k client =
      noted client (history_at l v client) (vault_gate l journal v k false) _ (gate_says is_counted false l journal v k false refl refl refl refl)
      (known client (history_at l v client) (is_client client) _
      (counts client (history_at l v client) _ _ _ _ _ (admission_says is_counted true (vault_at l v) (version_of l) journal l.booked k refl refl refl refl)))

  -- of the other kinds
  abbrev Silent : Request → Type 0
  Silent (propose bytes) = Quiet (propose_decision l journal bytes)
  Silent (preflight v k) = Quiet (preflight_decision l journal v k)
  Silent (commit v k signers) = Quiet (commit_decision l journal v k signers)
  Silent (faulty_vote c v k) = Quiet (faulty_vote_decision l journal c v k)
  Silent (show k) = Quiet (show_decision l journal k)
  Silent (generations k) = Quiet (generations_decision l journal k)
  Silent snapshot = Quiet (snapshot_decision l)
  Silent (release v k rival) = Quiet (release_decision l journal v k rival)
  Silent (dependencies v k) = Quiet (dependencies_decision l journal v k)
  Silent equivocating = Quiet (equivocators_decision l journal)
  Silent (client_preflight v k client) = Unit {0}

  quiets : (q : Request) → Silent q
  unfolding propose_decision proposal settling preflight_decision preflighting commit_decision committing faulty_vote_decision show_decision generations_decision
      snapshot_decision snapshotting release_decision releasing dependencies_decision equivocators_decision
  quiets (propose bytes) = behind (sane_gate l) _ (behind (examined (version_of l) bytes) _ (placed _ _ _ _))
  quiets (preflight v k) = behind (vault_gate l journal v k false) _ (consents _ _ _ _ _)
  quiets (commit v k signers) = behind (vault_gate l journal v k false) _ (behind (certificate _ _ _) _ (received _ _ _ _))
  quiets (faulty_vote c v k) = behind (vault_gate l journal v k true) _ (done _ _)
  quiets (show k) = behind (booked_gate l journal k) _ (quiet (answering _) refl)
  quiets (generations k) = behind (booked_gate l journal k) _ (aged _ _)
  quiets snapshot = behind (sane_gate l) _ (done _ _)
  quiets (release v k rival) = behind (vault_gate l journal v k false) _ (behind (supersession _ _ _ _ _ _) _ (done _ _))
  quiets (dependencies v k) = quiet _ refl
  quiets (client_preflight v k client) = tt
  quiets equivocating = quiet _ refl

  -- what is left of the ledger and of the journal
  nothing_applied : (v k : ℕ) (c : Change) → c ≡ Nothing → applied l c v k ≡ l
  unfolding applied
  nothing_applied v k c e = ap (λ (x : Change). applied l x v k) e

  nothing_written : (bytes : List ℕ) (c : Change) → c ≡ Nothing → journal_with c l.booked (version_of l) journal bytes ≡ journal
  nothing_written bytes c e = ap (λ (x : Change). journal_with x l.booked (version_of l) journal bytes) e

  noting_applied : (v k client : ℕ) (b : Bool)
      → applied l (cond b (Count (history_with client (history_at l v client) false)) Nothing) v k
      ≡ cond b (counted l v (history_with client (history_at l v client) false)) l
  unfolding applied
  noting_applied v k client true = refl
  noting_applied v k client false = refl

  pub unchanged : (q : Request) (why : Refusal) → (step_of l journal q).outcome ≡ Err why
      → ((step_of l journal q).ledger ≡ refused_ledger l q why) × (left_by l journal q ≡ journal)
  unfolding journal_after
  unchanged (propose bytes) why e =
      let n = (quiets (propose bytes)).refused why e in (nothing_applied 0 0 _ n, nothing_written bytes _ n)
  unchanged (preflight v k) why e = (nothing_applied v k _ ((quiets (preflight v k)).refused why e), refl)
  unchanged (commit v k signers) why e = (nothing_applied v k _ ((quiets (commit v k signers)).refused why e), refl)
  unchanged (faulty_vote c v k) why e = (nothing_applied v k _ ((quiets (faulty_vote c v k)).refused why e), refl)
  unchanged (show k) why e = (nothing_applied 0 k _ ((quiets (show k)).refused why e), refl)
  unchanged (generations k) why e = (nothing_applied 0 k _ ((quiets (generations k)).refused why e), refl)
  unchanged snapshot why e = (nothing_applied 0 0 _ ((quiets snapshot).refused why e), refl)
  unchanged (release v k rival) why e = (nothing_applied v k _ ((quiets (release v k rival)).refused why e), refl)
  unchanged (dependencies v k) why e = (nothing_applied v k _ ((quiets (dependencies v k)).refused why e), refl)
  unchanged equivocating why e = (nothing_applied 0 0 _ ((quiets equivocating).refused why e), refl)
  unchanged (client_preflight v k client) why e =
      let n = (client_notes v k client).refused why e in
      (ap (λ (x : Change). applied l x v k) n ∙ noting_applied v k client (is_counted (refusal_number why)), refl)
