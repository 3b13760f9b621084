-- What is decided where a step is answered 0, kind by kind: one case for each way, with the value and the change. Only the checks before it are taken apart.
use mathlib.Core.Bool.{Bool, cond, false, true, true≢false}
use mathlib.Core.List.{List}
use mathlib.Core.Path.{◌≡◌, refl, sym}
use Prim.Native.Nat.{ℕ}
use lib.Count.{ones}
use Rattle.base.proofs.Reflect.{by_cases}
use Rattle.outcome.specs.Figures.{Outcome, Verdict}
use Rattle.std.specs.Prelude.{Ok, Err}
use Rattle.outcome.specs.declared.Refusal.TheVariants.{NoClient, NotHeld}
use Rattle.job_sets.specs.Jobs.{job_has}
use Rattle.journal.specs.Journal.{Booked, is_booked, job_at}
use Rattle.generations.specs.Generations.{age_in}
use Rattle.quota.specs.Quota.{is_client}
use Rattle.vaults.specs.Vaults.{consented, holding, signing, unsigning, vault_preflight}
use Rattle.vaults.specs.declared.Column.{Column}
use Rattle.vaults.specs.declared.Consent.TheVariants.{Already}
use Rattle.vaults.specs.declared.Signing.{Signing}
use Rattle.ledger.proofs.Gates.{booked_entered, entered, passed_rest, passed_test}
use Rattle.ledger.specs.Decisions.{admission_at, ageing, answering, certificate, client_preflighting, committing, consent, consenting, counted_consent}
use Rattle.ledger.specs.Decisions.{counting, gated, history_with, preflighting, receiving, refusing, releasing, snapshotting, status_of, supersession}
use Rattle.ledger.specs.Decisions.{voting, within_quota}
use Rattle.ledger.specs.Holders.{is_held}
use Rattle.ledger.specs.Meaning.{Entered}
use Rattle.ledger.specs.Register.{is_done}
use Rattle.ledger.specs.State.{acknowledgers_of, history_at, signers_of, vault_at, version_of, votes_at, votes_in}
use Rattle.ledger.specs.Steps.{booked_gate, client_preflight_decision, commit_decision, dependencies_decision, dependencies_of, equivocators_decision}
use Rattle.ledger.specs.Steps.{equivocators_of, faulty_vote_decision, generations_decision, preflight_decision, release_decision, sane_gate, show_decision}
use Rattle.ledger.specs.Steps.{snapshot_decision, vault_gate}
use Rattle.ledger.specs.Worlds.{Request, client_preflight, commit, dependencies, equivocating, faulty_vote, generations, preflight, release, show, snapshot}
use Rattle.ledger.specs.declared.Change.TheVariants.{Count, Grant, Hold, Nothing, Record, Release, Sign}
use Rattle.ledger.specs.declared.Decision.{Decision}
use Rattle.ledger.specs.declared.Ledger.{Ledger}

-- proposals are taken apart in Places.antt
pub data Act (l : Ledger) (journal : List ℕ) : Request → Decision → Type 0 where
  signs_again : (v k : ℕ) → Entered l journal v k false → job_has (vault_at l v).signed k ≡ true
      → Act l journal (preflight v k) (answering (ones (signers_of l k)))
  signs : (v k : ℕ) → Entered l journal v k false → job_has (vault_at l v).signed k ≡ false
      → Act l journal (preflight v k) (voting (signers_of l k) v (Sign (signing (vault_at l v) k)))
  holds_again : (v k signers : ℕ) → Entered l journal v k false → job_has (vault_at l v).held k ≡ true
      → Act l journal (commit v k signers) (answering (ones (acknowledgers_of l k)))
  holds : (v k signers : ℕ) → Entered l journal v k false → job_has (vault_at l v).held k ≡ false
      → Act l journal (commit v k signers) (voting (acknowledgers_of l k) v (Hold (holding (vault_at l v) k)))
  votes : (column : Column) (v k : ℕ) → Entered l journal v k true → Act l journal (faulty_vote column v k) (voting (votes_in l column k) v (Record column))
  visits : Act l journal snapshot (snapshotting l.settings l.next l.seen (vault_at l l.next).held)
  releases : (v k rival : ℕ) → Entered l journal v k false → job_has (vault_at l v).signed k ≡ true
      → Act l journal (release v k rival) (record { outcome = Ok (ones (signers_of l k)); change = Release (unsigning (vault_at l v) k) })
  asks_again : (v k client : ℕ) → Entered l journal v k false → is_client client ≡ true → job_has (vault_at l v).signed k ≡ true
      → Act l journal (client_preflight v k client)
      (record { outcome = Ok (ones (signers_of l k)); change = Count (history_with client (history_at l v client) false) })
  asks : (v k client : ℕ) → Entered l journal v k false → is_client client ≡ true → job_has (vault_at l v).signed k ≡ false
      → Act l journal (client_preflight v k client)
      (voting (signers_of l k) v (Grant (record { vault = signing (vault_at l v) k; history = history_with client (history_at l v client) true })))
  shows : (k : ℕ) → Act l journal (show k) (answering (status_of l.settings (votes_at l k)))
  ages : (k : ℕ) → Booked (version_of l) journal l.booked k
      → Act l journal (generations k) (answering (age_in (job_at (version_of l) journal l.booked) l.order l.arrivals k))
  depends : (v k value : ℕ) → Act l journal (dependencies v k) (answering value)
  names : (value : ℕ) → Act l journal equivocating (answering value)

module _ (l : Ledger) (journal : List ℕ) where
  -- a step that is answered 0 passed its row of checks
  behind : (q : Request) (g : Verdict) (d : Decision) → is_done (gated g d).outcome ≡ true → (g ≡ Ok (tt {0}) → is_done d.outcome ≡ true → Act l journal q d)
      → Act l journal q (gated g d)
  behind q (Ok _) d e h = h refl e
  behind q (Err why) d e h = absurd (true≢false (sym e))

  -- ---- preflight
  consents : (v k : ℕ) → Entered l journal v k false → (b : Bool) → job_has (vault_at l v).signed k ≡ b → (d : Verdict)
      → let answer : Signing = cond b (record { consent = Already; vault = vault_at l v }) (consented d (vault_at l v) k) in
      is_done (consenting answer.consent answer.vault (signers_of l k) v).outcome ≡ true
      → Act l journal (preflight v k) (consenting answer.consent answer.vault (signers_of l k) v)
  consents v k h true s d e = signs_again v k h s
  consents v k h false s (Ok _) e = signs v k h s
  consents v k h false s (Err why) e = absurd (true≢false (sym e))

  pub act_preflight : (v k : ℕ) → is_done (preflight_decision l journal v k).outcome ≡ true → Act l journal (preflight v k) (preflight_decision l journal v k)
  unfolding preflight_decision preflighting consent vault_preflight
  act_preflight v k e =
      behind (preflight v k) (vault_gate l journal v k false) _ e
      (λ g. consents v k (entered l journal v k false g) (job_has (vault_at l v).signed k) refl (admission_at (vault_at l v) (version_of l) journal l.booked k))

  -- ---- commit
  receives : (v k signers : ℕ) → Entered l journal v k false → (b : Bool) → job_has (vault_at l v).held k ≡ b
      → Act l journal (commit v k signers)
      (cond b (answering (ones (acknowledgers_of l k))) (voting (acknowledgers_of l k) v (Hold (holding (vault_at l v) k))))
  receives v k signers h true e = holds_again v k signers h e
  receives v k signers h false e = holds v k signers h e

  pub act_commit : (v k signers : ℕ) → is_done (commit_decision l journal v k signers).outcome ≡ true
      → Act l journal (commit v k signers) (commit_decision l journal v k signers)
  unfolding commit_decision committing receiving votes_in
  act_commit v k signers e =
      behind (commit v k signers) (vault_gate l journal v k false) _ e
      (λ g d. behind (commit v k signers) (certificate l.settings (signers_of l k) signers) _ d
      (λ c x. receives v k signers (entered l journal v k false g) (job_has (vault_at l v).held k) refl))

  -- ---- faulty vaults, snapshots
  pub act_vote : (c : Column) (v k : ℕ) → is_done (faulty_vote_decision l journal c v k).outcome ≡ true
      → Act l journal (faulty_vote c v k) (faulty_vote_decision l journal c v k)
  unfolding faulty_vote_decision
  act_vote c v k e = behind (faulty_vote c v k) (vault_gate l journal v k true) _ e (λ g x. votes c v k (entered l journal v k true g))

  pub act_snapshot : is_done (snapshot_decision l).outcome ≡ true → Act l journal snapshot (snapshot_decision l)
  unfolding snapshot_decision
  act_snapshot e = behind snapshot (sane_gate l) _ e (λ g x. visits)

  -- ---- release
  pub act_release : (v k rival : ℕ) → is_done (release_decision l journal v k rival).outcome ≡ true
      → Act l journal (release v k rival) (release_decision l journal v k rival)
  unfolding release_decision releasing supersession
  act_release v k rival e =
      behind (release v k rival) (vault_gate l journal v k false) _ e
      (λ g d. behind (release v k rival) (supersession (vault_at l v) (version_of l) journal l.booked k rival) _ d
      (λ s x. releases v k rival (entered l journal v k false g)
      (passed_test (job_has (vault_at l v).signed k) _ _ (passed_rest (is_booked (version_of l) journal l.booked rival) _ _ s))))

  -- ---- a preflight from a client
  counts : (v k client : ℕ) → Entered l journal v k false → is_client client ≡ true → (b : Bool) → job_has (vault_at l v).signed k ≡ b → (d : Verdict)
      → let answer : Signing = cond b (record { consent = Already; vault = vault_at l v }) (consented d (vault_at l v) k) in
      is_done (counting answer.consent answer.vault client (history_at l v client) (signers_of l k) v).outcome ≡ true
      → Act l journal (client_preflight v k client) (counting answer.consent answer.vault client (history_at l v client) (signers_of l k) v)
  counts v k client h c true s d e = asks_again v k client h c s
  counts v k client h c false s (Ok _) e = asks v k client h c s
  counts v k client h c false s (Err why) e = absurd (true≢false (sym e))

  pub act_client : (v k client : ℕ) → is_done (client_preflight_decision l journal v k client).outcome ≡ true
      → Act l journal (client_preflight v k client) (client_preflight_decision l journal v k client)
  unfolding client_preflight_decision client_preflighting counted_consent vault_preflight
  act_client v k client e =
      let verdict = within_quota (history_at l v client) (admission_at (vault_at l v) (version_of l) journal l.booked k) in
      let decided = counted_consent (vault_at l v) (admission_at (vault_at l v) (version_of l) journal l.booked k) client (history_at l v client)
      (signers_of l k) v k in
      behind (client_preflight v k client) (vault_gate l journal v k false) _ e
      (λ g. by_cases (λ b. is_done (cond b decided (refusing NoClient)).outcome ≡ true → Act l journal (client_preflight v k client)
      (cond b decided (refusing NoClient))) (is_client client)
      (λ c. counts v k client (entered l journal v k false g) c (job_has (vault_at l v).signed k) refl verdict)
      (λ c d. absurd (true≢false (sym d))))

  -- ---- steps that only read
  pub act_show : (k : ℕ) → is_done (show_decision l journal k).outcome ≡ true → Act l journal (show k) (show_decision l journal k)
  unfolding show_decision
  act_show k e = behind (show k) (booked_gate l journal k) _ e (λ g x. shows k)

  pub act_generations : (k : ℕ) → is_done (generations_decision l journal k).outcome ≡ true → Act l journal (generations k) (generations_decision l journal k)
  unfolding generations_decision ageing
  act_generations k e =
      let age = age_in (job_at (version_of l) journal l.booked) l.order l.arrivals k in
      behind (generations k) (booked_gate l journal k) _ e
      (λ g. by_cases (λ b. is_done (cond b (answering age) (refusing NotHeld)).outcome ≡ true → Act l journal (generations k)
      (cond b (answering age) (refusing NotHeld))) (is_held l.settings l.vaults k)
      (λ c d. ages k (booked_entered l journal k g).1) (λ c d. absurd (true≢false (sym d))))

  reads : (q : Request) (o : Outcome) → is_done o ≡ true → ((value : ℕ) → Act l journal q (answering value))
      → Act l journal q (record { outcome = o; change = Nothing })
  reads q (Ok value) e f = f value
  reads q (Err why) e f = absurd (true≢false (sym e))

  pub act_dependencies : (v k : ℕ) → is_done (dependencies_decision l journal v k).outcome ≡ true
      → Act l journal (dependencies v k) (dependencies_decision l journal v k)
  unfolding dependencies_decision
  act_dependencies v k e = reads (dependencies v k) (dependencies_of l journal v k).outcome e (depends v k)

  pub act_equivocating : is_done (equivocators_decision l journal).outcome ≡ true → Act l journal equivocating (equivocators_decision l journal)
  unfolding equivocators_decision
  act_equivocating e = reads equivocating (equivocators_of l journal).outcome e names
