-- What a step does: one effect under its guard, or nothing. One case analysis of the steps, from which the invariant, what only
-- grows and that a refused step changes nothing all follow. The steps that read only what is booked do so whatever journal is lent.
use Rattle.job_sets.specs.declared.job_set.JobSet.{JobSet}
use Rattle.quota.specs.Quota.{is_client, is_spent}
use Rattle.snapshot.specs.Snapshot.{seen_after}
use mathlib.Core.Bool.{Bool, cond, false, not, true}
use mathlib.Core.List.{List, [], ◌++◌}
use mathlib.Core.Path.{◌∙◌, ◌≡◌, ap, refl, subst, sym}
use Prim.Native.Nat.{◌<◌, ◌^◌, ◌≤◌, ℕ}
use native.Mathlib.Nat.{le_trans}
use native.Mathlib.Omega.{arith}
use lib.Bits.{and_le_r, bit_and}
use lib.Count.{ones}
use lib.Dec.{eqb}
use lib.ListN.{get_or, length, take}
use borrow.Author.Tests.{eqb-false, eqb-true, leb-true}
use Rattle.base.proofs.Members.{get_d_in, in_get_d}
use Rattle.base.proofs.Reflect.{and_true, by_cases, reflect_false}
use Rattle.base.specs.Lists.{In}
use Rattle.outcome.specs.Figures.{Outcome, Verdict}
use Rattle.std.specs.Prelude.{Ok, Err}
use Rattle.outcome.specs.declared.Refusal.{Refusal}
use Rattle.outcome.specs.declared.Refusal.TheVariants.{Full, NoClient, NotHeld, OverQuota, Settings as BadSettings}
use Rattle.checks.specs.Checks.{examined}
use Rattle.codec.proofs.Sizes.{place_before, room_whole, whole_room}
use Rattle.codec.specs.Codec.{place_of}
use Rattle.conflicts.proofs.Meaning.{conflicting_sym}
use Rattle.conflicts.specs.Conflicts.{conflicting}
use Rattle.record.specs.declared.Job.{Job}
use Rattle.sets.proofs.Bits.{ones_subset}
use Rattle.sets.specs.Bits.{has_bit, subset_of}
use Rattle.job_sets.specs.Jobs.{job_has, job_without}
use Rattle.ledger.proofs.Gates.{entered, passed_rest, passed_test}
use Rattle.ledger.proofs.Lending.{grown_bytes, jobs_read, kept_bytes, records_at, records_length, slot_agrees}
use Rattle.ledger.proofs.Paper.{admission_unblocked}
use Rattle.ledger.proofs.Places.{examined_length, proposed}
use Rattle.ledger.proofs.Rivals.{Rival}
use Rattle.ledger.proofs.Views.{arrives}
use Rattle.ledger.specs.Demand3.{Correct, HeldBy, records_in}
use Rattle.federation.specs.Federation.{Lawful, threshold_of}
use Rattle.ledger.specs.Holders.{is_held}
use Rattle.ledger.specs.Graph.{Unblocked}
use Rattle.generations.specs.Generations.{age_in}
use Rattle.journal.specs.Journal.{inside_of, is_booked, job_at, slot_at}
use Rattle.ledger.specs.Meaning.{Entered, KnownAt, NewAt, Proposed, Sane, failed, full, insane, known, new}
use Rattle.ledger.specs.Register.{is_done, tabled}
use Rattle.ledger.specs.State.{applied, arriving, booking, counted, history_at, signers_of, vault_at, version_of, visited, voted, votes_at}
use Rattle.ledger.specs.State.{votes_in, with_vault}
use Rattle.ledger.specs.State.{acknowledgers_of}
use Rattle.ledger.specs.Decisions.{
  admission_at,
  ageing,
  answering,
  certificate,
  client_preflighting,
  committing,
  consent,
  consenting,
  counted_consent,
  counting,
  gated,
  history_with,
  preflighting,
  receiving,
  refusing,
  releasing,
  snapshotting,
  status_of,
  superseded_at,
  supersession,
  voting,
  within_quota,
}
use Rattle.ledger.specs.Steps.{
  booked_gate,
  carried,
  client_preflight_decision,
  commit_decision,
  dependencies_decision,
  dependencies_of,
  equivocators_decision,
  equivocators_of,
  faulty_vote_decision,
  generations_decision,
  journal_after,
  journal_with,
  preflight_decision,
  propose_decision,
  release_decision,
  sane_gate,
  show_decision,
  snapshot_decision,
  vault_gate,
}
use Rattle.vaults.specs.Vaults.{consented, holding, signing, unsigning, vault_preflight}
use Rattle.ledger.specs.Worlds.{
  Event,
  Request,
  World,
  after,
  client_preflight,
  commit,
  dependencies,
  equivocating,
  faulty_vote,
  generations,
  left_by,
  lend,
  overlay,
  preflight,
  propose,
  release,
  reply_to,
  show,
  snapshot,
  step_of,
}
use Rattle.ledger.specs.declared.Change.TheVariants.{Count, Grant, Hold, Nothing, Record, Release, Sign}
use Rattle.vaults.specs.declared.Column.{Column}
use Rattle.vaults.specs.declared.Column.TheVariants.{Acknowledgements, Signatures}
use Rattle.vaults.specs.declared.Consent.TheVariants.{Already}
use Rattle.ledger.specs.declared.Decision.{Decision}
use Rattle.ledger.specs.declared.History.{History}
use Rattle.ledger.specs.declared.Ledger.{Ledger}
use Rattle.ledger.specs.declared.Reply.{Reply}
use Rattle.vaults.specs.declared.Signing.{Signing}

-- the shape of what a list of steps leaves
pub record Shape (l : Ledger) (bs : List ℕ) : Type 0 where
  pub lawful : Lawful l.settings
  pub vaults : length l.vaults ≡ 16
  pub votes : length l.votes ≡ 128
  pub order : length l.order ≡ 128
  pub histories : length l.histories ≡ 128
  pub arrivals : l.arrivals ≤ 128
  pub records : length bs ≡ place_of (version_of l) l.booked
  pub room : l.booked ≤ 128
  pub next : l.next < l.settings.n
  pub votes_below : (c : Column) (k : ℕ) → votes_in l c k < 2 ^ l.settings.n

pub shape_sane : {l : Ledger} {bs : List ℕ} → Shape l bs → Sane l
shape_sane s = record { lawful = s.lawful; booked = s.room; arrivals = s.arrivals; next = s.next }

abbrev pub with_ledger : World → Ledger → World
with_ledger w l = record { ledger = l; booked = w.booked }

-- the table of the booked records, and its jobs
abbrev pub table_of : World → List (List ℕ)
table_of w = records_in (version_of w.ledger) w.ledger.booked w.booked

-- a vault signs: its set grows and its signature is recorded
abbrev pub signed_by : Ledger → ℕ → ℕ → Ledger
signed_by l v k = voted (with_vault l v (signing (vault_at l v) k)) Signatures v k

-- a vault holds: its set grows, its acknowledgement is recorded and the job arrives
unfoldable pub held : Ledger → ℕ → ℕ → Ledger
held l v k = arriving (voted (with_vault l v (holding (vault_at l v) k)) Acknowledgements v k) k

-- a vault releases a job: its signature stays recorded
abbrev pub released_by : Ledger → ℕ → ℕ → Ledger
released_by l v k = with_vault l v (unsigning (vault_at l v) k)

-- the jobs that a snapshot's next visit leaves seen
abbrev pub seen_next : Ledger → JobSet
seen_next l = seen_after l.settings l.next l.seen (vault_at l l.next).held

-- a request that is answered 0 and changes nothing
abbrev pub Idle : World → Request → Type 0
Idle w (propose bytes) = In bytes (table_of w)
Idle w (preflight v k) = job_has (vault_at w.ledger v).signed k ≡ true
Idle w (commit v k signers) = HeldBy w.ledger k v
Idle w (faulty_vote c v k) = ⊥
Idle w (show k) = Unit {0}
Idle w (generations k) = Unit {0}
Idle w snapshot = ⊥
Idle w (release v k rival) = ⊥
Idle w (dependencies v k) = Unit {0}
Idle w (client_preflight v k client) = ⊥
Idle w equivocating = Unit {0}

pub data Change (w : World) : Request → Bool → World → Type 0 where
  -- refused
  nothing : (q : Request) → Change w q false w
  -- answered 0, and nothing changes
  idle : (q : Request) → Idle w q → Change w q true w
  -- answered 0, with one effect
  appends : (bytes : List ℕ) → examined (version_of w.ledger) bytes ≡ Ok (tt {0}) → w.ledger.booked < 128 → (In bytes (table_of w) → ⊥)
      → Change w (propose bytes) true (record { ledger = booking w.ledger; booked = w.booked ++ bytes })
  signs : (v k : ℕ) → Correct w.ledger.settings v → k < w.ledger.booked
      → Unblocked (tabled (table_of w)) w.ledger.booked (vault_at w.ledger v).held (job_without (vault_at w.ledger v).signed k) (tabled (table_of w) k)
      → Change w (preflight v k) true (with_ledger w (signed_by w.ledger v k))
  votes : (c : Column) (v k : ℕ) → v < w.ledger.settings.n → has_bit w.ledger.settings.faulty v ≡ true → k < w.ledger.booked
      → Change w (faulty_vote c v k) true (with_ledger w (voted w.ledger c v k))
  holds : (v k signers : ℕ) → Correct w.ledger.settings v → k < w.ledger.booked → threshold_of w.ledger.settings ≤ ones (signers_of w.ledger k)
      → Change w (commit v k signers) true (with_ledger w (held w.ledger v k))
  sees : Change w snapshot true (with_ledger w (visited w.ledger (seen_next w.ledger)))
  releases : (v k rival : ℕ) → Correct w.ledger.settings v → job_has (vault_at w.ledger v).signed k ≡ true
      → job_has (vault_at w.ledger v).held rival ≡ true → Rival (tabled (table_of w)) rival k
      → Change w (release v k rival) true (with_ledger w (released_by w.ledger v k))
  -- a client's request that brings no new signature, be it refused or not: its history alone changes
  counts : (v k client : ℕ) (done : Bool) (h : History) → Change w (client_preflight v k client) done (with_ledger w (counted w.ledger v h))
  grants : (v k client : ℕ) (h : History) → Correct w.ledger.settings v → k < w.ledger.booked
      → Unblocked (tabled (table_of w)) w.ledger.booked (vault_at w.ledger v).held (job_without (vault_at w.ledger v).signed k) (tabled (table_of w) k)
      → Change w (client_preflight v k client) true (with_ledger w (counted (signed_by w.ledger v k) v h))

-- ---- each step is a change
module _ (w : World) (sh : Shape w.ledger w.booked) (size : ℕ) (beyond : List ℕ) where
  abbrev l : Ledger
  l = w.ledger

  abbrev bs : List ℕ
  bs = w.booked

  abbrev journal : List ℕ
  journal = lend bs size beyond

  -- the world that a reply leaves, with the journal as it is then
  abbrev left : Reply → List ℕ → World
  left r js = record { ledger = r.ledger; booked = take (place_of (version_of l) r.ledger.booked) (overlay js bs) }

  abbrev Moves : Request → Reply → Type 0
  Moves q r = Change w q (is_done r.outcome) (left r journal)

  -- a step that books nothing leaves the booked bytes
  moves : (q : Request) (r : Reply) → r.ledger.booked ≡ l.booked → Change w q (is_done r.outcome) (with_ledger w r.ledger) → Moves q r
  moves q r e c =
      subst (λ (bytes : List ℕ). Change w q (is_done r.outcome) (record { ledger = r.ledger; booked = bytes }))
      (sym (ap (λ (n : ℕ). take n (overlay journal bs)) (ap (λ (n : ℕ). place_of (version_of l) n) e ∙ sym sh.records) ∙ kept_bytes size bs beyond)) c

  -- a refusal, and an answer that changes nothing
  refuses : (q : Request) (why : Refusal) (v k : ℕ) → Moves q (carried l (refusing why) v k)
  unfolding applied
  refuses q why v k = moves q (carried l (refusing why) v k) refl (nothing q)

  answers : (q : Request) (value v k : ℕ) → Idle w q → Moves q (carried l (answering value) v k)
  unfolding applied
  answers q value v k i = moves q (carried l (answering value) v k) refl (idle q i)

  -- a row of checks, and what is decided behind it
  behind : (q : Request) (g : Verdict) (d : Decision) (v k : ℕ) → (g ≡ Ok (tt {0}) → Moves q (carried l d v k)) → Moves q (carried l (gated g d) v k)
  behind q (Ok _) d v k h = h refl
  behind q (Err why) d v k h = refuses q why v k

  correct : (v k : ℕ) → Entered l journal v k false → Correct l.settings v
  correct v k h = record { below = h.vault; sound = h.role }

  -- the booked jobs, as they are read behind a gate
  jobs : {v k : ℕ} {f : Bool} → Entered l journal v k f → job_at (version_of l) journal l.booked ≡ tabled (table_of w)
  jobs h = jobs_read (version_of l) l.booked size bs beyond sh.records h.known.inside

  -- ---- preflight
  unblocked : (v k : ℕ) → Entered l journal v k false → admission_at (vault_at l v) (version_of l) journal l.booked k ≡ Ok (tt {0})
      → Unblocked (tabled (table_of w)) l.booked (vault_at l v).held (job_without (vault_at l v).signed k) (tabled (table_of w) k)
  unfolding admission_at
  unblocked v k h e =
      subst (λ (job : ℕ → Job). Unblocked job l.booked (vault_at l v).held (job_without (vault_at l v).signed k) (job k)) (jobs h)
      (admission_unblocked (job_at (version_of l) journal l.booked) l.booked (vault_at l v).held (job_without (vault_at l v).signed k)
      (job_at (version_of l) journal l.booked k) e)

  signed_booked : (v k : ℕ) → (signed_by l v k).booked ≡ l.booked
  unfolding voted with_vault
  signed_booked v k = refl

  consents : (v k : ℕ) (b : Bool) → job_has (vault_at l v).signed k ≡ b → (d : Verdict) → admission_at (vault_at l v) (version_of l) journal l.booked k ≡ d
      → Entered l journal v k false
      → let answer : Signing = cond b (record { consent = Already; vault = vault_at l v }) (consented d (vault_at l v) k) in
      Moves (preflight v k) (carried l (consenting answer.consent answer.vault (signers_of l k) v) v k)
  unfolding applied
  consents v k true s d e h = answers (preflight v k) (ones (signers_of l k)) v k s
  consents v k false s (Err why) e h = refuses (preflight v k) why v k
  consents v k false s (Ok _) e h =
      moves (preflight v k) (carried l (voting (signers_of l k) v (Sign (signing (vault_at l v) k))) v k) (signed_booked v k)
      (signs v k (correct v k h) h.known.below (unblocked v k h e))

  change_preflight : (v k : ℕ) → Moves (preflight v k) (carried l (preflight_decision l journal v k) v k)
  unfolding preflight_decision preflighting consent vault_preflight
  change_preflight v k =
      behind (preflight v k) (vault_gate l journal v k false) _ v k
      (λ g. consents v k (job_has (vault_at l v).signed k) refl (admission_at (vault_at l v) (version_of l) journal l.booked k) refl
      (entered l journal v k false g))

  -- ---- a preflight from a client
  within_pass : (history : ℕ) (d : Verdict) → within_quota history d ≡ Ok (tt {0}) → d ≡ Ok (tt {0})
  unfolding within_quota
  within_pass history d e =
      by_cases (λ b. cond b (Err OverQuota) d ≡ Ok (tt {0}) → d ≡ Ok (tt {0})) (is_spent history) (λ _ x. cc) (λ _ x. x) e

  counted_booked : (v k : ℕ) (h : History) → (counted (signed_by l v k) v h).booked ≡ l.booked
  unfolding counted voted with_vault
  counted_booked v k h = refl

  quietly : (v k client : ℕ) (h : History) (o : Outcome) → Moves (client_preflight v k client) (carried l (record { outcome = o; change = Count h }) v k)
  unfolding applied counted
  quietly v k client h o = moves (client_preflight v k client) (carried l (record { outcome = o; change = Count h }) v k) refl (counts v k client (is_done o) h)

  consents_counted : (v k client history : ℕ) (b : Bool) (d : Verdict) → within_quota history (admission_at (vault_at l v) (version_of l) journal l.booked k) ≡ d
      → Entered l journal v k false
      → let answer : Signing = cond b (record { consent = Already; vault = vault_at l v }) (consented d (vault_at l v) k) in
      Moves (client_preflight v k client) (carried l (counting answer.consent answer.vault client history (signers_of l k) v) v k)
  unfolding applied
  consents_counted v k client history true d e h = quietly v k client _ (Ok (ones (signers_of l k)))
  consents_counted v k client history false (Err why) e h = quietly v k client _ (Err why)
  consents_counted v k client history false (Ok _) e h =
      let entry : History = history_with client history true in
      moves (client_preflight v k client)
      (carried l (voting (signers_of l k) v (Grant (record { vault = signing (vault_at l v) k; history = entry }))) v k) (counted_booked v k entry)
      (grants v k client entry (correct v k h) h.known.below (unblocked v k h (within_pass history _ e)))

  change_client : (v k client : ℕ) → Moves (client_preflight v k client) (carried l (client_preflight_decision l journal v k client) v k)
  unfolding client_preflight_decision client_preflighting counted_consent vault_preflight
  change_client v k client =
      let admission = admission_at (vault_at l v) (version_of l) journal l.booked k in
      let decided = counted_consent (vault_at l v) admission client (history_at l v client) (signers_of l k) v k in
      behind (client_preflight v k client) (vault_gate l journal v k false) _ v k
      (λ g. by_cases (λ b. Moves (client_preflight v k client) (carried l (cond b decided (refusing NoClient)) v k)) (is_client client)
      (λ e. consents_counted v k client (history_at l v client) (job_has (vault_at l v).signed k) _ refl (entered l journal v k false g))
      (λ e. refuses (client_preflight v k client) NoClient v k))

  -- ---- commit
  subset_ones : (k signers : ℕ) → subset_of signers (signers_of l k) ≡ true → ones signers ≤ ones (signers_of l k)
  unfolding subset_of
  subset_ones k signers e =
      let q : bit_and signers (signers_of l k) ≡ signers = eqb-true (bit_and signers (signers_of l k)) signers e in
      ones_subset l.settings.n signers (signers_of l k) (omega (arith, and_le_r signers (signers_of l k), sh.votes_below Signatures k)) e

  quorum : (k signers : ℕ) → certificate l.settings (signers_of l k) signers ≡ Ok (tt {0}) → threshold_of l.settings ≤ ones (signers_of l k)
  unfolding certificate
  quorum k signers e =
      let sub = passed_test (subset_of signers (signers_of l k)) _ _ e in
      let enough = leb-true (threshold_of l.settings) (ones signers) (passed_test _ _ _ (passed_rest (subset_of signers (signers_of l k)) _ _ e)) in
      le_trans enough (subset_ones k signers sub)

  held_booked : (v k : ℕ) → (held l v k).booked ≡ l.booked
  unfolding held voted with_vault
  held_booked v k = (arrives (voted (with_vault l v (holding (vault_at l v) k)) Acknowledgements v k) k).booked

  receives : (v k signers : ℕ) → Entered l journal v k false → threshold_of l.settings ≤ ones (signers_of l k) → (b : Bool) → job_has (vault_at l v).held k ≡ b
      → Moves (commit v k signers)
      (carried l (cond b (answering (ones (acknowledgers_of l k))) (voting (acknowledgers_of l k) v (Hold (holding (vault_at l v) k)))) v k)
  unfolding applied held
  receives v k signers h q true e = answers (commit v k signers) (ones (acknowledgers_of l k)) v k (record { correct = correct v k h; held = e })
  receives v k signers h q false e =
      moves (commit v k signers) (carried l (voting (acknowledgers_of l k) v (Hold (holding (vault_at l v) k))) v k) (held_booked v k)
      (holds v k signers (correct v k h) h.known.below q)

  change_commit : (v k signers : ℕ) → Moves (commit v k signers) (carried l (commit_decision l journal v k signers) v k)
  unfolding commit_decision committing receiving votes_in
  change_commit v k signers =
      behind (commit v k signers) (vault_gate l journal v k false) _ v k
      (λ g. behind (commit v k signers) (certificate l.settings (signers_of l k) signers) _ v k
      (λ c. receives v k signers (entered l journal v k false g) (quorum k signers c) (job_has (vault_at l v).held k) refl))

  -- ---- faulty vaults
  change_vote : (c : Column) (v k : ℕ) → Moves (faulty_vote c v k) (carried l (faulty_vote_decision l journal c v k) v k)
  unfolding faulty_vote_decision applied voted
  change_vote c v k =
      behind (faulty_vote c v k) (vault_gate l journal v k true) _ v k
      (λ g. let h = entered l journal v k true g in
      moves (faulty_vote c v k) (carried l (voting (votes_in l c k) v (Record c)) v k) refl (votes c v k h.vault h.role h.known.below))

  -- ---- steps that only read
  change_show : (k : ℕ) → Moves (show k) (carried l (show_decision l journal k) 0 k)
  unfolding show_decision
  change_show k = behind (show k) (booked_gate l journal k) _ 0 k (λ g. answers (show k) (status_of l.settings (votes_at l k)) 0 k tt)

  change_generations : (k : ℕ) → Moves (generations k) (carried l (generations_decision l journal k) 0 k)
  unfolding generations_decision ageing
  change_generations k =
      let age = age_in (job_at (version_of l) journal l.booked) l.order l.arrivals k in
      behind (generations k) (booked_gate l journal k) _ 0 k
      (λ g. by_cases (λ b. Moves (generations k) (carried l (cond b (answering age) (refusing NotHeld)) 0 k)) (is_held l.settings l.vaults k)
      (λ e. answers (generations k) age 0 k tt)
      (λ e. refuses (generations k) NotHeld 0 k))

  -- ---- a snapshot's visit
  change_snapshot : Moves snapshot (carried l (snapshot_decision l) 0 0)
  unfolding snapshot_decision snapshotting applied visited
  change_snapshot =
      behind snapshot (sane_gate l) _ 0 0
      (λ g. moves snapshot (carried l (snapshotting l.settings l.next l.seen (vault_at l l.next).held) 0 0) refl sees)

  -- ---- a release
  change_release : (v k rival : ℕ) → Moves (release v k rival) (carried l (release_decision l journal v k rival) v k)
  unfolding release_decision releasing supersession superseded_at applied with_vault
  change_release v k rival =
      behind (release v k rival) (vault_gate l journal v k false) _ v k
      (λ g. behind (release v k rival) (supersession (vault_at l v) (version_of l) journal l.booked k rival) _ v k
      (λ s.
      let h = entered l journal v k false g in
      let known = passed_rest (is_booked (version_of l) journal l.booked rival) _ _ s in
      let lost = passed_test _ _ _ (passed_rest (job_has (vault_at l v).signed k) _ _ known) in
      let differ = and_true (not (eqb k rival)) _ lost in
      let kept = and_true (job_has (vault_at l v).held rival) _ differ.1 in
      moves (release v k rival) (carried l (record { outcome = Ok (ones (signers_of l k)); change = Release (unsigning (vault_at l v) k) }) v k) refl
      (releases v k rival (correct v k h) (passed_test (job_has (vault_at l v).signed k) _ _ known) kept.0 (record {
        other = λ e. eqb-false k rival ((reflect_false (eqb k rival)).sound differ.0) (sym e);
        conflicts = subst (λ (job : ℕ → Job). conflicting (job rival) (job k) ≡ true) (jobs h) (conflicting_sym _ _ kept.1);
      }))))

  -- ---- missing dependencies: whatever is answered, nothing changes
  reads : (q : Request) (o : Outcome) (v k : ℕ) → Idle w q → Moves q (carried l (record { outcome = o; change = Nothing }) v k)
  reads q (Ok value) v k i = answers q value v k i
  reads q (Err why) v k i = refuses q why v k

  change_dependencies : (v k : ℕ) → Moves (dependencies v k) (carried l (dependencies_decision l journal v k) v k)
  unfolding dependencies_decision
  change_dependencies v k = reads (dependencies v k) (dependencies_of l journal v k).outcome v k tt

  change_equivocating : Moves equivocating (carried l (equivocators_decision l journal) 0 0)
  unfolding equivocators_decision
  change_equivocating = reads equivocating (equivocators_of l journal).outcome 0 0 tt

  -- ---- propose
  -- a record inside the journal is a booked one
  pub slot_tabled : (k : ℕ) → k < inside_of (version_of l) journal l.booked → slot_at (version_of l) journal k ≡ get_or (table_of w) k []
  unfolding inside_of
  slot_tabled k h =
      let before = place_before (version_of l) k l.booked (omega arith) in
      slot_agrees (version_of l) k size bs beyond (omega (arith, sh.records, before)) (whole_room (version_of l) k (length journal) (omega arith)) ∙ sym
      (records_at (version_of l) l.booked k bs (omega arith))

  found : (bytes : List ℕ) (k : ℕ) → KnownAt l journal bytes k → In bytes (table_of w)
  unfolding inside_of
  found bytes k h =
      subst (λ (x : List ℕ). In x (table_of w)) (sym (slot_tabled k h.first.below) ∙ h.first.has)
      (in_get_d (table_of w) [] k (omega (arith, h.first.below, records_length (version_of l) l.booked bs)))

  pub unknown : (bytes : List ℕ) → NewAt l journal bytes → In bytes (table_of w) → ⊥
  unfolding inside_of
  unknown bytes h m =
      let q = get_d_in (table_of w) [] bytes m in
      let b : q.0 < inside_of (version_of l) journal l.booked =
      omega (arith, q.1, records_length (version_of l) l.booked bs, room_whole (version_of l) l.booked (length journal) h.fits) in
      h.unknown q.0 b (slot_tabled q.0 b ∙ q.2)

  change_propose : (bytes : List ℕ) (d : Decision) → Proposed l journal bytes d
      → Change w (propose bytes) (is_done d.outcome) (left (carried l d 0 0) (journal_with d.change l.booked (version_of l) journal bytes))
  unfolding applied booking
  change_propose bytes d (insane n) = refuses (propose bytes) BadSettings 0 0
  change_propose bytes d (failed why s e) = refuses (propose bytes) why 0 0
  change_propose bytes d (full h) = refuses (propose bytes) Full 0 0
  change_propose bytes d (known k h) = answers (propose bytes) k 0 0 (found bytes k h)
  change_propose bytes d (new h) =
      subst (λ (b : List ℕ). Change w (propose bytes) true (record { ledger = booking l; booked = b }))
      (sym (grown_bytes (version_of l) size bs beyond bytes l.booked sh.records (examined_length (version_of l) bytes h.passes) h.fits))
      (appends bytes h.passes h.below (unknown bytes h))

  pub change : (q : Request) → Change w q (is_done (step_of l journal q).outcome) (left (step_of l journal q) (left_by l journal q))
  unfolding journal_after
  change (propose bytes) = change_propose bytes (propose_decision l journal bytes) (proposed l journal bytes)
  change (preflight v k) = change_preflight v k
  change (commit v k signers) = change_commit v k signers
  change (faulty_vote c v k) = change_vote c v k
  change (show k) = change_show k
  change (generations k) = change_generations k
  change snapshot = change_snapshot
  change (release v k rival) = change_release v k rival
  change (dependencies v k) = change_dependencies v k
  change (client_preflight v k client) = change_client v k client
  change equivocating = change_equivocating

pub changes : (w : World) → Shape w.ledger w.booked → (e : Event) → Change w e.request (is_done (reply_to w e).outcome) (after w e)
unfolding after
changes w sh e = change w sh e.size e.beyond e.request
