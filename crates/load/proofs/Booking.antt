-- What the steps of a load do to what is booked: a proposal books its record, and every other step leaves all as it is.
use mathlib.Core.Bool.{Bool, cond, false, true, true≢false}
use mathlib.Core.List.{List}
use mathlib.Core.Path.{◌∙◌, ◌≡◌, ap, refl, subst, sym}
use Prim.Native.Nat.{◌+◌, ◌<◌, ◌^◌, ◌≤◌, suc, ℕ}
use native.Mathlib.Omega.{arith}
use lib.Count.{ones}
use lib.Dec.{ltb}
use lib.ListN.{length}
use borrow.Author.Tests.{le-leb, lt-ltb, ltb-false, ltb-true}
use Rattle.base.proofs.Reflect.{by_cases}
use Rattle.codec.proofs.Jobs.{length_bytes_of}
use Rattle.codec.proofs.Sizes.{place_most, place_whole, size_most}
use Rattle.codec.specs.Codec.{bytes_of, place_of, record_size}
use Rattle.federation.specs.Federation.{Lawful}
use Rattle.federation.specs.declared.Settings.{Settings}
use Rattle.generations.specs.Generations.{age_in}
use Rattle.journal.proofs.Putting.{put_length, slot_before, slot_put}
use Rattle.journal.specs.Journal.{inside_of, is_booked, job_at, put_at, slot_at, slots}
use Rattle.snapshot.proofs.Visits.{stays_below}
use Rattle.ledger.proofs.Gates.{reflect_sane}
use Rattle.ledger.proofs.Places.{means}
use Rattle.ledger.proofs.Views.{arrives}
use Rattle.ledger.specs.Decisions.{
  admission_at,
  ageing,
  answering,
  certificate,
  client_preflighting,
  committing,
  consent,
  consenting,
  counted_consent,
  counting,
  gated,
  is_book,
  preflighting,
  receiving,
  refusing,
  releasing,
  snapshotting,
  status_of,
  supersession,
  voting,
  within_quota,
}
use Rattle.ledger.specs.Holders.{is_held}
use Rattle.ledger.specs.Meaning.{NewAt, Sane, new}
use Rattle.ledger.specs.State.{applied, booking, counted, history_at, signers_of, vault_at, version_of, visited, voted, votes_at, votes_in, with_vault}
use Rattle.ledger.specs.Steps.{
  booked_gate,
  client_preflight_decision,
  commit_decision,
  dependencies_decision,
  equivocators_decision,
  faulty_vote_decision,
  gate_of,
  generations_decision,
  journal_after,
  preflight_decision,
  propose_decision,
  release_decision,
  sane_gate,
  show_decision,
  snapshot_decision,
  vault_gate,
}
use Rattle.vaults.specs.Vaults.{holding, unsigning, vault_preflight}
use Rattle.ledger.specs.Worlds.{Request, client_preflight, commit, decision_of, dependencies, equivocating, faulty_vote, generations, left_by, preflight}
use Rattle.ledger.specs.Worlds.{propose, release, show, snapshot, step_of}
use Rattle.ledger.specs.declared.Change.{Change}
use Rattle.ledger.specs.declared.Change.TheVariants.{Book, Count, Grant, Hold, Nothing, Record, Release, See, Sign}
use Rattle.vaults.specs.declared.Column.TheVariants.{Acknowledgements}
use Rattle.vaults.specs.declared.Consent.{Consent}
use Rattle.vaults.specs.declared.Consent.TheVariants.{Already, Denied, Fresh}
use Rattle.ledger.specs.declared.Decision.{Decision}
use Rattle.ledger.specs.declared.Ledger.{Ledger}
use Rattle.vaults.specs.declared.Vault.{Vault}
use Rattle.outcome.specs.Figures.{Verdict}
use Rattle.std.specs.Prelude.{Ok, Err}
use Rattle.outcome.specs.declared.Refusal.TheVariants.{NoClient, NotHeld}
use Rattle.checks.specs.Checks.{examined}
use Rattle.sets.specs.Bits.{has_bit}
use Rattle.quota.specs.Quota.{is_client}
use Rattle.job_sets.specs.Jobs.{job_has}
use Rattle.load.proofs.Checked.{record_passes}
use Rattle.load.proofs.Different.{records_differ}
use Rattle.load.proofs.Writes.{eight}
use Rattle.load.specs.Records.{job_for}

-- ---- steps that book nothing
abbrev Calm : Decision → Type 0
Calm d = is_book d.change ≡ false

gated_calm : (g : Verdict) (d : Decision) → Calm d → Calm (gated g d)
gated_calm (Ok _) d h = h
gated_calm (Err why) d h = refl

if_calm : (b : Bool) (x y : Decision) → Calm x → Calm y → Calm (cond b x y)
if_calm true x y h g = h
if_calm false x y h g = g

consent_calm : (c : Consent) (state : Vault) (signers v : ℕ) → Calm (consenting c state signers v)
consent_calm Already state signers v = refl
consent_calm Fresh state signers v = refl
consent_calm (Denied why) state signers v = refl

counting_calm : (c : Consent) (state : Vault) (client history signers v : ℕ) → Calm (counting c state client history signers v)
counting_calm Already state client history signers v = refl
counting_calm Fresh state client history signers v = refl
counting_calm (Denied why) state client history signers v = refl

-- a request that is no proposal
abbrev pub Other : Request → Type 0
Other (propose bytes) = ⊥
Other (preflight v j) = Unit {0}
Other (commit v j signers) = Unit {0}
Other (faulty_vote column v j) = Unit {0}
Other (show j) = Unit {0}
Other (generations j) = Unit {0}
Other snapshot = Unit {0}
Other (release v j rival) = Unit {0}
Other (dependencies v j) = Unit {0}
Other (client_preflight v j client) = Unit {0}
Other equivocating = Unit {0}

other_calm : (l : Ledger) (journal : List ℕ) (q : Request) → Other q → Calm (decision_of l journal q)
unfolding preflight_decision preflighting consent commit_decision committing receiving faulty_vote_decision show_decision generations_decision ageing
    snapshot_decision snapshotting release_decision releasing dependencies_decision client_preflight_decision client_preflighting counted_consent
    equivocators_decision
other_calm l journal (propose bytes) h = absurd h
other_calm l journal (preflight v j) h =
    let a = vault_preflight (vault_at l v) (admission_at (vault_at l v) (version_of l) journal l.booked j) j in
    gated_calm (vault_gate l journal v j false) (consenting a.consent a.vault (signers_of l j) v) (consent_calm a.consent a.vault (signers_of l j) v)
other_calm l journal (commit v j signers) h =
    let votes = votes_at l j in
    let received = receiving (vault_at l v) votes.acknowledgements v j in
    let test = certificate l.settings votes.signatures signers in
    gated_calm (vault_gate l journal v j false) (gated test received)
    (gated_calm test received (if_calm (job_has (vault_at l v).held j) (answering (ones votes.acknowledgements))
    (voting votes.acknowledgements v (Hold (holding (vault_at l v) j))) refl refl))
other_calm l journal (faulty_vote column v j) h = gated_calm (vault_gate l journal v j true) (voting (votes_in l column j) v (Record column)) refl
other_calm l journal (show j) h = gated_calm (booked_gate l journal j) (answering (status_of l.settings (votes_at l j))) refl
other_calm l journal (generations j) h =
    let age = age_in (job_at (version_of l) journal l.booked) l.order l.arrivals j in
    let held = is_held l.settings l.vaults j in
    gated_calm (booked_gate l journal j) (cond held (answering age) (refusing NotHeld)) (if_calm held (answering age) (refusing NotHeld) refl refl)
other_calm l journal snapshot h = gated_calm (sane_gate l) (snapshotting l.settings l.next l.seen (vault_at l l.next).held) refl
other_calm l journal (release v j rival) h =
    let test = supersession (vault_at l v) (version_of l) journal l.booked j rival in
    let released : Decision = record { outcome = Ok (ones (signers_of l j)); change = Release (unsigning (vault_at l v) j) } in
    gated_calm (vault_gate l journal v j false) (gated test released) (gated_calm test released refl)
other_calm l journal (dependencies v j) h = refl
other_calm l journal (client_preflight v j client) h =
    let admission = admission_at (vault_at l v) (version_of l) journal l.booked j in
    let history = history_at l v client in
    let a = vault_preflight (vault_at l v) (within_quota history admission) j in
    gated_calm (vault_gate l journal v j false) (client_preflighting (vault_at l v) (version_of l) journal l.booked client history (signers_of l j) v j)
    (if_calm (is_client client) (counted_consent (vault_at l v) admission client history (signers_of l j) v j) (refusing NoClient)
    (counting_calm a.consent a.vault client history (signers_of l j) v) refl)
other_calm l journal equivocating h = refl

record Same (l m : Ledger) : Type 0 where
  settings : m.settings ≡ l.settings
  booked : m.booked ≡ l.booked
  next : 0 < l.settings.n → l.next < l.settings.n → m.next < l.settings.n
  arrivals : l.arrivals ≤ 128 → m.arrivals ≤ 128

calm_same : (l : Ledger) (change : Change) (v j : ℕ) → is_book change ≡ false → Same l (applied l change v j)
unfolding applied counted visited voted with_vault
calm_same l Nothing v j h = record { settings = refl; booked = refl; next = λ _ b. b; arrivals = λ a. a }
calm_same l Book v j h = absurd (true≢false h)
calm_same l (Sign state) v j h = record { settings = refl; booked = refl; next = λ _ b. b; arrivals = λ a. a }
calm_same l (Release state) v j h = record { settings = refl; booked = refl; next = λ _ b. b; arrivals = λ a. a }
calm_same l (Record column) v j h = record { settings = refl; booked = refl; next = λ _ b. b; arrivals = λ a. a }
calm_same l (Count history) v j h = record { settings = refl; booked = refl; next = λ _ b. b; arrivals = λ a. a }
calm_same l (Grant grant) v j h = record { settings = refl; booked = refl; next = λ _ b. b; arrivals = λ a. a }
calm_same l (See seen) v j h = record { settings = refl; booked = refl; next = λ p _. stays_below l.settings.n l.next p; arrivals = λ a. a }
calm_same l (Hold state) v j h =
    let a = arrives (voted (with_vault l v state) Acknowledgements v j) j in
    record { settings = a.settings; booked = a.booked; next = λ _ b. rw a.next b; arrivals = a.arrivals }

-- ---- what a load has booked so far: its first k records
pub record Standing (first : ℕ) (s : Settings) (k : ℕ) (l : Ledger) (journal : List ℕ) : Type 0 where
  pub settings : l.settings ≡ s
  pub version : version_of l ≡ 1
  pub booked : l.booked ≡ k
  pub arrivals : l.arrivals ≤ 128
  pub next : l.next < s.n
  pub size : length journal ≡ 13312
  pub records : (m : ℕ) → m < k → slot_at 1 journal m ≡ bytes_of 1 (job_for first m)

other_left : (l : Ledger) (journal : List ℕ) (q : Request) → Other q → left_by l journal q ≡ journal
other_left l journal (propose bytes) h = absurd h
other_left l journal (preflight v j) h = refl
other_left l journal (commit v j signers) h = refl
other_left l journal (faulty_vote column v j) h = refl
other_left l journal (show j) h = refl
other_left l journal (generations j) h = refl
other_left l journal snapshot h = refl
other_left l journal (release v j rival) h = refl
other_left l journal (dependencies v j) h = refl
other_left l journal (client_preflight v j client) h = refl
other_left l journal equivocating h = refl

module _ (first : ℕ) (s : Settings) (k : ℕ) (l : Ledger) (journal : List ℕ) (h : Standing first s k l journal) where
  pub other_standing : (q : Request) → Other q → Standing first s k (step_of l journal q).ledger (left_by l journal q)
  other_standing q o =
      let vaults : l.settings.n ≡ s.n = ap (λ (x : Settings). x.n) h.settings in
      let m = calm_same l (decision_of l journal q).change _ _ (other_calm l journal q o) in
      subst (Standing first s k (step_of l journal q).ledger) (sym (other_left l journal q o))
      (record {
        settings = m.settings ∙ h.settings;
        version = ap (λ (x : Settings). x.version) m.settings ∙ h.version;
        booked = m.booked ∙ h.booked;
        arrivals = m.arrivals h.arrivals;
        next = omega (arith, vaults, m.next (omega (arith, vaults, h.next)) (omega (arith, vaults, h.next)));
        size = h.size;
        records = h.records;
      })

  sane : Lawful s → k ≤ 128 → Sane l
  sane w b = record {
    lawful = subst Lawful (sym h.settings) w;
    booked = omega (arith, h.booked);
    arrivals = h.arrivals;
    next = rw h.settings h.next;
  }

  -- ---- a preflight passes checks 1, 3, 5 and 4
  pub passes_gate : Lawful s → k ≤ 128 → (v j : ℕ) → v < s.n → has_bit s.faulty v ≡ false → j < k → vault_gate l journal v j false ≡ Ok (tt {0})
  unfolding vault_gate gate_of is_booked
  passes_gate w b v j vn f jk =
      simp (
        (reflect_sane l).complete (sane w b),
        h.settings,
        lt-ltb v s.n vn,
        f,
        le-leb l.booked (slots (version_of l) journal)
            (place_whole (version_of l) l.booked (length journal) (omega (arith, place_most (version_of l) l.booked, h.booked, h.size))),
        lt-ltb j l.booked (omega (arith, h.booked)),
      )

  -- ---- a proposal of the next record books it
  module _ (w : Lawful s) (small : first < 2 ^ 32) (more : k < 40) where
    abbrev bytes : List ℕ
    bytes = bytes_of 1 (job_for first k)

    fits_in : (version : ℕ) → place_of version l.booked + record_size version ≤ length journal
    fits_in version = omega (arith, place_most version l.booked, size_most version, h.booked, h.size)

    fresh : NewAt l journal bytes
    unfolding inside_of
    fresh = record {
      sane = sane w (omega arith);
      passes = subst (λ (v : ℕ). examined v bytes ≡ Ok (tt {0})) (sym h.version) (record_passes first k small more);
      unknown = λ i b e. let c : i < k = omega (arith, b, h.booked) in
          let z : i ≡ k = records_differ first i k small (omega arith) more
          (sym (h.records i c) ∙ ap (λ (v : ℕ). slot_at v journal i) (sym h.version) ∙ e) in
          absurd (omega arith);
      below = omega (arith, h.booked);
      fits = fits_in (version_of l);
    }

    decides : propose_decision l journal bytes ≡ record { outcome = Ok l.booked; change = Book }
    decides = means l journal bytes _ (new fresh)

    put_standing : Standing first s (suc k) (booking l) (put_at 1 journal l.booked bytes)
    unfolding booking
    put_standing =
        let n = length_bytes_of 1 (job_for first k) (eight first k) in
        let room = fits_in 1 in
        record {
          settings = h.settings;
          version = h.version;
          booked = omega (arith, h.booked);
          arrivals = h.arrivals;
          next = h.next;
          size = put_length 1 l.booked journal bytes n room ∙ h.size;
          records = λ m g. by_cases (λ b. slot_at 1 (put_at 1 journal l.booked bytes) m ≡ bytes_of 1 (job_for first m)) (ltb m k)
              (λ e. slot_before 1 l.booked journal bytes n room m (omega (arith, h.booked, ltb-true m k e)) ∙ h.records m (ltb-true m k e))
              (λ e. let z : m ≡ l.booked = omega (arith, ltb-false m k e, h.booked) in
              ap (slot_at 1 (put_at 1 journal l.booked bytes)) z ∙ slot_put 1 l.booked journal bytes n room
              ∙ ap (λ (i : ℕ). bytes_of 1 (job_for first i)) (sym (z ∙ h.booked)));
        }

    pub proposed_standing : Standing first s (suc k) (step_of l journal (propose bytes)).ledger (left_by l journal (propose bytes))
    unfolding journal_after applied
    proposed_standing =
        rw decides (subst (λ (v : ℕ). Standing first s (suc k) (booking l) (put_at v journal l.booked bytes)) (sym h.version) put_standing)
