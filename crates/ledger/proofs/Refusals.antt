-- A sane ledger never answers 1: every other refusal has another number, whatever the checks find.
use mathlib.Core.Bool.{Bool, beq, cond, false, true, true≢false}
use mathlib.Core.List.{List}
use mathlib.Core.Path.{◌∙◌, ◌≡◌, ap, refl, sym}
use Prim.Native.Nat.{ℕ}
use native.Mathlib.Omega.{arith}
use lib.Count.{ones}
use lib.Dec.{eqb, leb, ltb}
use lib.ListN.{length}
use Rattle.base.proofs.Reflect.{by_cases}
use Rattle.base.specs.Search.{first_below}
use Rattle.outcome.specs.Figures.{number_of, refusal_number, Outcome, Verdict}
use Rattle.std.specs.Prelude.{Ok, Err}
use Rattle.outcome.specs.declared.Refusal.{Refusal}
use Rattle.outcome.specs.declared.Refusal.TheVariants.{
  Full,
  InputReserved,
  Malformed,
  NoClient,
  NoSetWorks,
  NoVault,
  NotBooked,
  NotCreated,
  NotHeld,
  NotSigned,
  NotSignedHere,
  NotSuperseded,
  OutputReserved,
  OverQuota,
  Repeated,
  Retired,
  TooFewSigners,
  Unbalanced,
  Unsupported,
  WrongVault,
}
use Rattle.checks.specs.Checks.{balanced, check_of, examined, repeated_at, unsupported_at, well_formed}
use Rattle.codec.specs.Codec.{job_of, record_size}
use Rattle.checks.specs.Meaning.{repeated, unsupported}
use Rattle.record.specs.declared.Job.{Job}
use Rattle.quota.specs.Quota.{is_client, is_spent}
use Rattle.sets.specs.Bits.{has_bit, subset_of}
use Rattle.job_sets.specs.Jobs.{job_count, job_has, no_jobs}
use Rattle.job_sets.specs.declared.job_set.JobSet.{JobSet}
use Rattle.queries.specs.Admission.{admission, consumed_at, not_created_at, remade_at}
use Rattle.supplies.specs.Missing.{missing_jobs}
use Rattle.federation.specs.Federation.{threshold_of}
use Rattle.federation.specs.declared.Settings.{Settings}
use Rattle.journal.specs.Journal.{is_booked, is_whole, job_at}
use Rattle.ledger.specs.Meaning.{missing, remade, reserved}
use Rattle.ledger.specs.State.{is_sane, version_of}
use Rattle.ledger.specs.Decisions.{
  admission_at,
  ageing,
  certificate,
  client_preflighting,
  committing,
  consent,
  consenting,
  counted_consent,
  counting,
  gated,
  gated_listing,
  if_admitted,
  listing,
  placing,
  preflighting,
  proposal,
  receiving,
  receiving_all,
  releasing,
  requiring,
  settling,
  snapshotting,
  supplying,
  superseded_at,
  supersession,
  within_quota,
}
use Rattle.ledger.specs.Steps.{
  booked_gate,
  client_preflight_decision,
  commit_decision,
  dependencies_decision,
  dependencies_of,
  equivocators_decision,
  equivocators_of,
  faulty_vote_decision,
  gate_of,
  generations_decision,
  preflight_decision,
  propose_decision,
  release_decision,
  sane_gate,
  show_decision,
  snapshot_decision,
  vault_gate,
  whole_gate,
}
use Rattle.vaults.specs.Vaults.{consented, vault_preflight}
use Rattle.ledger.specs.Worlds.{Request, client_preflight, commit, dependencies, equivocating, faulty_vote, generations, preflight, propose, release}
use Rattle.ledger.specs.Worlds.{show, snapshot, step_of}
use Rattle.vaults.specs.declared.Consent.TheVariants.{Already}
use Rattle.ledger.specs.declared.Decision.{Decision}
use Rattle.ledger.specs.declared.Ledger.{Ledger}
use Rattle.ledger.specs.declared.Listing.{Listing}
use Rattle.vaults.specs.declared.Signing.{Signing}
use Rattle.vaults.specs.declared.Vault.{Vault}

abbrev verdict_number : Verdict → ℕ
verdict_number (Ok _) = 0
verdict_number (Err why) = refusal_number why

-- a verdict and an outcome that do not say 1
record NotOne (v : Verdict) : Type 0 where
  other : verdict_number v ≡ 1 → ⊥

record Fine (o : Outcome) : Type 0 where
  other : number_of o ≡ 1 → ⊥

pass : NotOne (Ok (tt {0}))
pass = record { other = λ e. omega (arith, e) }

fails : (why : Refusal) → eqb (refusal_number why) 1 ≡ false → NotOne (Err why)
fails why h = record { other = λ e. true≢false (sym (ap (λ (n : ℕ). eqb n 1) e) ∙ h) }

done : (value : ℕ) → Fine (Ok value)
done value = record { other = λ e. omega (arith, e) }

refuses : (why : Refusal) → NotOne (Err why) → Fine (Err why)
refuses why n = record { other = n.other }

choose : (b : Bool) (x y : Verdict) → NotOne x → NotOne y → NotOne (cond b x y)
choose true x y p q = p
choose false x y p q = q

-- a decision behind a row of checks
behind : (g : Verdict) (d : Decision) → NotOne g → Fine d.outcome → Fine (gated g d).outcome
behind (Ok _) d p q = q
behind (Err why) d p q = refuses why p

either : (b : Bool) (d e : Decision) → Fine d.outcome → Fine e.outcome → Fine (cond b d e).outcome
either true d e p q = p
either false d e p q = q

-- ---- the rows of checks
checked : (j : Job) → NotOne (check_of j)
unfolding check_of
checked j =
    let repeated = first_below 8 (repeated_at j) in
    let unsupported = first_below 8 (unsupported_at j) in
    choose (well_formed j) _ _
    (choose (ltb repeated 8) _ _ (fails (Repeated repeated) refl)
    (choose (ltb unsupported 8) _ _ (fails (Unsupported unsupported) refl)
    (choose (balanced j) _ _ pass (fails Unbalanced refl))))
    (fails Malformed refl)

examines : (version : ℕ) (bytes : List ℕ) → NotOne (examined version bytes)
unfolding examined
examines version bytes = choose (eqb (length bytes) (record_size version)) _ _ (checked (job_of bytes)) (fails Malformed refl)

admits : (job : ℕ → Job) (booked : ℕ) (held others : JobSet) (j : Job) → NotOne (admission job booked held others j)
unfolding admission
admits job booked held others j =
    let missing = first_below 8 (not_created_at job booked held j) in
    let retired = first_below 8 (consumed_at job booked held j) in
    let reserved = first_below 8 (consumed_at job booked others j) in
    let remade = first_below 8 (remade_at job booked held others j) in
    choose (ltb missing 8) _ _ (fails (NotCreated missing) refl)
    (choose (ltb retired 8) _ _ (fails (Retired retired) refl)
    (choose (ltb reserved 8) _ _ (fails (InputReserved reserved) refl)
    (choose (ltb remade 8) _ _ (fails (OutputReserved remade) refl) pass)))

certifies : (s : Settings) (recorded signers : ℕ) → NotOne (certificate s recorded signers)
unfolding certificate
certifies s recorded signers =
    choose (subset_of signers recorded) _ _
    (choose (leb (threshold_of s) (ones signers)) _ _ pass (fails TooFewSigners refl))
    (fails NotSigned refl)

supersedes : (state : Vault) (version : ℕ) (journal : List ℕ) (booked job rival : ℕ) → NotOne (supersession state version journal booked job rival)
unfolding supersession
supersedes state version journal booked job rival =
    choose (is_booked version journal booked rival) _ _
    (choose (job_has state.signed job) _ _
    (choose (superseded_at state version journal booked job rival) _ _ pass (fails NotSuperseded refl))
    (fails NotSignedHere refl))
    (fails NotBooked refl)

within : (history : ℕ) (admission : Verdict) → NotOne admission → NotOne (within_quota history admission)
unfolding within_quota
within history admission n = choose (is_spent history) _ _ (fails OverQuota refl) n

module _ (l : Ledger) (journal : List ℕ) (sane : is_sane l ≡ true) where
  booked_or_lem : (k : ℕ) → NotOne (cond (is_booked (version_of l) journal l.booked k) (Ok (tt {0})) (Err NotBooked))
  booked_or_lem k = choose (is_booked (version_of l) journal l.booked k) _ _ pass (fails NotBooked refl)

  gate : (k : ℕ) → NotOne (booked_gate l journal k)
  unfolding booked_gate
  gate k = rw sane (booked_or_lem k)

  vault_gate_lem : (v k : ℕ) (faulty : Bool) → NotOne (vault_gate l journal v k faulty)
  unfolding vault_gate gate_of
  vault_gate_lem v k faulty =
      rw sane
      (choose (ltb v l.settings.n) _ _
      (choose (beq (has_bit l.settings.faulty v) faulty) _ _ (booked_or_lem k) (fails WrongVault refl))
      (fails NoVault refl))

  whole_gate_lem : NotOne (whole_gate l journal)
  unfolding whole_gate
  whole_gate_lem = rw sane (choose (is_whole (version_of l) journal l.booked) _ _ pass (fails NotBooked refl))

  sane_gate_lem : NotOne (sane_gate l)
  unfolding sane_gate
  sane_gate_lem = rw sane pass

  -- ---- what is decided behind them
  places : (equal inside booked : ℕ) (room : Bool) → Fine (placing equal inside booked room).outcome
  unfolding placing
  places equal inside booked room = either (ltb equal inside) _ _ (done equal) (either room _ _ (done booked) (refuses Full (fails Full refl)))

  consents : (state : Vault) (d : Verdict) (signers v k : ℕ) → NotOne d → Fine (consent state d signers v k).outcome
  unfolding consent vault_preflight
  consents state d signers v k n = by (job_has state.signed k) d n
    where
      by : (b : Bool) (d : Verdict) → NotOne d
          → let answer : Signing = cond b (record { consent = Already; vault = state }) (consented d state k) in
          Fine (consenting answer.consent answer.vault signers v).outcome
      by true d n = done _
      by false (Ok _) n = done _
      by false (Err why) n = refuses why n

  consents_counted : (state : Vault) (d : Verdict) (client history signers v k : ℕ) → NotOne d
      → Fine (counted_consent state d client history signers v k).outcome
  unfolding counted_consent vault_preflight
  consents_counted state d client history signers v k n = by (job_has state.signed k) (within_quota history d) (within history d n)
    where
      by : (b : Bool) (d : Verdict) → NotOne d
          → let answer : Signing = cond b (record { consent = Already; vault = state }) (consented d state k) in
          Fine (counting answer.consent answer.vault client history signers v).outcome
      by true d n = done _
      by false (Ok _) n = done _
      by false (Err why) n = refuses why n

  receives : (state : Vault) (acknowledgers v k : ℕ) → Fine (receiving state acknowledgers v k).outcome
  unfolding receiving
  receives state acknowledgers v k = either (job_has state.held k) _ _ (done _) (done _)

  ages : (b : Bool) (age : ℕ) → Fine (ageing b age).outcome
  unfolding ageing
  ages b age = either b _ _ (done age) (refuses NotHeld (fails NotHeld refl))

  listed : (g : Verdict) (r : Listing) → NotOne g → Fine r.outcome → Fine (gated_listing g r).outcome
  listed (Ok _) r p q = q
  listed (Err why) r p q = refuses why p

  admitted : (d : Verdict) (jobs : JobSet) → Fine (if_admitted d jobs).outcome
  admitted (Ok _) jobs = done (job_count jobs)
  admitted (Err why) jobs = refuses NoSetWorks (fails NoSetWorks refl)

  requires : (state : Vault) (elsewhere : JobSet) (k : ℕ) → Fine (requiring state elsewhere (version_of l) journal l.booked k).outcome
  unfolding requiring supplying
  requires state elsewhere k =
      by_cases (λ b. Fine (cond b (listing no_jobs) (supplying state elsewhere (version_of l) journal l.booked k)).outcome) (job_has state.signed k)
      (λ e. done (job_count no_jobs))
      (λ e.
      let jobs = missing_jobs (job_at (version_of l) journal l.booked) l.booked state.held elsewhere (job_at (version_of l) journal l.booked k) in
      admitted (admission_at (receiving_all state jobs) (version_of l) journal l.booked k) jobs)

  fine : (q : Request) → Fine (step_of l journal q).outcome
  unfolding propose_decision proposal settling preflight_decision preflighting admission_at commit_decision committing faulty_vote_decision show_decision
      generations_decision snapshot_decision snapshotting release_decision releasing
      dependencies_decision dependencies_of client_preflight_decision client_preflighting equivocators_decision equivocators_of
  fine (propose bytes) = behind (sane_gate l) _ sane_gate_lem (behind (examined (version_of l) bytes) _ (examines (version_of l) bytes) (places _ _ _ _))
  fine (preflight v k) = behind (vault_gate l journal v k false) _ (vault_gate_lem v k false) (consents _ _ _ _ _ (admits _ _ _ _ _))
  fine (commit v k signers) =
      behind (vault_gate l journal v k false) _ (vault_gate_lem v k false) (behind (certificate _ _ _) _ (certifies _ _ _) (receives _ _ _ _))
  fine (faulty_vote c v k) = behind (vault_gate l journal v k true) _ (vault_gate_lem v k true) (done _)
  fine (show k) = behind (booked_gate l journal k) _ (gate k) (done _)
  fine (generations k) = behind (booked_gate l journal k) _ (gate k) (ages _ _)
  fine snapshot = behind (sane_gate l) _ sane_gate_lem (done _)
  fine (release v k rival) =
      behind (vault_gate l journal v k false) _ (vault_gate_lem v k false) (behind (supersession _ _ _ _ _ _) _ (supersedes _ _ _ _ _ _) (done _))
  fine (dependencies v k) = listed (vault_gate l journal v k false) _ (vault_gate_lem v k false) (requires _ _ _)
  fine (client_preflight v k client) =
      behind (vault_gate l journal v k false) _ (vault_gate_lem v k false)
      (either (is_client client) _ _ (consents_counted _ _ _ _ _ _ _ (admits _ _ _ _ _)) (refuses NoClient (fails NoClient refl)))
  fine equivocating = listed (whole_gate l journal) _ whole_gate_lem (done _)

  -- whatever the request
  pub never_one : (q : Request) → number_of (step_of l journal q).outcome ≡ 1 → ⊥
  never_one q = (fine q).other
