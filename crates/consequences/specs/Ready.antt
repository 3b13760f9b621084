-- A ready job gets through (document 02, M-112): "Suppose n − b sound vaults hold every job that created its inputs, none of them holds it, and preflight
-- would accept it at each. Then a preflight at each and then a commit at each by those signers, in any order within the two rounds, certify and finish it."
use Rattle.std.specs.Prelude.{false, true, List, [], ◌∷◌, ◌≢◌, ◌⊎◌, ◌≡◌, ◌<◌, ◌≤◌, ℕ, length, Ok}
use Rattle.std.specs.Int.Count.{ones}
use Rattle.base.specs.Lists.{In}
use Rattle.codec.specs.Codec.{place_of}
use Rattle.conflicts.specs.Tapes.{input_tapes, output_tapes}
use Rattle.record.specs.declared.Entry.{Entry}
use Rattle.sets.specs.Bits.{has_bit}
use Rattle.job_sets.specs.Jobs.{job_has}
use Rattle.federation.specs.Federation.{Lawful, threshold_of}
use Rattle.ledger.specs.Demand2.{accepts}
use Rattle.ledger.specs.Demand3.{Apart, Correct, Held, booked_job}
use Rattle.ledger.specs.Register.{is_done}
use Rattle.ledger.specs.State.{acknowledgers_of, signers_of, vault_at, version_of}
use Rattle.ledger.specs.Worlds.{
  Event,
  Request,
  World,
  after,
  after_all,
  client_preflight,
  commit,
  dependencies,
  equivocating,
  faulty_vote,
  generations,
  lent,
  preflight,
  propose,
  release,
  reply_to,
  show,
  snapshot,
  start,
}

-- ---- claims about a list of steps, each judged at the moment of the step: of the world before it
abbrev pub EachStep : (World → Event → Type 0) → World → List Event → Type 0
EachStep P w [] = Unit {0}
EachStep P w (e ∷ es) = P w e × EachStep P (after w e) es

abbrev pub SomeStep : (World → Event → Type 0) → World → List Event → Type 0
SomeStep P w [] = ⊥
SomeStep P w (e ∷ es) = P w e ⊎ SomeStep P (after w e) es

-- of each vault of a set
abbrev pub AtEach : ℕ → (ℕ → Type 0) → Type 0
AtEach s P = (v : ℕ) → has_bit s v ≡ true → P v

-- "Each step is lent a book that holds every booked record."
abbrev pub Whole : World → Event → Type 0
Whole w e = place_of (version_of w.ledger) w.ledger.booked ≤ length (lent w e)

-- the step is this request, and is lent such a book
pub record Asks (q : Request) (w : World) (e : Event) : Type 0 where
  pub request : e.request ≡ q
  pub whole : Whole w e

-- the requests of a round, one for each vault of the set, are answered 0 whenever they come
abbrev pub Answered : (ℕ → Request) → ℕ → World → List Event → Type 0
Answered own s = EachStep (λ w e. AtEach s (λ v. Asks (own v) w e → is_done (reply_to w e).outcome ≡ true))

-- ---- what is concluded, of the two rounds es and fs
pub record Through (w : World) (s j : ℕ) (es fs : List Event) : Type 0 where
  pub signed : Answered (λ v. preflight v j) s w es
  -- "certify": n − b signatures after the first round
  pub certified : threshold_of w.ledger.settings ≤ ones (signers_of (after_all w es).ledger j)
  pub committed : Answered (λ v. commit v j s) s (after_all w es) fs
  pub held : AtEach s (λ v. job_has (vault_at (after_all (after_all w es) fs).ledger v).held j ≡ true)
  -- "finish": n − b acknowledgements after the second
  pub finished : threshold_of w.ledger.settings ≤ ones (acknowledgers_of (after_all (after_all w es) fs).ledger j)
  pub shown : (e : Event) → Asks (show j) (after_all (after_all w es) fs) e → (reply_to (after_all (after_all w es) fs) e).outcome ≡ Ok 2

-- ---- what is enough

-- "preflight would accept it": it is answered 0 with some lent journal, which then holds every booked record
pub record Accepts (w : World) (j v : ℕ) : Type 0 where
  pub size : ℕ
  pub beyond : List ℕ
  pub is : accepts w size beyond (preflight v j) ≡ true

-- n − b vaults accept the job
pub record Accepted (w : World) (s j : ℕ) : Type 0 where
  pub enough : threshold_of w.ledger.settings ≤ ones s
  pub each : AtEach s (Accepts w j)

-- k is no rival of j: "Two different jobs are rivals if they share an input label or an output label." A number that is not booked names no job.
abbrev pub NoRival : World → ℕ → ℕ → Type 0
NoRival w j k = k ≢ j → k < w.ledger.booked → Apart (booked_job w j) (booked_job w k)

-- a step after which the vaults of the set still accept the job: at these vaults it signs and holds no rival, and it does not hold the job itself. A release
-- does no harm, be it of the job itself: no correct vault holds a rival of it (`AlreadyReady`), so each vault turns that back
abbrev pub Spares : World → ℕ → ℕ → Request → Type 0
Spares w s j (propose bytes) = Unit {0}
Spares w s j (preflight v k) = has_bit s v ≡ true → NoRival w j k
Spares w s j (commit v k signers) = has_bit s v ≡ true → (k ≢ j) × NoRival w j k
Spares w s j (faulty_vote column v k) = Unit {0}
Spares w s j (show k) = Unit {0}
Spares w s j (generations k) = Unit {0}
Spares w s j snapshot = Unit {0}
Spares w s j (release v k rival) = Unit {0}
Spares w s j (dependencies v k) = Unit {0}
Spares w s j (client_preflight v k client) = has_bit s v ≡ true → NoRival w j k
Spares w s j equivocating = Unit {0}

-- wherever a list of steps has led: a job that n − b vaults accept gets through, whatever comes between the commits, and whatever spares it between the
-- preflights; only the requests of the two rounds need be lent every booked record
abbrev pub AcceptedGetsThrough : Type 0
AcceptedGetsThrough =
    (n b faulty version : ℕ) → Lawful (record { n = n; b = b; faulty = faulty; version = version }) → (past : List Event)
    → let w = after_all (start n b faulty version) past in
    (s j : ℕ) → Accepted w s j
    → (es : List Event) → EachStep (λ w e. Spares w s j e.request) w es → AtEach s (λ v. SomeStep (Asks (preflight v j)) w es)
    → (fs : List Event) → AtEach s (λ v. SomeStep (Asks (commit v j s)) (after_all w es) fs)
    → Through w s j es fs

-- ---- in document 02's words

-- the vault holds every job that created the job's inputs
abbrev pub HoldsCreators : World → ℕ → ℕ → Type 0
HoldsCreators w j v =
    (t : Entry) → In t (input_tapes (booked_job w j)) → (k : ℕ) → Held w.ledger k → In t (output_tapes (booked_job w k))
    → job_has (vault_at w.ledger v).held k ≡ true

pub record Ready (w : World) (s j : ℕ) : Type 0 where
  pub booked : j < w.ledger.booked
  pub correct : AtEach s (Correct w.ledger.settings)
  -- "n − b sound vaults hold every job that created its inputs"
  pub creators : AtEach s (HoldsCreators w j)
  -- "none of them holds it"
  pub unheld : AtEach s (λ v. job_has (vault_at w.ledger v).held j ≡ false)
  -- "preflight would accept it at each"
  pub accepted : Accepted w s j

-- "Proposals and steps on jobs that are not its rivals and not its own may come between, provided they are no quota steps and no releases."
abbrev pub Allowed : World → ℕ → Request → Type 0
Allowed w j (propose bytes) = Unit {0}
Allowed w j (preflight v k) = (k ≢ j) × NoRival w j k
Allowed w j (commit v k signers) = (k ≢ j) × NoRival w j k
Allowed w j (faulty_vote column v k) = (k ≢ j) × NoRival w j k
Allowed w j (show k) = (k ≢ j) × NoRival w j k
Allowed w j (generations k) = (k ≢ j) × NoRival w j k
Allowed w j snapshot = Unit {0}
Allowed w j (release v k rival) = ⊥
Allowed w j (dependencies v k) = (k ≢ j) × NoRival w j k
Allowed w j (client_preflight v k client) = ⊥
Allowed w j equivocating = Unit {0}

-- any release besides, the job's own included
pub record Releases (q : Request) : Type 0 where
  pub vault : ℕ
  pub job : ℕ
  pub rival : ℕ
  pub is : q ≡ release vault job rival

abbrev pub Harmless : World → ℕ → Request → Type 0
Harmless w j q = Allowed w j q ⊎ Releases q

-- a round: a request at each of the vaults, at least once and in any order, and what may come between
pub record Round (May : World → ℕ → Request → Type 0) (own : ℕ → Request) (w : World) (s j : ℕ) (es : List Event) : Type 0 where
  pub whole : EachStep Whole w es
  pub steps : EachStep (λ w e. ((v : ℕ) × ((has_bit s v ≡ true) × (e.request ≡ own v))) ⊎ May w j e.request) w es
  pub each : AtEach s (λ v. SomeStep (λ w e. e.request ≡ own v) w es)

abbrev pub GetsThroughAmid : (World → ℕ → Request → Type 0) → Type 0
GetsThroughAmid May =
    (n b faulty version : ℕ) → Lawful (record { n = n; b = b; faulty = faulty; version = version }) → (past : List Event)
    → let w = after_all (start n b faulty version) past in
    (s j : ℕ) → Ready w s j
    → (es : List Event) → Round May (λ v. preflight v j) w s j es
    → (fs : List Event) → Round May (λ v. commit v j s) (after_all w es) s j fs
    → Through w s j es fs

abbrev pub ReadyGetsThrough : Type 0
ReadyGetsThrough = GetsThroughAmid Allowed

-- the proviso about releases is not needed
abbrev pub ReadyAmidReleases : Type 0
ReadyAmidReleases = GetsThroughAmid Harmless

-- what of a ready job is so of every job that n − b vaults accept
pub record AlreadyReady (w : World) (s j : ℕ) : Type 0 where
  pub booked : j < w.ledger.booked
  pub correct : AtEach s (Correct w.ledger.settings)
  pub creators : AtEach s (HoldsCreators w j)
  -- no correct vault holds a rival of it, so no vault can release it
  pub unopposed : (k : ℕ) → Held w.ledger k → NoRival w j k

abbrev pub AcceptedIsReady : Type 0
AcceptedIsReady =
    (n b faulty version : ℕ) → Lawful (record { n = n; b = b; faulty = faulty; version = version }) → (past : List Event)
    → let w = after_all (start n b faulty version) past in
    (s j : ℕ) → Accepted w s j → AlreadyReady w s j
