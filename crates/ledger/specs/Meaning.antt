-- What the checks of specs/ mean, said without a search. proofs/Meaning.antt shows that they decide these claims.
use Rattle.std.specs.Prelude.{Bool, false, true, List, ◌≢◌, ◌⊎◌, ◌≡◌, ◌+◌, ◌<◌, ◌≤◌, ℕ, length, Ok, Err}
use Rattle.base.specs.Search.{Every, Least}
use Rattle.outcome.specs.Figures.{Verdict}
use Rattle.outcome.specs.declared.Refusal.{Refusal}
use Rattle.outcome.specs.declared.Refusal.TheVariants.{Full, InputReserved, NotBooked, NotCreated, NotSignedHere, NotSuperseded, OutputReserved, Retired}
use Rattle.outcome.specs.declared.Refusal.TheVariants.{Settings as BadSettings}
use Rattle.checks.specs.Checks.{examined}
use Rattle.codec.specs.Codec.{place_of, record_size}
use Rattle.record.specs.Entries.{frames_of, label_of}
use Rattle.checks.specs.Meaning.{Nowhere}
use Rattle.record.specs.Meaning.{Used}
use Rattle.record.specs.declared.Job.{Job}
use Rattle.conflicts.specs.Meaning.{Conflicting}
use Rattle.sets.specs.Bits.{has_bit}
use Rattle.job_sets.specs.Jobs.{job_has}
use Rattle.sets.specs.Quorum.{AtLeast}
use Rattle.job_sets.specs.declared.job_set.JobSet.{JobSet}
use Rattle.federation.specs.Federation.{Lawful, threshold_of}
use Rattle.ledger.specs.Graph.{Consumer, Creator, Maker}
use Rattle.journal.specs.Journal.{Booked, capacity, inside_of, job_at, slot_at}
use Rattle.federation.specs.declared.Settings.{Settings}
use Rattle.ledger.specs.Decisions.{answering, refusing}
use Rattle.ledger.specs.State.{version_of}
use Rattle.ledger.specs.declared.Change.TheVariants.{Book}
use Rattle.ledger.specs.declared.Decision.{Decision}
use Rattle.ledger.specs.declared.Ledger.{Ledger}
use Rattle.vaults.specs.declared.Vault.{Vault}
use Rattle.vaults.specs.declared.Votes.{Votes}

-- a state that check 1 lets through
pub record Sane (l : Ledger) : Type 0 where
  pub lawful : Lawful l.settings
  pub booked : l.booked ≤ capacity
  pub arrivals : l.arrivals ≤ capacity
  pub next : l.next < l.settings.n

-- checks 1, 3, 5 and 4 pass, for a step that is for faulty vaults or for correct ones
pub record Entered (l : Ledger) (journal : List ℕ) (v job : ℕ) (faulty : Bool) : Type 0 where
  pub sane : Sane l
  pub vault : v < l.settings.n
  pub role : has_bit l.settings.faulty v ≡ faulty
  pub known : Booked (version_of l) journal l.booked job

-- ---- a proposal's answers

-- it is answered with the first booked record inside the journal that has these bytes
pub record KnownAt (l : Ledger) (journal bytes : List ℕ) (k : ℕ) : Type 0 where
  pub sane : Sane l
  pub passes : examined (version_of l) bytes ≡ Ok tt
  pub first : Least (inside_of (version_of l) journal l.booked) (λ i. slot_at (version_of l) journal i ≡ bytes) k

-- no booked record inside the journal has these bytes
abbrev pub Unknown : Ledger → List ℕ → List ℕ → Type 0
Unknown l journal bytes = Every (inside_of (version_of l) journal l.booked) (λ i. slot_at (version_of l) journal i ≡ bytes → ⊥)

-- it is booked: checks 6 to 9 pass, it is unknown, and there is room for one more
pub record NewAt (l : Ledger) (journal bytes : List ℕ) : Type 0 where
  pub sane : Sane l
  pub passes : examined (version_of l) bytes ≡ Ok tt
  pub unknown : Unknown l journal bytes
  pub below : l.booked < capacity
  pub fits : place_of (version_of l) l.booked + record_size (version_of l) ≤ length journal

-- there is no room for it
pub record FullAt (l : Ledger) (journal bytes : List ℕ) : Type 0 where
  pub sane : Sane l
  pub passes : examined (version_of l) bytes ≡ Ok tt
  pub unknown : Unknown l journal bytes
  pub full : (capacity ≤ l.booked) ⊎ (length journal < place_of (version_of l) l.booked + record_size (version_of l))

-- what each decision on a proposal means
pub data Proposed (l : Ledger) (journal bytes : List ℕ) : Decision → Type 0 where
  insane : (Sane l → ⊥) → Proposed l journal bytes (refusing BadSettings)
  failed : (why : Refusal) → Sane l → examined (version_of l) bytes ≡ Err why → Proposed l journal bytes (refusing why)
  known : (k : ℕ) → KnownAt l journal bytes k → Proposed l journal bytes (answering k)
  new : NewAt l journal bytes → Proposed l journal bytes (record { outcome = Ok l.booked; change = Book })
  full : FullAt l journal bytes → Proposed l journal bytes (refusing Full)

-- ---- checks 11 to 14, at entry i, by creators and consumers
module _ (job : ℕ → Job) (booked : ℕ) where
  abbrev pub NotCreatedAt : JobSet → Job → ℕ → Type 0
  NotCreatedAt held j i = (i < 4) × (Used j i × (Creator job booked held (record { label = label_of j i; frames = frames_of j i }) → ⊥))

  abbrev pub ConsumedAt : JobSet → Job → ℕ → Type 0
  ConsumedAt set j i = (i < 4) × (Used j i × Consumer job booked set (label_of j i))

  abbrev pub RemadeAt : JobSet → JobSet → Job → ℕ → Type 0
  RemadeAt held others j i = (4 ≤ i) × (Used j i × (Maker job booked held (label_of j i) ⊎ Maker job booked others (label_of j i)))

  -- what each answer of checks 11 to 14 means: the first check that fails, at the first entry that offends
  pub data Admission (held others : JobSet) (j : Job) : Verdict → Type 0 where
    admitted : Nowhere (NotCreatedAt held j) → Nowhere (ConsumedAt held j) → Nowhere (ConsumedAt others j) → Nowhere (RemadeAt held others j)
        → Admission held others j (Ok tt)
    missing : (e : ℕ) → Least 8 (NotCreatedAt held j) e → Admission held others j (Err (NotCreated e))
    consumed : (e : ℕ) → Nowhere (NotCreatedAt held j) → Least 8 (ConsumedAt held j) e → Admission held others j (Err (Retired e))
    reserved : (e : ℕ) → Nowhere (NotCreatedAt held j) → Nowhere (ConsumedAt held j) → Least 8 (ConsumedAt others j) e
        → Admission held others j (Err (InputReserved e))
    remade : (e : ℕ) → Nowhere (NotCreatedAt held j) → Nowhere (ConsumedAt held j) → Nowhere (ConsumedAt others j) → Least 8 (RemadeAt held others j) e
        → Admission held others j (Err (OutputReserved e))

-- ---- kind 6, by vaults: n − b of them have signed the job, or have acknowledged it
abbrev pub Quorum : Settings → ℕ → Type 0
Quorum s votes = AtLeast (threshold_of s) votes

pub data Status (s : Settings) (votes : Votes) : ℕ → Type 0 where
  uncertified : (Quorum s votes.acknowledgements → ⊥) → (Quorum s votes.signatures → ⊥) → Status s votes 0
  certified : (Quorum s votes.acknowledgements → ⊥) → Quorum s votes.signatures → Status s votes 1
  finished : Quorum s votes.acknowledgements → Status s votes 2

-- ---- kind 10, by jobs: the vault holds the other, which is a rival. "Two different jobs are rivals if they share an input label or an output label."
pub record Supersedes (state : Vault) (version : ℕ) (journal : List ℕ) (booked job rival : ℕ) : Type 0 where
  pub different : job ≢ rival
  pub held : job_has state.held rival ≡ true
  pub shares : Conflicting (job_at version journal booked job) (job_at version journal booked rival)

-- what each answer of checks 4, of the rival, 19 and 20 means
pub data Supersession (state : Vault) (version : ℕ) (journal : List ℕ) (booked job rival : ℕ) : Verdict → Type 0 where
  unbooked : (Booked version journal booked rival → ⊥) → Supersession state version journal booked job rival (Err NotBooked)
  unsigned : Booked version journal booked rival → job_has state.signed job ≡ false → Supersession state version journal booked job rival (Err NotSignedHere)
  standing : Booked version journal booked rival → job_has state.signed job ≡ true → (Supersedes state version journal booked job rival → ⊥)
      → Supersession state version journal booked job rival (Err NotSuperseded)
  superseded : Booked version journal booked rival → job_has state.signed job ≡ true → Supersedes state version journal booked job rival
      → Supersession state version journal booked job rival (Ok tt)
