-- Demand 3: after any list of steps, with any arguments and any lent journal, the jobs held by correct vaults are exactly those that the
-- single register has taken; the register never stops; frames standing and frames trimmed equal frames accessioned. The only premise is that the
-- settings are lawful.
use Rattle.std.specs.Prelude.{false, not, true, List, [], ◌++◌, ◌∷◌, ◌≢◌, ◌≡◌, ◌+◌, ◌<◌, ◌≤◌, suc, zero, ℕ, eqb, drop, length, take, Ok}
use Rattle.std.specs.Int.Count.{ones}
use Rattle.base.specs.Lists.{Distinct, In, any_in, keep_if, total}
use Rattle.outcome.specs.Figures.{number_of, Outcome}
use Rattle.checks.specs.Checks.{examined}
use Rattle.codec.specs.Codec.{record_size}
use Rattle.conflicts.specs.Tapes.{frames_in, input_tapes, labels, output_tapes}
use Rattle.record.specs.declared.Entry.{Entry}
use Rattle.record.specs.declared.Job.{Job}
use Rattle.sets.specs.Bits.{has_bit}
use Rattle.job_sets.specs.Jobs.{job_has}
use Rattle.federation.specs.Federation.{Lawful, threshold_of}
use Rattle.generations.specs.Generations.{age_in}
use Rattle.ledger.specs.Register.{Register, accession_of, feed_all, log, new_register, tabled}
use Rattle.ledger.specs.State.{arrived, acknowledgers_of, signers_of, vault_at, version_of}
use Rattle.ledger.specs.Worlds.{Event, World, after_all, outcomes, start}
use Rattle.ledger.specs.declared.Ledger.{Ledger}
use Rattle.federation.specs.declared.Settings.{Settings}

-- "The others are sound": a vault below n that the faulty set does not name
pub record Correct (s : Settings) (v : ℕ) : Type 0 where
  pub below : v < s.n
  pub sound : has_bit s.faulty v ≡ false

-- the vault is correct and holds the job
pub record HeldBy (l : Ledger) (k v : ℕ) : Type 0 where
  pub correct : Correct l.settings v
  pub held : job_has (vault_at l v).held k ≡ true

-- some correct vault holds the job
pub record Held (l : Ledger) (k : ℕ) : Type 0 where
  pub vault : ℕ
  pub by : HeldBy l k vault

-- the booked records, a list of each one's bytes
unfoldable pub records_in : ℕ → ℕ → List ℕ → List (List ℕ)
records_in version zero bytes = []
records_in version (suc n) bytes = take (record_size version) bytes ∷ records_in version n (drop (record_size version) bytes)

-- ---- along the arrival order: "a tape stands once a job has made it and until one retires its label"
abbrev pub retire : Job → List Entry → List Entry
retire j standing = keep_if (λ t. not (any_in (eqb t.label) (labels (input_tapes j)))) standing

abbrev pub standing_from : (ℕ → Job) → List Entry → List ℕ → List Entry
standing_from job standing [] = standing
standing_from job standing (k ∷ ks) = standing_from job (retire (job k) standing ++ output_tapes (job k)) ks

abbrev pub standing_along : (ℕ → Job) → List ℕ → List Entry
standing_along job ks = standing_from job [] ks

-- "Frames accessioned are the output frames of the accessions along it, each job counted once"
abbrev pub accessioned_along : (ℕ → Job) → List ℕ → ℕ
accessioned_along job ks = total (λ k. accession_of (job k)) ks

-- "frames trimmed by the jobs in arrival order" (M-102)
abbrev pub trimmed_along : (ℕ → Job) → List ℕ → ℕ
trimmed_along job ks = total (λ k. (job k).trimmed) ks

-- "their labels are made": the output labels along it
abbrev pub made_along : (ℕ → Job) → List ℕ → List ℕ
made_along job [] = []
made_along job (k ∷ ks) = labels (output_tapes (job k)) ++ made_along job ks

-- the job k of the list made the tape, and stands before the job m in it
pub record MadeBefore (job : ℕ → Job) (ks : List ℕ) (m : ℕ) (t : Entry) (k : ℕ) : Type 0 where
  pub earlier : List ℕ
  pub later : List ℕ
  pub split : ks ≡ earlier ++ (m ∷ later)
  pub before : In k earlier
  pub makes : In t (output_tapes (job k))

-- exactly one job of the list made the tape, and it stands before m
pub record OneCreator (job : ℕ → Job) (ks : List ℕ) (m : ℕ) (t : Entry) : Type 0 where
  pub creator : ℕ
  pub made : MadeBefore job ks m t creator
  pub only : (k : ℕ) → In k ks → In t (output_tapes (job k)) → k ≡ creator

-- where the job k comes after the earlier ones: its input tapes stand among what they left, label and frames, and they made none of its output labels
pub record InTurn (job : ℕ → Job) (earlier : List ℕ) (k : ℕ) : Type 0 where
  pub stand : (t : Entry) → In t (input_tapes (job k)) → In t (standing_along job earlier)
  pub unmade : (x : ℕ) → In x (labels (output_tapes (job k))) → In x (made_along job earlier) → ⊥

-- the job booked under a number
abbrev pub booked_job : World → ℕ → Job
booked_job w k = tabled (records_in (version_of w.ledger) w.ledger.booked w.booked) k

-- ---- the statement: of the world and the register at the end
pub record SingleRegister (w : World) (r : Register) : Type 0 where
  -- the jobs that correct vaults hold are exactly those that the register has taken, by number
  pub taken_held : (k : ℕ) → In k r.taken → Held w.ledger k
  pub held_taken : (k : ℕ) → Held w.ledger k → In k r.taken
  -- and by record
  pub table : r.table ≡ records_in (version_of w.ledger) w.ledger.booked w.booked
  -- "the register never stops"
  pub running : r.running ≡ true
  -- "frames standing plus frames trimmed by the jobs in arrival order equal frames accessioned" (M-102)
  pub frames_along : frames_in (standing_along (booked_job w) (arrived w.ledger)) + trimmed_along (booked_job w) (arrived w.ledger)
      ≡ accessioned_along (booked_job w) (arrived w.ledger)

-- what holds besides, of the settings at the start too
pub record Besides (s : Settings) (w : World) (r : Register) : Type 0 where
  -- no step changes the settings
  pub settings : w.ledger.settings ≡ s
  -- the register's list is the arrival order, "each job counted once"
  pub taken : r.taken ≡ arrived w.ledger
  pub once : Distinct r.taken
  pub known : (k : ℕ) → In k r.taken → k < length r.table
  -- no record is booked twice, and each passes checks 6 to 9
  pub records_once : Distinct r.table
  pub checked : (bytes : List ℕ) → In bytes r.table → examined (version_of w.ledger) bytes ≡ Ok tt
  -- along the arrival order, wherever it is cut: each job finds its inputs standing and its output labels unmade
  pub in_turn : (earlier later : List ℕ) (k : ℕ) → arrived w.ledger ≡ earlier ++ (k ∷ later) → InTurn (booked_job w) earlier k
  -- the tapes standing, the labels made and the frames accessioned are those that are defined along it
  pub standing : r.standing ≡ standing_along (tabled r.table) (arrived w.ledger)
  pub made : r.made ≡ made_along (tabled r.table) (arrived w.ledger)
  pub accessioned : r.accessioned ≡ accessioned_along (tabled r.table) (arrived w.ledger)
  -- so the sum is right of what the register keeps
  pub frames : frames_in r.standing + trimmed_along (tabled r.table) r.taken ≡ r.accessioned
  -- generations rest on it
  pub creators : (k : ℕ) → In k r.taken → (t : Entry) → In t (input_tapes (tabled r.table k)) → OneCreator (tabled r.table) r.taken k t
  -- a finished job is certified
  pub certified : (k : ℕ) → threshold_of w.ledger.settings ≤ ones (acknowledgers_of w.ledger k)
      → threshold_of w.ledger.settings ≤ ones (signers_of w.ledger k)

abbrev pub Demand3 : Type 0
Demand3 =
    (n b faulty version : ℕ) → Lawful (record { n = n; b = b; faulty = faulty; version = version }) → (es : List Event)
    → let w = after_all (start n b faulty version) es in
    let r = feed_all (new_register version) (log (start n b faulty version) es) in
    SingleRegister w r
    × Besides (record { n = n; b = b; faulty = faulty; version = version }) w r
    × ((o : Outcome) → In o (outcomes (start n b faulty version) es) → number_of o ≡ 1 → ⊥)

-- of a list over version 1 records, which trim nothing: "frames standing equal frames accessioned", along the arrival order and of what the register keeps
abbrev pub FirstVersion : Type 0
FirstVersion =
    (n b faulty : ℕ) → Lawful (record { n = n; b = b; faulty = faulty; version = 1 }) → (es : List Event)
    → let w = after_all (start n b faulty 1) es in
    let r = feed_all (new_register 1) (log (start n b faulty 1) es) in
    (frames_in (standing_along (booked_job w) (arrived w.ledger)) ≡ accessioned_along (booked_job w) (arrived w.ledger))
    × (frames_in r.standing ≡ r.accessioned)

-- ---- for readers

-- no input label in common, and no output label in common
pub record Apart (a c : Job) : Type 0 where
  pub inputs : (x : ℕ) → In x (labels (input_tapes a)) → In x (labels (input_tapes c)) → ⊥
  pub outputs : (x : ℕ) → In x (labels (output_tapes a)) → In x (labels (output_tapes c)) → ⊥

-- no two jobs that correct vaults hold, be it different vaults, retire the same label or make the same label
abbrev pub Disjoint : Type 0
Disjoint =
    (n b faulty version : ℕ) → Lawful (record { n = n; b = b; faulty = faulty; version = version }) → (es : List Event)
    → (i k : ℕ) → Held (after_all (start n b faulty version) es).ledger i → Held (after_all (start n b faulty version) es).ledger k → i ≢ k
    → Apart (booked_job (after_all (start n b faulty version) es) i) (booked_job (after_all (start n b faulty version) es) k)

-- the generations of a taken job, by the creators that demand 3 speaks of
pub record ByCreators (job : ℕ → Job) (ks : List ℕ) (age : ℕ → ℕ) (k : ℕ) : Type 0 where
  -- "0 for an accession"
  pub accession : ((t : Entry) → In t (input_tapes (job k)) → ⊥) → age k ≡ 0
  -- "else one more than the largest among the jobs that created its inputs": one of them is reached, and none has more
  pub reached : (t : Entry) → In t (input_tapes (job k))
      → (s : Entry) × (In s (input_tapes (job k)) × ((c : OneCreator job ks k s) × (age k ≡ suc (age c.creator))))
  pub above : (t : Entry) → In t (input_tapes (job k)) → (c : OneCreator job ks k t) → age c.creator < age k

-- what kind 8 answers of a job
abbrev pub age_at : World → ℕ → ℕ
age_at w = age_in (booked_job w) w.ledger.order w.ledger.arrivals

abbrev pub GenerationsByCreators : Type 0
GenerationsByCreators =
    (n b faulty version : ℕ) → Lawful (record { n = n; b = b; faulty = faulty; version = version }) → (es : List Event)
    → (k : ℕ) → Held (after_all (start n b faulty version) es).ledger k
    → ByCreators (booked_job (after_all (start n b faulty version) es)) (arrived (after_all (start n b faulty version) es).ledger)
    (age_at (after_all (start n b faulty version) es)) k
