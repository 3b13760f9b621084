-- Jobs that share no input label and no output label may go either way (document 02, M-107): statements about the single register alone, of
-- which every register of demand 3 is one. The paper's condition, which does not name outputs in common, stands beside them; a pair for which the law fails
-- by it is in crates/instances/specs/OneLabel.antt.
use Rattle.std.specs.Prelude.{true, List, [], map, ◌≢◌, ◌↔◌, ◌≡◌, ◌<◌, ℕ, get_or, length}
use Rattle.base.specs.Lists.{Distinct, In}
use Rattle.conflicts.specs.Tapes.{frames_in, input_tapes, labels, output_tapes}
use Rattle.record.specs.declared.Job.{Job}
use Rattle.federation.specs.Federation.{Lawful}
use Rattle.ledger.specs.Demand3.{Apart, trimmed_along}
use Rattle.ledger.specs.Register.{Fed, Register, feed, feed_all, is_admissible, log, new_register, tabled, taking}
use Rattle.ledger.specs.Worlds.{Event, commit, start}

-- "a register reached by admissible jobs": it was fed any requests with any answers, and still runs
pub record Reached (r : Register) : Type 0 where
  pub version : ℕ
  pub fed : List Fed
  pub leads : feed_all (new_register version) fed ≡ r
  pub running : r.running ≡ true

-- the register of demand 3 is one, wherever a list of steps has led
abbrev pub ReachedByLists : Type 0
ReachedByLists =
    (n b faulty version : ℕ) → Lawful (record { n = n; b = b; faulty = faulty; version = version }) → (es : List Event)
    → Reached (feed_all (new_register version) (log (start n b faulty version) es))

-- "both admissible now"
pub record Eligible (r : Register) (k : ℕ) : Type 0 where
  pub known : k < length r.table
  pub admissible : is_admissible r (get_or r.table k []) ≡ true

-- ---- the same, "as sets"

-- the same elements, and none stands twice
pub record SameSet {A : Type 0} (l m : List A) : Type 0 where
  pub once : Distinct l
  pub once' : Distinct m
  pub same : (x : A) → In x l ↔ In x m

-- "the same jobs and standing tapes, as sets, and the same frames"; both registers run
pub record Alike (r s : Register) : Type 0 where
  pub runs : r.running ≡ true
  pub runs' : s.running ≡ true
  pub version : r.version ≡ s.version
  pub table : r.table ≡ s.table
  pub taken : SameSet r.taken s.taken
  pub standing : SameSet r.standing s.standing
  pub made : SameSet r.made s.made
  pub accessioned : r.accessioned ≡ s.accessioned
  pub frames : frames_in r.standing ≡ frames_in s.standing
  pub trimmed : trimmed_along (tabled r.table) r.taken ≡ trimmed_along (tabled s.table) s.taken

-- what a register says depends on which jobs it has taken, not on their order
abbrev pub OrderForgotten : Type 0
OrderForgotten =
    (r s : Register) → Reached r → Reached s → r.version ≡ s.version → r.table ≡ s.table → ((k : ℕ) → In k r.taken ↔ In k s.taken) → Alike r s

-- ---- two jobs

-- "causally independent transactions — pairs (t_i, t_j) with In(t_i) ∩ In(t_j) = ∅, Out(t_i) ∩ In(t_j) = ∅, and Out(t_j) ∩ In(t_i) = ∅"
-- (paper 2.4, after Definition 2). Its commitments are tapes; that no label is in common is stricter than that no tape is.
pub record CausallyIndependent (a c : Job) : Type 0 where
  pub in_in : (x : ℕ) → In x (labels (input_tapes a)) → In x (labels (input_tapes c)) → ⊥
  pub out_in : (x : ℕ) → In x (labels (output_tapes a)) → In x (labels (input_tapes c)) → ⊥
  pub in_out : (x : ℕ) → In x (labels (output_tapes c)) → In x (labels (input_tapes a)) → ⊥

pub record EitherWay (r : Register) (i k : ℕ) : Type 0 where
  -- "each is admissible after the other"
  pub second : Eligible (taking r i) k
  pub first : Eligible (taking r k) i
  -- "both orders end with the same jobs and standing tapes, as sets, and the same frames"
  pub alike : Alike (taking (taking r i) k) (taking (taking r k) i)
  -- this is no premise: neither makes what the other takes, since an input stands, so its label is made, and an output's label is new
  pub independent : CausallyIndependent (tabled r.table i) (tabled r.table k)

-- "two different jobs that are both admissible now", and meet the condition
abbrev pub CommutingIf : (Job → Job → Type 0) → Type 0
CommutingIf Condition =
    (r : Register) → Reached r → (i k : ℕ) → i ≢ k → Eligible r i → Eligible r k → Condition (tabled r.table i) (tabled r.table k) → EitherWay r i k

-- "share no input and no output label"
abbrev pub Commuting : Type 0
Commuting = CommutingIf Apart

-- that they are different need not be asked then: a job makes a tape, so one that shares no output label with it is another
abbrev pub ApartDiffer : Type 0
ApartDiffer = (r : Register) → Reached r → (i k : ℕ) → Eligible r i → Apart (tabled r.table i) (tabled r.table k) → i ≢ k

-- two commits answered 0, at any vaults and with any signers, as the register is fed them
abbrev pub CommitsCommute : Type 0
CommitsCommute =
    (r : Register) → Reached r → (i k : ℕ) → Eligible r i → Eligible r k → Apart (tabled r.table i) (tabled r.table k)
    → (v w signers signers' : ℕ)
    → Alike (feed (feed r (commit v i signers) true) (commit w k signers') true) (feed (feed r (commit w k signers') true) (commit v i signers) true)

-- ---- a batch

-- a commit that was answered 0
pub record Commit : Type 0 where
  pub vault : ℕ
  pub job : ℕ
  pub signers : ℕ

abbrev pub fed_as : Commit → Fed
fed_as c = record { request = commit c.vault c.job c.signers; done = true }

abbrev pub jobs_of : List Commit → List ℕ
jobs_of cs = map (λ (c : Commit). c.job) cs

-- the jobs are all admissible now, and no two of them touch
pub record Batch (r : Register) (ks : List ℕ) : Type 0 where
  pub ready : (k : ℕ) → In k ks → Eligible r k
  pub apart : (i k : ℕ) → In i ks → In k ks → i ≢ k → Apart (tabled r.table i) (tabled r.table k)

pub record AnyOrder (r : Register) (cs ds : List Commit) : Type 0 where
  pub alike : Alike (feed_all r (map fed_as cs)) (feed_all r (map fed_as ds))
  pub taken : (k : ℕ) → In k (jobs_of cs) → In k (feed_all r (map fed_as cs)).taken

-- commits of the same jobs, in any order and each as often as there are vaults to ask
abbrev pub BatchesCommute : Type 0
BatchesCommute =
    (r : Register) → Reached r → (cs ds : List Commit) → Batch r (jobs_of cs) → ((k : ℕ) → In k (jobs_of cs) ↔ In k (jobs_of ds)) → AnyOrder r cs ds
