-- Demand 2: a correct vault signs where the rules allow it, and only there. Wherever a list of steps has led: preflight and commit are answered 0 exactly where
-- the paper's Algorithms 1 and 2 accept, with document 01's mends; a step that is answered 0 leaves what its kind says, nothing else, and is answered with
-- what is then recorded; and no other step makes a correct vault sign, hold or acknowledge. The only premise is that the settings are lawful.
use Rattle.std.specs.Prelude.{Bool, false, not, true, List, [], ◌++◌, ◌∷◌, ◌≢◌, ◌⊎◌, ◌≡◌, ◌<◌, ◌≤◌, suc, ℕ, get_or, length, Ok}
use Rattle.base.specs.Reflect.{Reflects}
use Rattle.codec.specs.Codec.{place_of}
use Rattle.job_sets.specs.Jobs.{job_count, job_has, job_without}
use Rattle.federation.specs.Federation.{Lawful}
use Rattle.quota.specs.Quota.{remembered}
use Rattle.vaults.specs.declared.Column.{Column}
use Rattle.vaults.specs.declared.Column.TheVariants.{Acknowledgements, Signatures}
use Rattle.ledger.specs.Demand3.{Correct, age_at, booked_job, records_in}
use Rattle.ledger.specs.Graph.{Algorithm1, Algorithm2}
use Rattle.ledger.specs.Meaning.{Status}
use Rattle.ledger.specs.Parts.{Arrival, Goes, Joins, Only, has_held, has_signed, has_voted, held, histories, order, records, round, signed, votes, votes_on}
use Rattle.ledger.specs.Register.{is_done}
use Rattle.ledger.specs.State.{arrived, history_at, signers_of, vault_at, version_of, votes_at}
use Rattle.ledger.specs.Worlds.{Event, Request, World, after, after_all, client_preflight, commit, dependencies, equivocating, faulty_vote, generations}
use Rattle.ledger.specs.Worlds.{lend, preflight, propose, release, reply_to, show, snapshot, start}

-- ---- when a preflight and a commit are answered 0

-- the vault is correct, the job is booked, and the journal that is lent holds all records
pub record InPlace (w : World) (size : ℕ) (beyond : List ℕ) (v k : ℕ) : Type 0 where
  pub correct : Correct w.ledger.settings v
  pub booked : k < w.ledger.booked
  pub whole : place_of (version_of w.ledger) w.ledger.booked ≤ length (lend w.booked size beyond)

-- the step is answered 0
abbrev pub accepts : World → ℕ → List ℕ → Request → Bool
accepts w size beyond q = is_done (reply_to w (record { request = q; size = size; beyond = beyond })).outcome

-- Algorithm 1 at the vault, over the jobs that it holds and the others that it signed
abbrev pub MaySign : World → ℕ → ℕ → Type 0
MaySign w v k =
    Algorithm1 (booked_job w) w.ledger.booked (vault_at w.ledger v).held (job_without (vault_at w.ledger v).signed k) (booked_job w k)

-- mend: "A job signed here before is accepted again"; otherwise Algorithm 1 decides
abbrev pub Signs : World → ℕ → ℕ → Type 0
Signs w v k = (has_signed w v k ≡ true) ⊎ MaySign w v k

-- Algorithm 2, over the recorded signatures of the job
abbrev pub MayHold : World → ℕ → ℕ → Type 0
MayHold w k signers = Algorithm2 w.ledger.settings (signers_of w.ledger k) signers (booked_job w k)

pub record Obeys (w : World) (size : ℕ) (beyond : List ℕ) (v k : ℕ) : Type 0 where
  pub signs : Reflects (accepts w size beyond (preflight v k)) (Signs w v k)
  pub commits : (signers : ℕ) → Reflects (accepts w size beyond (commit v k signers)) (MayHold w k signers)

-- ---- what each kind leaves where it is answered 0, and its value: from the world w to the world w'

-- these bytes are booked under the number
abbrev pub Numbered : World → List ℕ → ℕ → Type 0
Numbered w bytes k = (k < w.ledger.booked) × (get_or (records_in (version_of w.ledger) w.ledger.booked w.booked) k [] ≡ bytes)

module _ (w w' : World) where
  -- kind 1. "Proposing a booked record again returns its number."
  pub record Repeats (bytes : List ℕ) (answer : ℕ) : Type 0 where
    pub numbered : Numbered w bytes answer
    pub same : w' ≡ w

  -- a record that is not booked comes after the others, under the next number
  pub record Appends (bytes : List ℕ) (answer : ℕ) : Type 0 where
    pub new : (k : ℕ) → Numbered w bytes k → ⊥
    pub count : w'.ledger.booked ≡ suc w.ledger.booked
    pub appended : w'.booked ≡ w.booked ++ bytes
    pub only : Only (records ∷ []) w w'
    pub value : answer ≡ w.ledger.booked

  -- kind 2, Algorithm 1: "mark In(t) as tentatively consumed; return σ_r(t)". "2 and 4 the job's signatures afterwards".
  pub record ByPreflight (v k answer : ℕ) : Type 0 where
    pub signs : Joins (has_signed w) (has_signed w') v k
    pub recorded : Joins (has_voted w Signatures) (has_voted w' Signatures) v k
    pub only : Only (signed ∷ votes Signatures ∷ []) w w'
    -- "accepted again and changes nothing"
    pub again : has_signed w v k ≡ true → w' ≡ w
    pub value : answer ≡ votes_on w' Signatures k

  -- kind 3, Algorithm 2: "append t to G_r .. durably; return ack". "3 and 5 its acknowledgements". No signed set is among what moves: a mend, "signing is
  -- kept".
  pub record ByCommit (v k answer : ℕ) : Type 0 where
    pub holds : Joins (has_held w) (has_held w') v k
    pub recorded : Joins (has_voted w Acknowledgements) (has_voted w' Acknowledgements) v k
    pub arrives : Arrival (arrived w.ledger) (arrived w'.ledger) k
    pub only : Only (held ∷ votes Acknowledgements ∷ order ∷ []) w w'
    -- "if t ∈ T_{G_r} then return ack; // idempotent"
    pub again : has_held w v k ≡ true → w' ≡ w
    pub value : answer ≡ votes_on w' Acknowledgements k

  -- kinds 4 and 5: "A faulty vault may sign or acknowledge any booked job"
  pub record ByFaultyVote (column : Column) (v k answer : ℕ) : Type 0 where
    pub recorded : Joins (has_voted w column) (has_voted w' column) v k
    pub only : Only (votes column ∷ []) w w'
    pub value : answer ≡ votes_on w' column k

  -- kind 6: "0 open, 1 certified, 2 finished"
  pub record ByShow (k answer : ℕ) : Type 0 where
    pub same : w' ≡ w
    pub value : Status w.ledger.settings (votes_at w.ledger k) answer

  -- kind 8: the generations of the job, which Demand3.antt says by its creators
  pub record ByGenerations (k answer : ℕ) : Type 0 where
    pub same : w' ≡ w
    pub value : answer ≡ age_at w k

  -- kind 9 (M-101): "visits the next vault, beginning at 0, and sees the jobs held there; a step that comes to a faulty vault adds no job"
  pub record BySnapshot (answer : ℕ) : Type 0 where
    pub kept : (k : ℕ) → w.ledger.next ≢ 0 → job_has w.ledger.seen k ≡ true → job_has w'.ledger.seen k ≡ true
    pub seen : (k : ℕ) → Correct w.ledger.settings w.ledger.next → has_held w w.ledger.next k ≡ true → job_has w'.ledger.seen k ≡ true
    -- a visit to vault 0 begins a round, with no job seen before
    pub genuine : (k : ℕ) → job_has w'.ledger.seen k ≡ true
        → ((w.ledger.next ≢ 0) × (job_has w.ledger.seen k ≡ true))
        ⊎ (Correct w.ledger.settings w.ledger.next × (has_held w w.ledger.next k ≡ true))
    pub next : suc w.ledger.next < w.ledger.settings.n → w'.ledger.next ≡ suc w.ledger.next
    -- "After the last vault the following such step begins anew."
    pub anew : suc w.ledger.next ≡ w.ledger.settings.n → w'.ledger.next ≡ 0
    pub only : Only (round ∷ []) w w'
    -- "the number of different jobs seen in this round"
    pub value : answer ≡ job_count w'.ledger.seen

  -- kind 10 (M-105): "takes the job from the signed set". "The signature already given stays valid and keeps its count." "The value is the job's signature
  -- count."
  pub record ByRelease (v k answer : ℕ) : Type 0 where
    pub was : has_signed w v k ≡ true
    pub unsigned : Goes (has_signed w) (has_signed w') v k
    pub only : Only (signed ∷ []) w w'
    pub value : answer ≡ votes_on w' Signatures k

  -- kind 12 (M-109): as kind 2, and one entry more in the client's history at the vault, whether it brought a new signature
  pub record ByClientPreflight (v k client answer : ℕ) : Type 0 where
    pub signs : Joins (has_signed w) (has_signed w') v k
    pub recorded : Joins (has_voted w Signatures) (has_voted w' Signatures) v k
    pub counted : history_at w'.ledger v client ≡ remembered (history_at w.ledger v client) (not (has_signed w v k))
    pub others : (u c : ℕ) → u < w.ledger.settings.n → c < 8 → (u ≢ v) ⊎ (c ≢ client) → history_at w'.ledger u c ≡ history_at w.ledger u c
    pub only : Only (signed ∷ votes Signatures ∷ histories ∷ []) w w'
    pub again : has_signed w v k ≡ true → Only (histories ∷ []) w w'
    pub value : answer ≡ votes_on w' Signatures k

  -- kind by kind. Kinds 11 and 13 leave all as it was too; what they list has pages of its own, Dependencies.antt and Equivocators.antt
  abbrev pub Leaves : Request → ℕ → Type 0
  Leaves (propose bytes) value = Repeats bytes value ⊎ Appends bytes value
  Leaves (preflight v k) value = ByPreflight v k value
  Leaves (commit v k signers) value = ByCommit v k value
  Leaves (faulty_vote column v k) value = ByFaultyVote column v k value
  Leaves (show k) value = ByShow k value
  Leaves (generations k) value = ByGenerations k value
  Leaves snapshot value = BySnapshot value
  Leaves (release v k rival) value = ByRelease v k value
  Leaves (dependencies v k) value = w' ≡ w
  Leaves (client_preflight v k client) value = ByClientPreflight v k client value
  Leaves equivocating value = w' ≡ w

-- ---- "and only there"

-- the step asks the vault to sign the job
pub data AsksToSign (v k : ℕ) : Request → Type 0 where
  plainly : AsksToSign v k (preflight v k)
  for_client : (client : ℕ) → AsksToSign v k (client_preflight v k client)

-- the step asked the vault to sign the job, and Algorithm 1 allowed it
pub record SignsBy (w : World) (q : Request) (v k : ℕ) : Type 0 where
  pub asked : AsksToSign v k q
  pub allowed : MaySign w v k

-- the step asked the vault to hold the job, and Algorithm 2 allowed it
pub record HoldsBy (w : World) (q : Request) (v k : ℕ) : Type 0 where
  pub signers : ℕ
  pub asked : q ≡ commit v k signers
  pub allowed : MayHold w k signers

-- of a correct vault: what is so after the step and was not before
pub record OnlyThen (w w' : World) (q : Request) (v k : ℕ) : Type 0 where
  pub signs : has_signed w v k ≡ false → has_signed w' v k ≡ true → SignsBy w q v k
  pub signature : has_voted w Signatures v k ≡ false → has_voted w' Signatures v k ≡ true → SignsBy w q v k
  pub holds : has_held w v k ≡ false → has_held w' v k ≡ true → HoldsBy w q v k
  pub acknowledgement : has_voted w Acknowledgements v k ≡ false → has_voted w' Acknowledgements v k ≡ true → HoldsBy w q v k

-- ---- the demand, of a world
pub record Rules (w : World) : Type 0 where
  pub when : (size : ℕ) (beyond : List ℕ) (v k : ℕ) → InPlace w size beyond v k → Obeys w size beyond v k
  pub leaves : (e : Event) (value : ℕ) → (reply_to w e).outcome ≡ Ok value → Leaves w (after w e) e.request value
  pub only_then : (e : Event) (v k : ℕ) → Correct w.ledger.settings v → OnlyThen w (after w e) e.request v k
  -- a correct vault has acknowledged what it holds, and nothing else
  pub acknowledged : (v k : ℕ) → Correct w.ledger.settings v → has_voted w Acknowledgements v k ≡ has_held w v k

-- wherever a list of steps has led
abbrev pub Demand2 : Type 0
Demand2 =
    (n b faulty version : ℕ) → Lawful (record { n = n; b = b; faulty = faulty; version = version }) → (es : List Event)
    → Rules (after_all (start n b faulty version) es)
