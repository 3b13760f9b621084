-- Demand 1: a step in its place is carried out, and every other one gets the first refusal that matches, in document 01's order of checks. To be laid beside
-- document 01's "Turned back" and "Order" and document 02's M-101, M-105, M-108, M-109 and M-113: `order` has a clause for each kind, "where this claim holds,
-- this refusal, else ..", with both figures that are printed, up to what is answered where every check passes. Nothing in a claim searches: it says what there
-- is. Kind 7, which asks nothing of a ledger, and refusals 1 and 2 of a run file stand in `runfile`'s page of the same name.
-- That every step ends is no theorem: a step is a function of the ledger, the journal and the request, and each function of specs/ is total, as is the code
-- that is held to it.
use Rattle.std.specs.Prelude.{false, true, List, [], ◌⊎◌, ◌≡◌, ◌+◌, ◌-◌, ◌<◌, ◌≤◌, ℕ, length, take, Err}
use Rattle.std.specs.Int.Count.{ones}
use Rattle.base.specs.Reflect.{Reflects}
use Rattle.base.specs.Search.{Every, Least, Some}
use Rattle.checks.specs.Meaning.{Balanced, RepeatedAt, UnsupportedAt, WellFormed, takes}
use Rattle.codec.specs.Codec.{job_of, place_of, record_size}
use Rattle.conflicts.specs.Meaning.{Rivals}
use Rattle.federation.specs.Federation.{Lawful}
use Rattle.job_sets.specs.Jobs.{InWords, job_count, job_has, job_without}
use Rattle.job_sets.specs.declared.job_set.JobSet.{JobSet}
use Rattle.journal.specs.Journal.{slot_at}
use Rattle.outcome.specs.Figures.{number_of, value_of}
use Rattle.outcome.specs.declared.Refusal.{Refusal}
use Rattle.quota.specs.Asks.{Ask, news}
use Rattle.record.specs.Meaning.{Label}
use Rattle.sets.specs.Bits.{has_bit}
use Rattle.sets.specs.Quorum.{AtLeast}
use Rattle.vaults.specs.declared.Column.TheVariants.{Acknowledgements, Signatures}
use Rattle.ledger.specs.Demand3.{ByCreators, Held, booked_job}
use Rattle.ledger.specs.Dependencies.{Works}
use Rattle.ledger.specs.Equivocation.{Equivocates}
use Rattle.ledger.specs.Meaning.{ConsumedAt, NotCreatedAt, RemadeAt}
use Rattle.ledger.specs.Quota.{asked}
use Rattle.ledger.specs.Refused.{refused_ledger}
use Rattle.ledger.specs.State.{acknowledgers_of, arrived, signers_of, vault_at, version_of}
use Rattle.ledger.specs.Worlds.{Event, Request, World, after, after_all, client_preflight, commit, dependencies, equivocating, faulty_vote, generations}
use Rattle.ledger.specs.Worlds.{lent, preflight, propose, release, reply_to, show, snapshot, start}
use Rattle.ledger.specs.declared.Ledger.{Ledger}

-- ---- rows

-- a claim about the two figures of an answer: "0 or the refusal, a value"
abbrev pub CheckRow : Type 1
CheckRow = ℕ → ℕ → Type 0

-- where the claim holds this row answers, else the other
abbrev pub Where : Type 0 → CheckRow → CheckRow → CheckRow
Where Claim this rest number value = (Claim × this number value) ⊎ ((Claim → ⊥) × rest number value)

-- a check: where the claim holds, this refusal and 0
abbrev pub First : Type 0 → ℕ → CheckRow → CheckRow
First Claim refusal rest = Where Claim (λ number value. (number ≡ refusal) × (value ≡ 0)) rest

-- a check that is tried at each of so many: where the claim holds of one, this number and the first of which it holds. "Each check is tried on all its entries
-- before the next check." "The entry is the first offending one."
abbrev pub FirstAmong : ℕ → (ℕ → Type 0) → ℕ → CheckRow → CheckRow
FirstAmong many Claim this rest number value = ((number ≡ this) × Least many Claim value) ⊎ (Every many (λ i. Claim i → ⊥) × rest number value)

-- no check is left: 0, and a value of which this is so
abbrev pub Gives : (ℕ → Type 0) → CheckRow
Gives Claim number value = (number ≡ 0) × Claim value

abbrev pub Value : ℕ → CheckRow
Value v = Gives (λ value. value ≡ v)

-- ---- what the claims speak of: the ledger before a step, the ledger after it, and the journal that is lent for it

-- 15: "a named signer has not signed"
pub record Unsigned (signers recorded : ℕ) : Type 0 where
  pub vault : ℕ
  pub named : has_bit signers vault ≡ true
  pub missing : has_bit recorded vault ≡ false

module _ (w : World) (e : Event) where
  abbrev pub now : Ledger
  now = w.ledger

  abbrev pub afterwards : Ledger
  afterwards = (after w e).ledger

  abbrev pub journal : List ℕ
  journal = lent w e

  -- the record of this number lies, or would lie, "wholly inside the caller's book"
  abbrev pub Inside : ℕ → Type 0
  Inside k = place_of (version_of now) k + record_size (version_of now) ≤ length journal

  -- "some booked record .. not wholly inside the caller's book"
  abbrev pub CutShort : Type 0
  CutShort = Some now.booked (λ k. Inside k → ⊥)

  -- 4: "job not booked, or some booked record, its own or another, not wholly inside the caller's book"
  abbrev pub Unbooked : ℕ → Type 0
  Unbooked k = (now.booked ≤ k) ⊎ CutShort

  -- 3: "vault not below n"
  abbrev pub NotBelow : ℕ → Type 0
  NotBelow v = now.settings.n ≤ v

  abbrev pub Faulty : ℕ → Type 0
  Faulty v = has_bit now.settings.faulty v ≡ true

  abbrev pub NotFaulty : ℕ → Type 0
  NotFaulty v = has_bit now.settings.faulty v ≡ false

  -- 6: "record malformed", of another length too
  abbrev pub MalformedRecord : List ℕ → Type 0
  MalformedRecord bytes = (length bytes ≡ record_size (version_of now)) × WellFormed Label (job_of bytes) → ⊥

  -- "Equals are sought among the booked records that lie wholly inside the caller's book."
  abbrev pub EqualAt : List ℕ → ℕ → Type 0
  EqualAt bytes k = Inside k × (slot_at (version_of now) journal k ≡ bytes)

  -- 10: "book full: 128 records, or the caller's book too short for one more"
  abbrev pub BookFull : Type 0
  BookFull = (128 ≤ now.booked) ⊎ (Inside now.booked → ⊥)

  -- the vault's two sets, the second without the job itself: "another job signed here"
  abbrev pub held_here : ℕ → JobSet
  held_here v = (vault_at now v).held

  abbrev pub others_here : ℕ → ℕ → JobSet
  others_here v k = job_without (vault_at now v).signed k

  abbrev pub HoldsHere : ℕ → ℕ → Type 0
  HoldsHere v k = job_has (vault_at now v).held k ≡ true

  abbrev pub SignedHere : ℕ → ℕ → Type 0
  SignedHere v k = job_has (vault_at now v).signed k ≡ true

  -- 11: "input not created here"
  abbrev pub NotCreatedHere : ℕ → ℕ → ℕ → Type 0
  NotCreatedHere v k = NotCreatedAt (booked_job w) now.booked (held_here v) (booked_job w k)

  -- 12: "input retired here"
  abbrev pub RetiredHere : ℕ → ℕ → ℕ → Type 0
  RetiredHere v k = ConsumedAt (booked_job w) now.booked (held_here v) (booked_job w k)

  -- 13: "input label also in another job signed here, as an input"
  abbrev pub InputReservedHere : ℕ → ℕ → ℕ → Type 0
  InputReservedHere v k = ConsumedAt (booked_job w) now.booked (others_here v k) (booked_job w k)

  -- 14: "output label already made by a job held here, or by another signed here"
  abbrev pub OutputReservedHere : ℕ → ℕ → ℕ → Type 0
  OutputReservedHere v k = RemadeAt (booked_job w) now.booked (held_here v) (others_here v k) (booked_job w k)

  -- "A job is certified with n − b signatures, finished with n − b acknowledgements": so many vaults can be listed
  abbrev pub quorum : ℕ
  quorum = now.settings.n - now.settings.b

  abbrev pub CertifiedNow : ℕ → Type 0
  CertifiedNow k = AtLeast quorum (signers_of now k)

  abbrev pub FinishedNow : ℕ → Type 0
  FinishedNow k = AtLeast quorum (acknowledgers_of now k)

  -- 20: "the other is no rival or isn't held there"
  abbrev pub NoRivalHeld : ℕ → ℕ → ℕ → Type 0
  NoRivalHeld v k rival = (Rivals (booked_job w) k rival → ⊥) ⊎ (HoldsHere v rival → ⊥)

  -- "the job's signatures afterwards", "its acknowledgements"
  abbrev pub signatures : ℕ → ℕ
  signatures k = ones (signers_of afterwards k)

  abbrev pub acknowledgements : ℕ → ℕ
  acknowledgements k = ones (acknowledgers_of afterwards k)

  -- kind 8: figures of all jobs that correct vaults hold, each by those of the jobs that created its inputs; the value is this job's
  pub record GenerationsOf (k value : ℕ) : Type 0 where
    pub figure : ℕ → ℕ
    pub by_creators : (m : ℕ) → Held now m → ByCreators (booked_job w) (arrived now) figure m
    pub is : value ≡ figure k

  -- 21: a set that works, of jobs that correct vaults hold: with it held by this vault too, preflight accepts the job
  abbrev pub SetWorks : ℕ → ℕ → JobSet → Type 0
  SetWorks v k = Works w e.size e.beyond v k

  -- kind 11: the value is the size of the smallest. "No smaller set works, and none other of that size."
  pub record SmallestSize (v k value : ℕ) : Type 0 where
    pub jobs : JobSet
    pub works : SetWorks v k jobs
    pub smallest : (others : JobSet) → SetWorks v k others → job_count jobs ≤ job_count others
    pub only : (others : JobSet) → SetWorks v k others → job_count others ≤ job_count jobs → others ≡ jobs
    pub is : value ≡ job_count jobs

  -- kind 13: the value is how many vaults the rule names
  pub record NamedVaults (value : ℕ) : Type 0 where
    pub vaults : JobSet
    pub fits : InWords vaults
    pub each : (v : ℕ) → Reflects (job_has vaults v) ((v < now.settings.n) × Equivocates now.settings (signers_of now) (booked_job w) now.booked v)
    pub is : value ≡ job_count vaults

  -- ---- checks that kinds share

  -- "3, 5, 4" of a step for correct vaults: 5, "kinds 2, 3 at a faulty vault"
  abbrev pub AtCorrect : ℕ → ℕ → CheckRow → CheckRow
  AtCorrect v k rest = First (NotBelow v) 3 (First (Faulty v) 5 (First (Unbooked k) 4 rest))

  -- "3, 5, 4" of a step for faulty ones: 5, "4, 5 at a sound one"
  abbrev pub AtFaulty : ℕ → ℕ → CheckRow → CheckRow
  AtFaulty v k rest = First (NotBelow v) 3 (First (NotFaulty v) 5 (First (Unbooked k) 4 rest))

  -- "11 to 14"
  abbrev pub Admitted : ℕ → ℕ → CheckRow → CheckRow
  Admitted v k rest =
      FirstAmong 8 (NotCreatedHere v k) 11
      (FirstAmong 8 (RetiredHere v k) 12
      (FirstAmong 8 (InputReservedHere v k) 13
      (FirstAmong 8 (OutputReservedHere v k) 14 rest)))

  -- ---- the order; `past` has a client's counted requests at a vault, the newest first
  abbrev pub order : (ℕ → ℕ → List Ask) → Request → CheckRow
  -- "kind 1: 6 to 9, then a booked equal, then 10". 7: "a used entry's label equals an earlier used entry's". 8: "drive can't read or write it". 9: "frames
  -- don't balance". Values: "1 the job number", of the first equal, or the next one
  order past (propose bytes) =
      First (MalformedRecord bytes) 6
      (FirstAmong 8 (RepeatedAt (job_of bytes)) 7
      (FirstAmong 8 (UnsupportedAt takes (job_of bytes)) 8
      (First (Balanced (job_of bytes) → ⊥) 9
      (FirstAmong now.booked (EqualAt bytes) 0
      (First BookFull 10 (Value now.booked))))))
  -- "kind 2: 3, 5, 4, 11 to 14"; "A job signed here before is accepted again". Values: "2 and 4 the job's signatures afterwards"
  order past (preflight v k) = AtCorrect v k (Where (SignedHere v k) (Value (signatures k)) (Admitted v k (Value (signatures k))))
  -- "kind 3: 3, 5, 4, 15, 16". 16: "fewer than n − b signers". Values: "3 and 5 its acknowledgements"
  order past (commit v k signers) =
      AtCorrect v k (First (Unsigned signers (signers_of now k)) 15 (First (ones signers < quorum) 16 (Value (acknowledgements k))))
  -- "kinds 4, 5: 3, 5, 4"
  order past (faulty_vote Signatures v k) = AtFaulty v k (Value (signatures k))
  order past (faulty_vote Acknowledgements v k) = AtFaulty v k (Value (acknowledgements k))
  -- "kind 6: 4". Values: "6 gives 0 open, 1 certified, 2 finished"
  order past (show k) = First (Unbooked k) 4 (Where (FinishedNow k) (Value 2) (Where (CertifiedNow k) (Value 1) (Value 0)))
  -- "kind 8: 4, 18". 18: "no sound vault holds the job". Values: "8 generations"
  order past (generations k) = First (Unbooked k) 4 (First (Held now k → ⊥) 18 (Gives (GenerationsOf k)))
  -- M-101, kind 9: "with no check but 2"; "The value is the number of different jobs seen in this round."
  order past snapshot = Value (job_count afterwards.seen)
  -- M-105, kind 10: "3, 5 as for preflight, 4 for either job; then 19 if the job isn't signed there; then 20 if the other is no rival or isn't held there";
  -- "The value is the job's signature count."
  order past (release v k rival) =
      AtCorrect v k
      (First (Unbooked rival) 4
      (First (SignedHere v k → ⊥) 19
      (First (NoRivalHeld v k rival) 20 (Value (signatures k)))))
  -- M-108, kind 11: "3, 5, 4 as for preflight; then 21 exactly if no set works"; "the usual line with the set's size"
  order past (dependencies v k) = AtCorrect v k (First ((jobs : JobSet) → SetWorks v k jobs → ⊥) 21 (Gives (SmallestSize v k)))
  -- M-109, kind 12: "3, 5, 4 as for kind 2; then 22 if the desk is above 7; then a job already signed is accepted; then 23 if four of the desk's previous
  -- fifteen requests there brought a new signature; then 11 to 14"
  order past (client_preflight v k client) =
      AtCorrect v k
      (First (7 < client) 22
      (Where (SignedHere v k) (Value (signatures k))
      (First (4 ≤ news (take 15 (past v client))) 23 (Admitted v k (Value (signatures k))))))
  -- M-113, kind 13: "4 if some booked record isn't wholly inside the caller's book"; "the usual line with the number of vaults listed"
  order past equivocating = First CutShort 4 (Gives NamedVaults)

-- ---- the statement
abbrev pub Demand1 : Type 0
Demand1 =
    (n b faulty version : ℕ) → Lawful (record { n = n; b = b; faulty = faulty; version = version }) → (es : List Event) (e : Event)
    → let w = after_all (start n b faulty version) es in
    order w e (λ v client. asked v client (start n b faulty version) es []) e.request (number_of (reply_to w e).outcome) (value_of (reply_to w e).outcome)

-- and the row leaves nothing open: no other two figures meet it
abbrev pub OneAnswer : Type 0
OneAnswer =
    (n b faulty version : ℕ) → Lawful (record { n = n; b = b; faulty = faulty; version = version }) → (es : List Event) (e : Event) (past : ℕ → ℕ → List Ask)
    (number value number' value' : ℕ)
    → let row = order (after_all (start n b faulty version) es) e past e.request in
    row number value → row number' value' → (number ≡ number') × (value ≡ value')

-- "A refusal alters no set, book or order", and a client's history alone where the refused request counts: wherever a list has led
abbrev pub RefusedUnchanged : Type 0
RefusedUnchanged =
    (n b faulty version : ℕ) → Lawful (record { n = n; b = b; faulty = faulty; version = version }) → (es : List Event) (e : Event) (why : Refusal)
    → let w = after_all (start n b faulty version) es in
    (reply_to w e).outcome ≡ Err why → after w e ≡ record { ledger = refused_ledger w.ledger e.request why; booked = w.booked }
