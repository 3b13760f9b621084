-- What a step decides behind checks 3 to 5, from the pieces that it names: an outcome, and what it changes. A refusal changes nothing, but
-- for the history of a client whose request it was (kind 12).
use Rattle.std.specs.Prelude.{Bool, ◌&&◌, cond, false, not, true, List, ℕ, eqb, leb, ltb, Ok, Err}
use Rattle.std.specs.Int.Count.{ones}
use Rattle.outcome.specs.Figures.{Verdict}
use Rattle.outcome.specs.declared.Refusal.{Refusal}
use Rattle.outcome.specs.declared.Refusal.TheVariants.{
  Full,
  NoClient,
  NoSetWorks,
  NotBooked,
  NotHeld,
  NotSigned,
  NotSignedHere,
  NotSuperseded,
  OverQuota,
  TooFewSigners,
}
use Rattle.sets.specs.Bits.{subset_of, with_member}
use Rattle.job_sets.specs.Jobs.{job_count, job_has, job_union, job_without, no_jobs}
use Rattle.job_sets.specs.declared.job_set.JobSet.{JobSet}
use Rattle.quota.specs.Quota.{is_client, is_spent, remembered}
use Rattle.snapshot.specs.Snapshot.{seen_after}
use Rattle.federation.specs.Federation.{threshold_of}
use Rattle.federation.specs.declared.Settings.{Settings}
use Rattle.checks.specs.Checks.{examined}
use Rattle.conflicts.specs.Conflicts.{conflicting}
use Rattle.queries.specs.Admission.{admission}
use Rattle.supplies.specs.Missing.{missing_jobs}
use Rattle.journal.specs.Journal.{equal_in, has_room, inside_of, is_booked, job_at}
use Rattle.ledger.specs.declared.Change.{Change}
use Rattle.ledger.specs.declared.Change.TheVariants.{Book, Count, Grant, Hold, Nothing, Record, Release, See, Sign}
use Rattle.ledger.specs.declared.History.{History}
use Rattle.vaults.specs.declared.Consent.{Consent}
use Rattle.vaults.specs.declared.Consent.TheVariants.{Already, Denied, Fresh}
use Rattle.ledger.specs.declared.Decision.{Decision}
use Rattle.ledger.specs.declared.Listing.{Listing}
use Rattle.vaults.specs.declared.Vault.{Vault}
use Rattle.vaults.specs.declared.Votes.{Votes}
use Rattle.vaults.specs.Vaults.{holding, unsigning, vault_preflight}

-- "A refusal alters no set, book or order."
abbrev pub refusing : Refusal → Decision
refusing why = record { outcome = Err why; change = Nothing }

-- answered 0 with a value, and nothing changes
abbrev pub answering : ℕ → Decision
answering value = record { outcome = Ok value; change = Nothing }

-- a vault's vote on a job joins those of the set: "the job's signatures afterwards", or "its acknowledgements"
abbrev pub voting : ℕ → ℕ → Change → Decision
voting votes v change = record { outcome = Ok (ones (with_member 16 votes v)); change = change }

-- a row of checks, and what is decided where it passes
abbrev pub gated : Verdict → Decision → Decision
gated (Ok _) d = d
gated (Err why) d = refusing why

-- ---- kind 1, a proposal: "6 to 9, then a booked equal, then 10". The value is the job's number.
unfoldable pub placing : ℕ → ℕ → ℕ → Bool → Decision
placing equal inside booked room =
    cond (ltb equal inside) (answering equal)
    (cond room (record { outcome = Ok booked; change = Book }) (refusing Full))

unfoldable pub settling : ℕ → List ℕ → ℕ → List ℕ → Decision
settling version journal booked bytes = placing (equal_in version journal booked bytes) (inside_of version journal booked) booked (has_room version journal booked)

unfoldable pub proposal : ℕ → List ℕ → ℕ → List ℕ → Decision
proposal version journal booked bytes = gated (examined version bytes) (settling version journal booked bytes)

-- ---- kind 2, a preflight: "11 to 14"
abbrev pub consenting : Consent → Vault → ℕ → ℕ → Decision
consenting Already state signers v = answering (ones signers)
consenting Fresh state signers v = voting signers v (Sign state)
consenting (Denied why) state signers v = refusing why

-- checks 11 to 14 at a vault
unfoldable pub admission_at : Vault → ℕ → List ℕ → ℕ → ℕ → Verdict
admission_at v version journal booked k =
    admission (job_at version journal booked) booked v.held (job_without v.signed k) (job_at version journal booked k)

-- what a vault in this state decides on the verdict of checks 11 to 14
unfoldable pub consent : Vault → Verdict → ℕ → ℕ → ℕ → Decision
consent state admission signers v job =
    let answer = vault_preflight state admission job in
    consenting answer.consent answer.vault signers v

unfoldable pub preflighting : Vault → ℕ → List ℕ → ℕ → ℕ → ℕ → ℕ → Decision
preflighting state version journal booked signers v job = consent state (admission_at state version journal booked job) signers v job

-- ---- kind 3, a commit: "15, 16"

-- "If each has signed the job and there are at least n − b"
unfoldable pub certificate : Settings → ℕ → ℕ → Verdict
certificate s recorded signers =
    cond (subset_of signers recorded)
    (cond (leb (threshold_of s) (ones signers)) (Ok tt) (Err TooFewSigners))
    (Err NotSigned)

-- "the vault holds the job and its acknowledgement is recorded. Repeating changes nothing."
unfoldable pub receiving : Vault → ℕ → ℕ → ℕ → Decision
receiving state acknowledgers v job =
    cond (job_has state.held job) (answering (ones acknowledgers)) (voting acknowledgers v (Hold (holding state job)))

unfoldable pub committing : Settings → Vault → Votes → ℕ → ℕ → ℕ → Decision
committing s state votes v job signers =
    gated (certificate s votes.signatures signers) (receiving state votes.acknowledgements v job)

-- ---- kind 6: "0 open, 1 certified, 2 finished"
unfoldable pub status_of : Settings → Votes → ℕ
status_of s votes =
    cond (leb (threshold_of s) (ones votes.acknowledgements)) 2
    (cond (leb (threshold_of s) (ones votes.signatures)) 1 0)

-- ---- kind 8: "18"
unfoldable pub ageing : Bool → ℕ → Decision
ageing held age = cond held (answering age) (refusing NotHeld)

-- ---- kind 9, a snapshot: "The value is the number of different jobs seen in this round."
unfoldable pub snapshotting : Settings → ℕ → JobSet → JobSet → Decision
snapshotting s next seen held =
    let all = seen_after s next seen held in
    record { outcome = Ok (job_count all); change = See all }

-- ---- kind 10, a release (document 02)

-- "Two different jobs are rivals if they share an input label or an output label." The vault holds the other.
unfoldable pub superseded_at : Vault → ℕ → List ℕ → ℕ → ℕ → ℕ → Bool
superseded_at state version journal booked job rival =
    not (eqb job rival) && (job_has state.held rival && conflicting (job_at version journal booked job) (job_at version journal booked rival))

-- 4 of the rival, "then 19 if the job isn't signed there; then 20 if the other is no rival or isn't held there"
unfoldable pub supersession : Vault → ℕ → List ℕ → ℕ → ℕ → ℕ → Verdict
supersession state version journal booked job rival =
    cond (is_booked version journal booked rival)
    (cond (job_has state.signed job)
    (cond (superseded_at state version journal booked job rival) (Ok tt) (Err NotSuperseded))
    (Err NotSignedHere))
    (Err NotBooked)

-- "The signature already given stays valid and keeps its count." "The value is the job's signature count."
unfoldable pub releasing : Vault → ℕ → List ℕ → ℕ → ℕ → ℕ → ℕ → Decision
releasing state version journal booked signers job rival =
    gated (supersession state version journal booked job rival) (record { outcome = Ok (ones signers); change = Release (unsigning state job) })

-- ---- kind 11, a job's missing dependencies (document 02): "the smallest set of them which, once held by this vault too, makes preflight accept the job"

abbrev pub listing : JobSet → Listing
listing jobs = record { outcome = Ok (job_count jobs); members = jobs }

abbrev pub unlisted : Refusal → Listing
unlisted why = record { outcome = Err why; members = no_jobs }

abbrev pub gated_listing : Verdict → Listing → Listing
gated_listing (Ok _) r = r
gated_listing (Err why) r = unlisted why

-- the vault, once it holds these jobs too
unfoldable pub receiving_all : Vault → JobSet → Vault
receiving_all state jobs = record { held = job_union state.held jobs; signed = state.signed }

-- "then 21 exactly if no set works"
abbrev pub if_admitted : Verdict → JobSet → Listing
if_admitted (Ok _) jobs = listing jobs
if_admitted (Err why) jobs = unlisted NoSetWorks

-- the jobs that make its missing inputs, where checks 11 to 14 pass with them
unfoldable pub supplying : Vault → JobSet → ℕ → List ℕ → ℕ → ℕ → Listing
supplying state elsewhere version journal booked job =
    let jobs = missing_jobs (job_at version journal booked) booked state.held elsewhere (job_at version journal booked job) in
    if_admitted (admission_at (receiving_all state jobs) version journal booked job) jobs

-- "A job already signed there needs the empty set."
unfoldable pub requiring : Vault → JobSet → ℕ → List ℕ → ℕ → ℕ → Listing
requiring state elsewhere version journal booked job =
    cond (job_has state.signed job) (listing no_jobs) (supplying state elsewhere version journal booked job)

-- ---- kind 12, a preflight from a client (document 02, "A fair quota for each desk")

-- the client's history with this request in it
abbrev pub history_with : ℕ → ℕ → Bool → History
history_with client history fresh = record { client = client; requests = remembered history fresh }

-- "then 23 if four of the desk's previous fifteen requests there brought a new signature; then 11 to 14"
unfoldable pub within_quota : ℕ → Verdict → Verdict
within_quota history admission = cond (is_spent history) (Err OverQuota) admission

-- "every other one counts, 23 included": the vault's answer, and the request in the client's history
abbrev pub counting : Consent → Vault → ℕ → ℕ → ℕ → ℕ → Decision
counting Already state client history signers v = record { outcome = Ok (ones signers); change = Count (history_with client history false) }
counting Fresh state client history signers v = voting signers v (Grant (record { vault = state; history = history_with client history true }))
counting (Denied why) state client history signers v = record { outcome = Err why; change = Count (history_with client history false) }

-- "then a job already signed is accepted", which comes before 23 as it comes before 11 to 14 in a preflight
unfoldable pub counted_consent : Vault → Verdict → ℕ → ℕ → ℕ → ℕ → ℕ → Decision
counted_consent state admission client history signers v job =
    let answer = vault_preflight state (within_quota history admission) job in
    counting answer.consent answer.vault client history signers v

-- "then 22 if the desk is above 7"
unfoldable pub client_preflighting : Vault → ℕ → List ℕ → ℕ → ℕ → ℕ → ℕ → ℕ → ℕ → Decision
client_preflighting state version journal booked client history signers v job =
    cond (is_client client) (counted_consent state (admission_at state version journal booked job) client history signers v job) (refusing NoClient)

-- ---- of a change
abbrev pub is_nothing : Change → Bool
is_nothing Nothing = true
is_nothing Book = false
is_nothing (Sign state) = false
is_nothing (Hold state) = false
is_nothing (Release state) = false
is_nothing (Record column) = false
is_nothing (See seen) = false
is_nothing (Count history) = false
is_nothing (Grant grant) = false

abbrev pub is_book : Change → Bool
is_book Nothing = false
is_book Book = true
is_book (Sign state) = false
is_book (Hold state) = false
is_book (Release state) = false
is_book (Record column) = false
is_book (See seen) = false
is_book (Count history) = false
is_book (Grant grant) = false
