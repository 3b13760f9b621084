-- The steps. Each is a row of checks, in the order that document 01 gives for its kind, a decision where they pass, and what it changes
-- applied. A state that no run can reach is turned back with 1, settings wrong, before every other check.
use Rattle.std.specs.Prelude.{Bool, true, false, cond, List, [], ℕ, ltb, Ok, Err}
use Rattle.std.specs.Bool.{beq}
use Rattle.outcome.specs.Figures.{Outcome, Verdict}
use Rattle.outcome.specs.declared.Refusal.{Refusal}
use Rattle.outcome.specs.declared.Refusal.TheVariants.{Settings as BadSettings, NoVault, NotBooked, WrongVault}
use Rattle.sets.specs.Bits.{has_bit}
use Rattle.federation.specs.Federation.{is_lawful, threshold_of}
use Rattle.federation.specs.declared.Settings.{Settings}
use Rattle.journal.specs.Journal.{is_booked, is_whole, job_at, put_at, record_at}
use Rattle.generations.specs.Generations.{age_in}
use Rattle.ledger.specs.declared.Change.{Change}
use Rattle.ledger.specs.declared.Change.TheVariants.{Book, Count, Grant, Hold, Nothing, Record, Release, See, Sign}
use Rattle.vaults.specs.declared.Column.{Column}
use Rattle.ledger.specs.declared.Decision.{Decision}
use Rattle.ledger.specs.declared.Ledger.{Ledger}
use Rattle.ledger.specs.declared.Listing.{Listing}
use Rattle.ledger.specs.declared.Reply.{Reply}
use Rattle.ledger.specs.Decisions.{
  ageing,
  answering,
  client_preflighting,
  committing,
  gated,
  gated_listing,
  listing,
  preflighting,
  proposal,
  releasing,
  requiring,
  snapshotting,
  status_of,
  voting,
}
use Rattle.ledger.specs.Equivocation.{equivocators}
use Rattle.ledger.specs.Holders.{held_somewhere, is_held}
use Rattle.ledger.specs.State.{applied, history_at, is_sane, new_ledger, signers_of, vault_at, version_of, votes_at, votes_in}

-- ---- a new ledger: the threshold where the settings are lawful
unfoldable pub new_of : ℕ → ℕ → ℕ → ℕ → Reply
new_of n b faulty version =
    let l = new_ledger n b faulty version in
    cond (is_lawful l.settings) (record { outcome = Ok (threshold_of l.settings); ledger = l }) (record { outcome = Err BadSettings; ledger = l })

-- ---- the checks that steps share

-- checks 3, 5 and 4: `faulty` says which vaults the step is for, `booked` whether 4 passes
unfoldable pub gate_of : Settings → ℕ → Bool → Bool → Verdict
gate_of s v faulty booked =
    cond (ltb v s.n)
    (cond (beq (has_bit s.faulty v) faulty)
    (cond booked (Ok tt) (Err NotBooked))
    (Err WrongVault))
    (Err NoVault)

-- check 1
unfoldable pub sane_gate : Ledger → Verdict
sane_gate l = cond (is_sane l) (Ok tt) (Err BadSettings)

-- checks 1 and 4
unfoldable pub booked_gate : Ledger → List ℕ → ℕ → Verdict
booked_gate l journal job =
    cond (is_sane l) (cond (is_booked (version_of l) journal l.booked job) (Ok tt) (Err NotBooked)) (Err BadSettings)

-- checks 1 and 4 of a step that names no job: "4 if some booked record isn't wholly inside the caller's book"
unfoldable pub whole_gate : Ledger → List ℕ → Verdict
whole_gate l journal = cond (is_sane l) (cond (is_whole (version_of l) journal l.booked) (Ok tt) (Err NotBooked)) (Err BadSettings)

-- checks 1, 3, 5 and 4
unfoldable pub vault_gate : Ledger → List ℕ → ℕ → ℕ → Bool → Verdict
vault_gate l journal v job faulty =
    cond (is_sane l) (gate_of l.settings v faulty (is_booked (version_of l) journal l.booked job)) (Err BadSettings)

-- ---- what each kind of step decides

-- kind 1: "6 to 9, then a booked equal, then 10"
unfoldable pub propose_decision : Ledger → List ℕ → List ℕ → Decision
propose_decision l journal bytes = gated (sane_gate l) (proposal (version_of l) journal l.booked bytes)

-- kind 2: "3, 5, 4, 11 to 14"
unfoldable pub preflight_decision : Ledger → List ℕ → ℕ → ℕ → Decision
preflight_decision l journal v job =
    gated (vault_gate l journal v job false) (preflighting (vault_at l v) (version_of l) journal l.booked (signers_of l job) v job)

-- kind 3: "3, 5, 4, 15, 16"
unfoldable pub commit_decision : Ledger → List ℕ → ℕ → ℕ → ℕ → Decision
commit_decision l journal v job signers =
    gated (vault_gate l journal v job false)
    (committing l.settings (vault_at l v) (votes_at l job) v job signers)

-- kinds 4 and 5: "A faulty vault may sign or acknowledge any booked job, by its own steps only."
unfoldable pub faulty_vote_decision : Ledger → List ℕ → Column → ℕ → ℕ → Decision
faulty_vote_decision l journal column v job = gated (vault_gate l journal v job true) (voting (votes_in l column job) v (Record column))

-- kind 6: "4"
unfoldable pub show_decision : Ledger → List ℕ → ℕ → Decision
show_decision l journal job =
    gated (booked_gate l journal job) (answering (status_of l.settings (votes_at l job)))

-- kind 8: "4, 18"
unfoldable pub generations_decision : Ledger → List ℕ → ℕ → Decision
generations_decision l journal job =
    gated (booked_gate l journal job)
    (ageing (is_held l.settings l.vaults job) (age_in (job_at (version_of l) journal l.booked) l.order l.arrivals job))

-- kind 9: "no check but 2"; the vault that it visits is the ledger's
unfoldable pub snapshot_decision : Ledger → Decision
snapshot_decision l = gated (sane_gate l) (snapshotting l.settings l.next l.seen (vault_at l l.next).held)

-- kind 10: "3, 5 as for preflight, 4 for either job", 19 and 20
unfoldable pub release_decision : Ledger → List ℕ → ℕ → ℕ → ℕ → Decision
release_decision l journal v job rival =
    gated (vault_gate l journal v job false) (releasing (vault_at l v) (version_of l) journal l.booked (signers_of l job) job rival)

-- kind 11: "3, 5, 4 as for preflight; then 21"
unfoldable pub dependencies_of : Ledger → List ℕ → ℕ → ℕ → Listing
dependencies_of l journal v job =
    gated_listing (vault_gate l journal v job false)
    (requiring (vault_at l v) (held_somewhere l.settings l.vaults) (version_of l) journal l.booked job)

unfoldable pub dependencies_decision : Ledger → List ℕ → ℕ → ℕ → Decision
dependencies_decision l journal v job = record { outcome = (dependencies_of l journal v job).outcome; change = Nothing }

-- kind 12: "3, 5, 4 as for kind 2; then 22", a job already signed, 23, 11 to 14
unfoldable pub client_preflight_decision : Ledger → List ℕ → ℕ → ℕ → ℕ → Decision
client_preflight_decision l journal v job client =
    gated (vault_gate l journal v job false)
    (client_preflighting (vault_at l v) (version_of l) journal l.booked client (history_at l v client) (signers_of l job) v job)

-- kind 13: "4"; the vaults that equivocate
unfoldable pub equivocators_of : Ledger → List ℕ → Listing
equivocators_of l journal =
    gated_listing (whole_gate l journal) (listing (equivocators l.settings (signers_of l) (job_at (version_of l) journal l.booked) l.booked))

unfoldable pub equivocators_decision : Ledger → List ℕ → Decision
equivocators_decision l journal = record { outcome = (equivocators_of l journal).outcome; change = Nothing }

-- ---- a decision carried out

abbrev pub carried : Ledger → Decision → ℕ → ℕ → Reply
carried l d v job = record { outcome = d.outcome; ledger = applied l d.change v job }

-- a step that is turned back
abbrev pub turned : Ledger → Refusal → Reply
turned l why = record { outcome = Err why; ledger = l }

-- the lent journal afterwards: a new record stands after the booked ones
abbrev pub journal_with : Change → ℕ → ℕ → List ℕ → List ℕ → List ℕ
journal_with Book booked version journal bytes = put_at version journal booked bytes
journal_with Nothing booked version journal bytes = journal
journal_with (Sign state) booked version journal bytes = journal
journal_with (Hold state) booked version journal bytes = journal
journal_with (Release state) booked version journal bytes = journal
journal_with (Record column) booked version journal bytes = journal
journal_with (See seen) booked version journal bytes = journal
journal_with (Count history) booked version journal bytes = journal
journal_with (Grant grant) booked version journal bytes = journal

-- ---- the operations; a proposal names no vault and no job
unfoldable pub propose_of : Ledger → List ℕ → List ℕ → Reply
propose_of l journal bytes = carried l (propose_decision l journal bytes) 0 0

unfoldable pub journal_after : Ledger → List ℕ → List ℕ → List ℕ
journal_after l journal bytes = journal_with (propose_decision l journal bytes).change l.booked (version_of l) journal bytes

unfoldable pub preflight_of : Ledger → List ℕ → ℕ → ℕ → Reply
preflight_of l journal v job = carried l (preflight_decision l journal v job) v job

unfoldable pub commit_of : Ledger → List ℕ → ℕ → ℕ → ℕ → Reply
commit_of l journal v job signers = carried l (commit_decision l journal v job signers) v job

unfoldable pub faulty_vote_of : Ledger → List ℕ → Column → ℕ → ℕ → Reply
faulty_vote_of l journal column v job = carried l (faulty_vote_decision l journal column v job) v job

unfoldable pub snapshot_of : Ledger → Reply
snapshot_of l = carried l (snapshot_decision l) 0 0

unfoldable pub release_of : Ledger → List ℕ → ℕ → ℕ → ℕ → Reply
release_of l journal v job rival = carried l (release_decision l journal v job rival) v job

unfoldable pub client_preflight_of : Ledger → List ℕ → ℕ → ℕ → ℕ → Reply
client_preflight_of l journal v job client = carried l (client_preflight_decision l journal v job client) v job

-- the two that only read a figure; `dependencies_of` and `equivocators_of` stand above
abbrev pub show_of : Ledger → List ℕ → ℕ → Outcome
show_of l journal job = (show_decision l journal job).outcome

abbrev pub generations_of : Ledger → List ℕ → ℕ → Outcome
generations_of l journal job = (generations_decision l journal job).outcome

-- a record shown, of any ledger: "where check 4 fails, the part shown is empty"; and where check 1 does, which comes before every other check
unfoldable pub shown_of : Ledger → List ℕ → ℕ → List ℕ
shown_of l journal job = cond (is_sane l) (record_at (version_of l) journal l.booked job) []
