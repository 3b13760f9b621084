-- A command decided from what it looks at: the settings, how many records are booked, a vault, the votes on a job, and a client's history.
use Rattle.std.specs.Prelude.{Bool, cond, false, true, List, ℕ, Ok, Err}
use Rattle.outcome.specs.declared.Refusal.TheVariants.{NotBooked, NotHeld, Unreadable}
use Rattle.outcome.specs.Figures.{Verdict}
use Rattle.federation.specs.declared.Settings.{Settings}
use Rattle.journal.specs.Journal.{is_booked}
use Rattle.binomials.specs.Draw.{draw_of}
use Rattle.ledger.specs.Decisions.{answering, client_preflighting, committing, gated, preflighting, proposal, refusing}
use Rattle.ledger.specs.Decisions.{releasing, snapshotting, status_of, voting}
use Rattle.ledger.specs.Steps.{gate_of}
use Rattle.vaults.specs.Votes.{column_of}
use Rattle.vaults.specs.declared.Column.{Column}
use Rattle.ledger.specs.Worlds.{Request, client_preflight, commit, dependencies, equivocating, faulty_vote, generations, preflight, propose, release, show}
use Rattle.ledger.specs.Worlds.{snapshot}
use Rattle.ledger.specs.declared.Change.TheVariants.{Nothing, Record}
use Rattle.ledger.specs.declared.Decision.{Decision}
use Rattle.runfile.specs.Steps.{Command, draw, request, unreadable}
use Rattle.kinds.specs.declared.View.{View}

-- check 4 alone
unfoldable pub booked_or : Bool → Verdict
booked_or booked = cond booked (Ok tt) (Err NotBooked)

-- checks 3, 5 and 4, of a step that is for faulty vaults or for correct ones
abbrev pub gate_by : Settings → ℕ → List ℕ → ℕ → Bool → ℕ → Verdict
gate_by s booked journal v faulty job = gate_of s v faulty (is_booked s.version journal booked job)

-- ---- each kind
abbrev pub preflight_by : View → List ℕ → ℕ → ℕ → Decision
preflight_by w journal v job =
    gated (gate_by w.settings w.booked journal v false job)
    (preflighting w.state w.settings.version journal w.booked w.votes.signatures v job)

abbrev pub client_preflight_by : View → List ℕ → ℕ → ℕ → ℕ → Decision
client_preflight_by w journal v job client =
    gated (gate_by w.settings w.booked journal v false job)
    (client_preflighting w.state w.settings.version journal w.booked client w.history w.votes.signatures v job)

abbrev pub release_by : View → List ℕ → ℕ → ℕ → ℕ → Decision
release_by w journal v job rival =
    gated (gate_by w.settings w.booked journal v false job)
    (releasing w.state w.settings.version journal w.booked w.votes.signatures job rival)

abbrev pub commit_by : View → List ℕ → ℕ → ℕ → ℕ → Decision
commit_by w journal v job signers =
    gated (gate_by w.settings w.booked journal v false job) (committing w.settings w.state w.votes v job signers)

abbrev pub vote_by : View → List ℕ → Column → ℕ → ℕ → Decision
vote_by w journal column v job = gated (gate_by w.settings w.booked journal v true job) (voting (column_of column w.votes) v (Record column))

abbrev pub show_by : View → List ℕ → ℕ → Decision
show_by w journal job = gated (booked_or (is_booked w.settings.version journal w.booked job)) (answering (status_of w.settings w.votes))

abbrev pub draw_by : Settings → ℕ → Decision
draw_by s u = record { outcome = draw_of s u; change = Nothing }

-- kinds 8, 11 and 13 look at more, and are decided apart
abbrev pub requested : View → List ℕ → Request → Decision
requested w journal (propose bytes) = proposal w.settings.version journal w.booked bytes
requested w journal (preflight v job) = preflight_by w journal v job
requested w journal (commit v job named) = commit_by w journal v job named
requested w journal (faulty_vote column v job) = vote_by w journal column v job
requested w journal (show job) = show_by w journal job
requested w journal (generations job) = refusing NotHeld
requested w journal snapshot = snapshotting w.settings w.next w.seen w.turn.held
requested w journal (release v job rival) = release_by w journal v job rival
requested w journal (dependencies v job) = refusing NotHeld
requested w journal (client_preflight v job client) = client_preflight_by w journal v job client
requested w journal equivocating = refusing NotHeld

abbrev pub decided_by : View → List ℕ → Command → Decision
decided_by w journal (request q) = requested w journal q
decided_by w journal (draw u) = draw_by w.settings u
decided_by w journal unreadable = refusing Unreadable
