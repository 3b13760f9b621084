-- What a step answers and lists that looks at all vaults.
use Rattle.std.specs.Prelude.{Bool, cond, false, true, List, ◌≡◌, ◌%◌, ℕ, get_or, length}
use Rattle.outcome.specs.Figures.{Outcome}
use Rattle.job_sets.specs.Jobs.{no_jobs}
use Rattle.job_sets.specs.declared.job_set.JobSet.{JobSet}
use Rattle.journal.specs.Journal.{capacity, is_booked, is_whole, job_at}
use Rattle.generations.specs.Generations.{age_in}
use Rattle.generations.specs.Memo.{Memo}
use Rattle.ledger.specs.Decisions.{ageing, gated, gated_listing, listing}
use Rattle.ledger.specs.Decisions.{requiring}
use Rattle.ledger.specs.Holders.{held_somewhere, is_held}
use Rattle.vaults.specs.Vaults.{new_vault}
use Rattle.ledger.specs.declared.Decision.{Decision}
use Rattle.ledger.specs.declared.Listing.{Listing}
use Rattle.runfile.specs.declared.Kind.{Kind}
use Rattle.runfile.specs.declared.Kind.TheVariants.{ClientPreflight, Commit, Dependencies, Draw, Equivocating, FaultyAcknowledge, FaultySign, Generations}
use Rattle.runfile.specs.declared.Kind.TheVariants.{Preflight, Propose, Release, Show, Snapshot, Unknown}
use Rattle.questions.specs.declared.Books.{Books}
use Rattle.kinds.specs.Decided.{booked_or, gate_by}
use Rattle.naming.specs.Kept.{is_naming}

-- a step that lists nothing
abbrev pub alone : Outcome → Listing
alone outcome = record { outcome = outcome; members = no_jobs }

-- kind 8
abbrev pub aged : Books → List ℕ → List ℕ → ℕ → Decision
aged a order journal job =
    gated (booked_or (is_booked a.settings.version journal a.booked job))
    (ageing (is_held a.settings a.vaults job) (age_in (job_at a.settings.version journal a.booked) order a.arrivals job))

-- kind 11
abbrev pub required : Books → List ℕ → ℕ → ℕ → Listing
required a journal v job =
    gated_listing (gate_by a.settings a.booked journal v false job)
    (requiring (get_or a.vaults (v % 16) new_vault) (held_somewhere a.settings a.vaults) a.settings.version journal a.booked job)

-- of these kinds, the one that lists jobs
abbrev pub is_listing : Kind → Bool
is_listing Propose = false
is_listing Preflight = false
is_listing Commit = false
is_listing FaultySign = false
is_listing FaultyAcknowledge = false
is_listing Show = false
is_listing Draw = false
is_listing Generations = false
is_listing Snapshot = false
is_listing Release = false
is_listing Dependencies = true
is_listing ClientPreflight = false
is_listing Equivocating = false
is_listing Unknown = false

-- kind 13, where these vaults equivocate
abbrev pub naming : ℕ → ℕ → List ℕ → JobSet → Listing
naming version booked journal named = gated_listing (booked_or (is_whole version journal booked)) (listing named)

abbrev pub surveyed : Books → JobSet → List ℕ → List ℕ → Kind → ℕ → ℕ → Listing
surveyed a named order journal kind v job =
    cond (is_listing kind) (required a journal v job)
    (cond (is_naming kind) (naming a.settings.version a.booked journal named) (alone (aged a order journal job).outcome))

-- such an answer was found, and the memo stays right
pub record Answered (a : Books) (order journal memo : List ℕ) (answer r : Listing) : Type 0 where
  pub told : r ≡ answer
  pub right : Memo (job_at a.settings.version journal a.booked) order a.arrivals memo
  pub size : length memo ≡ capacity
