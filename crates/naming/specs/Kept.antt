-- The answer of kind 13 is kept from one step to the next (document 02, M-113): a file may ask 65,000 times.
use Rattle.std.specs.Prelude.{Bool, false, true, List, ◌≡◌, ℕ, Option, None, unwrap_or}
use Rattle.std.specs.Option.{is_some}
use Rattle.job_sets.specs.Jobs.{no_jobs}
use Rattle.job_sets.specs.declared.job_set.JobSet.{JobSet}
use Rattle.federation.specs.declared.Settings.{Settings}
use Rattle.journal.specs.Journal.{job_at}
use Rattle.equivocation.specs.Partners.{recorded_in}
use Rattle.ledger.specs.Equivocation.{equivocators}
use Rattle.vaults.specs.declared.Votes.{Votes}
use Rattle.runfile.specs.declared.Kind.{Kind}
use Rattle.runfile.specs.declared.Kind.TheVariants.{ClientPreflight, Commit, Dependencies, Draw, Equivocating, FaultyAcknowledge, FaultySign, Generations}
use Rattle.runfile.specs.declared.Kind.TheVariants.{Preflight, Propose, Release, Show, Snapshot, Unknown}

-- the kind that names vaults
abbrev pub is_naming : Kind → Bool
is_naming Propose = false
is_naming Preflight = false
is_naming Commit = false
is_naming FaultySign = false
is_naming FaultyAcknowledge = false
is_naming Show = false
is_naming Draw = false
is_naming Generations = false
is_naming Snapshot = false
is_naming Release = false
is_naming Dependencies = false
is_naming ClientPreflight = false
is_naming Equivocating = true
is_naming Unknown = false

-- the vaults that equivocate, where they are known
abbrev pub Remembered : Type 0
Remembered = Option JobSet

abbrev pub unknown_yet : Remembered
unknown_yet = None

-- the vaults that equivocate, by what is recorded and booked
abbrev pub named_by : Settings → List Votes → List ℕ → ℕ → JobSet
named_by s votes journal booked = equivocators s (recorded_in votes) (job_at s.version journal booked) booked

-- where they are known, these are they
pub record Right (s : Settings) (votes : List Votes) (journal : List ℕ) (booked : ℕ) (kept : Remembered) : Type 0 where
  pub are : is_some kept ≡ true → unwrap_or kept no_jobs ≡ named_by s votes journal booked

-- and they are known where the kind asks for them
pub record Found (s : Settings) (votes : List Votes) (journal : List ℕ) (booked : ℕ) (kind : Kind) (kept : Remembered) : Type 0 where
  pub right : Right s votes journal booked kept
  pub known : is_naming kind ≡ true → is_some kept ≡ true

-- after a change they are known only where they were, no record was booked, and the signatures on the job are those before
pub record Still (kept : Remembered) (booked signatures booked' signatures' : ℕ) (r : Remembered) : Type 0 where
  pub same : is_some r ≡ true → (r ≡ kept) × (booked ≡ booked') × (signatures ≡ signatures')
