-- What functions ask of their arguments that the checks before them, or whoever keeps the index, have given.
use Rattle.std.specs.Prelude.{List, ◌≡◌, ℕ, ◌+◌, ◌<◌, ◌≤◌, length, Ok}
use Rattle.codec.specs.Codec.{place_of, record_size}
use Rattle.outcome.specs.Figures.{Verdict}
use Rattle.federation.specs.declared.Settings.{Settings}
use Rattle.journal.specs.Journal.{capacity, inside_of, job_at}
use Rattle.generations.specs.Generations.{age_in}
use Rattle.generations.specs.Memo.{Memo}
use Rattle.index.specs.Index.{IndexedRecords}
use Rattle.ledger.specs.declared.Change.{Change}
use Rattle.ledger.specs.declared.Change.TheVariants.{Book}
use Rattle.ledger.specs.Decisions.{ageing}
use Rattle.ledger.specs.Holders.{is_held}
use Rattle.ledger.specs.declared.Decision.{Decision}
use Rattle.ledger.specs.declared.Ledger.{Ledger}
use Rattle.vaults.specs.declared.Vault.{Vault}

-- checks 1, 3 and 4 pass: the arrays have the vault and the job, and the counts are within the capacity
pub record Placed (l : Ledger) (v k : ℕ) : Type 0 where
  pub vault : v < 16
  pub job : k < capacity
  pub booked : l.booked ≤ capacity
  pub arrivals : l.arrivals ≤ capacity

-- where a record is booked there is room for it
pub record Writable (change : Change) (booked version : ℕ) (journal bytes : List ℕ) : Type 0 where
  pub few : change ≡ Book → booked < capacity
  pub room : change ≡ Book → place_of version booked + record_size version ≤ length journal
  pub size : change ≡ Book → length bytes ≡ record_size version

-- where the checks before pass, the job is booked
pub record Known (gate : Verdict) (booked job : ℕ) : Type 0 where
  pub below : gate ≡ Ok tt → job < booked

-- the index is that of the booked records that lie inside
pub record Searchable (version : ℕ) (journal : List ℕ) (booked : ℕ) (records : List ℕ) : Type 0 where
  pub few : booked ≤ capacity
  pub indexed : IndexedRecords version journal (inside_of version journal booked) records

-- what kind 8 decides of a booked job, and a memo that stays right
pub record Aged (s : Settings) (vaults : List Vault) (order : List ℕ) (arrivals : ℕ) (journal : List ℕ) (booked : ℕ) (memo : List ℕ) (job : ℕ)
    (d : Decision) : Type 0 where
  pub decision : d ≡ ageing (is_held s vaults job) (age_in (job_at s.version journal booked) order arrivals job)
  pub right : Memo (job_at s.version journal booked) order arrivals memo
  pub size : length memo ≡ capacity
