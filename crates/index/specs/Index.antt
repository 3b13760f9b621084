-- What the lent tables hold: each is the one list that the journal's first n records say.
use Rattle.std.specs.Prelude.{List, ◌≡◌, ◌*◌, ◌+◌, ◌<◌, ◌≤◌, ℕ, length, replicate}
use Rattle.codec.specs.Codec.{place_of, record_size}
use Rattle.journal.specs.Journal.{capacity}
use Rattle.index.specs.Entering.{numbers_of, sets_of}
use Rattle.index.specs.Places.{numbers_size, sets_size, slot_job}
use Rattle.index.specs.Records.{records_of, records_size}

-- the first n records, of which there are at most 128, lie inside, and the three tables are theirs
pub record Indexed (version : ℕ) (journal : List ℕ) (n : ℕ) (numbers sets records : List ℕ) : Type 0 where
  pub few : n ≤ capacity
  pub inside : place_of version n ≤ length journal
  pub numbers_are : numbers ≡ numbers_of (slot_job version journal) (8 * n)
  pub sets_are : sets ≡ sets_of (slot_job version journal) (8 * n)
  pub records_are : records ≡ records_of (slot_job version journal) n

-- what the checks of entries ask of it
pub record IndexedEntries (version : ℕ) (journal : List ℕ) (n : ℕ) (numbers sets : List ℕ) : Type 0 where
  pub few : n ≤ capacity
  pub inside : place_of version n ≤ length journal
  pub numbers_are : numbers ≡ numbers_of (slot_job version journal) (8 * n)
  pub sets_are : sets ≡ sets_of (slot_job version journal) (8 * n)

-- what the search for an equal record asks of it
pub record IndexedRecords (version : ℕ) (journal : List ℕ) (n : ℕ) (records : List ℕ) : Type 0 where
  pub few : n ≤ capacity
  pub inside : place_of version n ≤ length journal
  pub records_are : records ≡ records_of (slot_job version journal) n

-- the tables of no record
pub record Blank (numbers sets records : List ℕ) : Type 0 where
  pub no_numbers : numbers ≡ replicate numbers_size 0
  pub no_sets : sets ≡ replicate sets_size 0
  pub no_records : records ≡ replicate records_size 0

-- record n can be booked, and lies inside
pub record HasRecord (version : ℕ) (journal : List ℕ) (n : ℕ) : Type 0 where
  pub few : n < capacity
  pub inside : place_of version n + record_size version ≤ length journal
