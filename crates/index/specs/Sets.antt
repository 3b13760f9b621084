-- The sets of jobs at the numbers of the tables.
use Rattle.std.specs.Prelude.{List, ◌≡◌, ◌*◌, ◌+◌, ◌<◌, ℕ, get_or, length}
use Rattle.job_sets.specs.declared.job_set.JobSet.{JobSet}
use Rattle.index.specs.Places.{links_at, numbers_size, places, sets_size}
use Rattle.index.specs.Words.{set_at}

-- what a reader asks of the tables
pub record Tables (numbers sets : List ℕ) : Type 0 where
  pub numbers_sized : length numbers ≡ numbers_size
  pub sets_sized : length sets ≡ sets_size
  pub small : (i : ℕ) → i < links_at → get_or numbers i 0 < places

-- the set of the kind at the number that stands there: 0, the jobs that have the label as an input; 1, as an output; 2, that make the tape
unfoldable pub set_of : List ℕ → List ℕ → ℕ → ℕ → JobSet
set_of numbers sets at kind = set_at sets (6 * get_or numbers at 0 + 2 * kind)
