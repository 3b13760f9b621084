-- What the code keeps beside the arrival order: a memo of the generations found so far. The creators of an input are the jobs
-- that the index has at it, so that no record is read for them.
use Rattle.std.specs.Prelude.{Bool, cond, true, List, ◌⊎◌, ◌≡◌, ◌*◌, ◌<◌, ◌≤◌, min, suc, ℕ, get_or, length}
use Rattle.base.specs.Search.{Least}
use Rattle.job_sets.specs.Jobs.{job_has}
use Rattle.job_sets.specs.declared.job_set.JobSet.{JobSet}
use Rattle.codec.specs.Codec.{place_of}
use Rattle.record.specs.Entries.{is_used}
use Rattle.record.specs.declared.Job.{Job}
use Rattle.journal.specs.Journal.{job_at}
use Rattle.index.specs.Places.{Entered, slot_job}
use Rattle.generations.specs.Generations.{along, creator_of, generation_at, generations_before}

-- how many of the first four entries are inputs
unfoldable pub inputs_of : Job → ℕ
inputs_of j = min j.inputs 4

-- the job at position q is one of the set
unfoldable pub is_maker : List ℕ → JobSet → ℕ → Bool
is_maker order makers q = job_has makers (get_or order q 0)

-- one more than the generations of the earlier job that made input i of the job at p, 0 where there is no input
unfoldable pub from_input : (ℕ → Job) → (ℕ → ℕ) → ℕ → ℕ → ℕ
from_input job order p i = cond (is_used (job (order p)) i) (suc (get_or (generations_before job order p) (creator_of job order p i) 0)) 0

-- p is the first of n positions at which job k stands
abbrev pub FirstAt : List ℕ → ℕ → ℕ → ℕ → Type 0
FirstAt order n k p = Least n (λ q. get_or order q 0 ≡ k) p

-- the number is one more than the generations at the job's first position, which is one of the first n
pub record Known (job : ℕ → Job) (order : List ℕ) (n k number : ℕ) : Type 0 where
  pub position : ℕ
  pub first : FirstAt order n k position
  pub is : number ≡ suc (generation_at job (along order) position)

-- each job's number is 0, or known from the first n positions
unfoldable pub Memo : (ℕ → Job) → List ℕ → ℕ → List ℕ → Type 0
Memo job order n memo = (k : ℕ) → (get_or memo k 0 ≡ 0) ⊎ Known job order n k (get_or memo k 0)

-- what finding generations starts from: the index of the booked jobs, the first n arrivals, and a right memo
pub record Ready (version : ℕ) (journal : List ℕ) (booked : ℕ) (numbers sets order : List ℕ) (n : ℕ) (memo : List ℕ) : Type 0 where
  pub few : booked ≤ 128
  pub inside : place_of version booked ≤ length journal
  pub entered : Entered (slot_job version journal) (8 * booked) numbers sets
  pub short : n ≤ 128
  pub placed : n ≤ length order
  pub size : length memo ≡ 128
  pub right : Memo (job_at version journal booked) order n memo

-- i is an input of the booked job at position p
pub record Input (version : ℕ) (journal : List ℕ) (booked : ℕ) (order : List ℕ) (p job i : ℕ) : Type 0 where
  pub placed : p < length order
  pub at : get_or order p 0 ≡ job
  pub below : job < booked
  pub four : i < 4
  pub used : is_used (job_at version journal booked job) i ≡ true
