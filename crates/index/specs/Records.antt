-- Booked records by a sum of their entries: each bucket's records are chained, each to the last before it, so that an equal one is found.
use Rattle.std.specs.Prelude.{Bool, List, ◌≡◌, ◌%◌, ◌*◌, ◌+◌, ◌<◌, suc, zero, ℕ, eqb, get_or, length, replicate, set}
use Rattle.record.specs.Entries.{frames_of, label_of}
use Rattle.record.specs.declared.Job.{Job}
use Rattle.journal.specs.Journal.{capacity}
use Rattle.index.specs.Chains.{last_below}
use Rattle.index.specs.Places.{bucket_of, buckets}

-- a link for each record, after the heads
abbrev pub records_size : ℕ
records_size = buckets + capacity

-- the first e entries in one remainder
unfoldable pub sum_to : ℕ → Job → ℕ
sum_to zero a = 0
sum_to (suc e) a = (31 * sum_to e a + bucket_of (label_of a e) + frames_of a e) % buckets

abbrev pub sum_of : Job → ℕ
sum_of a = sum_to 8 a

-- the job's sum is the one
unfoldable pub in_sum : (ℕ → Job) → ℕ → ℕ → Bool
in_sum job b k = eqb (sum_of (job k)) b

-- the table with job n, whose sum is b
unfoldable pub records_with : List ℕ → ℕ → ℕ → List ℕ
records_with records b n = set (set records (buckets + n) (get_or records b 0)) b (suc n)

-- the table of the first n jobs
unfoldable pub records_of : (ℕ → Job) → ℕ → List ℕ
records_of job zero = replicate records_size 0
records_of job (suc n) = records_with (records_of job n) (sum_of (job n)) n

-- what it means: each of the first n jobs is linked to the last before it in its bucket, and each bucket's head is the last in it; the links follow the heads
pub record Filed (job : ℕ → Job) (n : ℕ) (records : List ℕ) : Type 0 where
  pub size : length records ≡ records_size
  pub linked : (k : ℕ) → k < n → get_or records (buckets + k) 0 ≡ last_below k (in_sum job (sum_of (job k)))
  pub headed : (b : ℕ) → b < buckets → get_or records b 0 ≡ last_below n (in_sum job b)
