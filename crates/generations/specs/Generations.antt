-- Generations ("Vaults"): "0 for an accession, else one more than the largest among the jobs that created its inputs", along the
-- arrival order. `job` are the booked jobs, and `order` gives the job at each position.
use Rattle.std.specs.Prelude.{Bool, cond, List, [], ◌++◌, ◌∷◌, max, suc, zero, ℕ, eqb, ltb, get_or}
use Rattle.base.specs.Search.{first_below}
use Rattle.conflicts.specs.Conflicts.{makes_tape}
use Rattle.record.specs.Entries.{frames_of, is_used, label_of}
use Rattle.record.specs.declared.Job.{Job}

-- the largest of f 0 to f (k - 1), or 0
unfoldable pub highest : ℕ → (ℕ → ℕ) → ℕ
highest zero f = zero
highest (suc k) f = max (highest k f) (f k)

module _ (job : ℕ → Job) (order : ℕ → ℕ) where
  -- the job at position q made input i of the job at position p
  unfoldable pub created_at : ℕ → ℕ → ℕ → Bool
  created_at p i q = makes_tape (job (order q)) (label_of (job (order p)) i) (frames_of (job (order p)) i)

  -- the position of the earlier job that made it, or p
  unfoldable pub creator_of : ℕ → ℕ → ℕ
  creator_of p i = first_below p (created_at p i)

  -- the generations at p, from those at the positions before
  unfoldable pub generation_from : List ℕ → ℕ → ℕ
  generation_from earlier p = highest 4 (λ i. cond (is_used (job (order p)) i) (suc (get_or earlier (creator_of p i) 0)) 0)

  -- the generations at the first p positions
  unfoldable pub generations_before : ℕ → List ℕ
  generations_before zero = []
  generations_before (suc p) = generations_before p ++ (generation_from (generations_before p) p ∷ [])

  unfoldable pub generation_at : ℕ → ℕ
  generation_at p = generation_from (generations_before p) p

-- ---- of a job, by its position in a list of arrivals

-- the job at each position of an order
abbrev pub along : List ℕ → ℕ → ℕ
along order = λ q. get_or order q 0

-- job k stands at position i
unfoldable pub is_at : List ℕ → ℕ → ℕ → Bool
is_at order k i = eqb (get_or order i 0) k

-- the generations of job k, which is among the first `arrivals`; 0 of one that is not
unfoldable pub age_in : (ℕ → Job) → List ℕ → ℕ → ℕ → ℕ
age_in job order arrivals k =
    let p = first_below arrivals (is_at order k) in
    cond (ltb p arrivals) (generation_at job (along order) p) 0
