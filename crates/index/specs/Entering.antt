-- A used place is entered: its numbers, its link and its bucket's head are stored, and its job joins the sets at them. So the tables of the
-- first places are one list each.
use Rattle.std.specs.Prelude.{cond, false, not, true, List, ◌≡◌, ◌%◌, ◌+◌, ◌/◌, suc, zero, ℕ, ltb, get_or, replicate, set}
use Rattle.record.specs.declared.Job.{Job}
use Rattle.index.specs.Places.{bit_of, bucket_of, heads_at, label_at, links_at, number_at, numbers_size, places, sets_size, side_of, used_at}
use Rattle.index.specs.Words.{marked}

-- the numbers with place m, which has these two and is in bucket b
unfoldable pub numbers_with : List ℕ → ℕ → ℕ → ℕ → ℕ → List ℕ
numbers_with numbers m label tape b =
    set (set (set (set numbers m label) (places + m) tape) (links_at + m) (get_or numbers (heads_at + b) 0)) (heads_at + b) (suc m)

-- the sets with entry e of job n, which has these two numbers
unfoldable pub sets_with : List ℕ → ℕ → ℕ → ℕ → ℕ → List ℕ
sets_with sets label tape n e = marked (marked sets (bit_of (side_of e) label n) true) (bit_of 2 tape n) (not (ltb e 4))

module _ (job : ℕ → Job) where
  -- the numbers of the first m places
  unfoldable pub numbers_of : ℕ → List ℕ
  numbers_of zero = replicate numbers_size 0
  numbers_of (suc m) =
      cond (used_at job m) (numbers_with (numbers_of m) m (number_at job false m) (number_at job true m) (bucket_of (label_at job m))) (numbers_of m)

  -- the sets of the first m places
  unfoldable pub sets_of : ℕ → List ℕ
  sets_of zero = replicate sets_size 0
  sets_of (suc m) = cond (used_at job m) (sets_with (sets_of m) (number_at job false m) (number_at job true m) (m / 8) (m % 8)) (sets_of m)

-- the two tables are those of the first m places
pub record Entries (job : ℕ → Job) (m : ℕ) (numbers sets : List ℕ) : Type 0 where
  pub numbers_are : numbers ≡ numbers_of job m
  pub sets_are : sets ≡ sets_of job m
