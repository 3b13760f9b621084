-- Which labels a job has on which side, and when two jobs conflict (document 02's rivals).
use Rattle.std.specs.Prelude.{Bool, ◌&&◌, ◌||◌, not, ◌+◌, ℕ, eqb}
use Rattle.base.specs.Search.{any_below}
use Rattle.record.specs.Entries.{frames_of, is_used, label_of}
use Rattle.record.specs.declared.Job.{Job}

-- entry half + i is used and has the label
unfoldable pub is_label_at : ℕ → Job → ℕ → ℕ → Bool
is_label_at half j label i = is_used j (half + i) && eqb (label_of j (half + i)) label

-- the half has the label
unfoldable pub label_in : ℕ → Job → ℕ → Bool
label_in half j label = any_below 4 (is_label_at half j label)

-- output i is the tape, label and frames
unfoldable pub is_tape_at : Job → ℕ → ℕ → ℕ → Bool
is_tape_at j label frames i = is_label_at 4 j label i && eqb (frames_of j (4 + i)) frames

-- some output is the tape
unfoldable pub makes_tape : Job → ℕ → ℕ → Bool
makes_tape j label frames = any_below 4 (is_tape_at j label frames)

-- entry half + i of a is used, and b has its label in the same half
unfoldable pub shares_at : ℕ → Job → Job → ℕ → Bool
shares_at half a b i = is_used a (half + i) && label_in half b (label_of a (half + i))

unfoldable pub shares_in : ℕ → Job → Job → Bool
shares_in half a b = any_below 4 (shares_at half a b)

-- they share an input label or an output label
unfoldable pub conflicting : Job → Job → Bool
conflicting a b = shares_in 0 a b || shares_in 4 a b

-- of numbered jobs: "Two different jobs are rivals if they share an input label or an output label." (M-105)
unfoldable pub is_rival : (ℕ → Job) → ℕ → ℕ → Bool
is_rival job i k = not (eqb i k) && conflicting (job i) (job k)
