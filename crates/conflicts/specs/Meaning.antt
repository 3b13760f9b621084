-- What it means that a job has a label or a tape, and that two jobs conflict, said without a search.
use Rattle.std.specs.Prelude.{◌≢◌, ◌⊎◌, ◌≡◌, ◌+◌, ℕ}
use Rattle.base.specs.Search.{Some}
use Rattle.record.specs.Entries.{frames_of, label_of}
use Rattle.record.specs.declared.Job.{Job}
use Rattle.record.specs.Meaning.{Used}

-- a half has the label
abbrev pub LabelIn : ℕ → Job → ℕ → Type 0
LabelIn half j label = Some 4 (λ i. Used j (half + i) × (label_of j (half + i) ≡ label))

-- an output is the tape, label and frames
abbrev pub MakesTape : Job → ℕ → ℕ → Type 0
MakesTape j label frames = Some 4 (λ i. (Used j (4 + i) × (label_of j (4 + i) ≡ label)) × (frames_of j (4 + i) ≡ frames))

-- a label that both jobs have in one half
abbrev pub SharesIn : ℕ → Job → Job → Type 0
SharesIn half a b = (label : ℕ) × (LabelIn half a label × LabelIn half b label)

abbrev pub Conflicting : Job → Job → Type 0
Conflicting a b = SharesIn 0 a b ⊎ SharesIn 4 a b

-- two different jobs that conflict
pub record Rivals (job : ℕ → Job) (i k : ℕ) : Type 0 where
  pub different : i ≢ k
  pub shares : Conflicting (job i) (job k)
