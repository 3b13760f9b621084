-- What each check means, said without a search. proofs/Meaning.antt shows that the checks decide these claims.
use Rattle.std.specs.Prelude.{Bool, false, true, ◌⊎◌, ◌≡◌, ◌+◌, ◌≤◌, ℕ, Ok, Err}
use Rattle.base.specs.Search.{Every, Least, Some, sum_from}
use Rattle.outcome.specs.declared.Refusal.TheVariants.{Malformed, Repeated, Unbalanced, Unsupported}
use Rattle.outcome.specs.Figures.{Verdict}
use Rattle.drives.specs.Drives.{supports}
use Rattle.record.specs.Entries.{frames_of, label_of, used_frames}
use Rattle.record.specs.Labels.{medium_of}
use Rattle.record.specs.declared.Job.{Job}
use Rattle.record.specs.Meaning.{Used, Label}

-- 6, by what is claimed of a used entry's label
pub record WellFormed (Claim : ℕ → Type 0) (j : Job) : Type 0 where
  pub drive : (5 ≤ j.drive) × (j.drive ≤ 9)
  pub inputs : ((j.kind ≡ 0) × (j.inputs ≡ 0)) ⊎ ((j.kind ≡ 1) × ((1 ≤ j.inputs) × (j.inputs ≤ 4)))
  pub outputs : (1 ≤ j.outputs) × (j.outputs ≤ 4)
  pub used : Every 8 (λ i. Used j i → Claim (label_of j i) × (1 ≤ frames_of j i))
  pub trimmed : j.kind ≡ 0 → j.trimmed ≡ 0
  pub unused : Every 8 (λ i. (Used j i → ⊥) → (label_of j i ≡ 0) × (frames_of j i ≡ 0))

-- 7, at entry i: it is used, and an earlier used entry has its label
abbrev pub RepeatedAt : Job → ℕ → Type 0
RepeatedAt j i = Used j i × Some i (λ k. Used j k × (label_of j k ≡ label_of j i))

-- a drive writes, or reads, a label's medium
abbrev pub takes : Bool → ℕ → ℕ → Bool
takes writing drive label = supports writing drive (medium_of label)

-- 8, at entry i, by what a drive can do: it is used, and the drive does not write it, an output of a migration, or read it, any other
abbrev pub UnsupportedAt : (Bool → ℕ → ℕ → Bool) → Job → ℕ → Type 0
UnsupportedAt can j i =
    Used j i
    × ((((4 ≤ i) × (j.kind ≡ 1)) × (can true j.drive (label_of j i) ≡ false))
    ⊎ ((((4 ≤ i) × (j.kind ≡ 1)) → ⊥) × (can false j.drive (label_of j i) ≡ false)))

-- 9: in a migration the frames of the inputs are those of the outputs and those that are trimmed
abbrev pub Balanced : Job → Type 0
Balanced j = j.kind ≡ 1 → sum_from (used_frames j) 0 4 ≡ sum_from (used_frames j) 4 4 + j.trimmed

-- none of 8 entries has P
abbrev pub Nowhere : (ℕ → Type 0) → Type 0
Nowhere P = Every 8 (λ i. P i → ⊥)

-- what each answer of checks 6 to 9 means: the first check that fails, at the first entry that offends
pub data Answer (j : Job) : Verdict → Type 0 where
  passes : WellFormed Label j → Nowhere (RepeatedAt j) → Nowhere (UnsupportedAt takes j) → Balanced j → Answer j (Ok tt)
  malformed : (WellFormed Label j → ⊥) → Answer j (Err Malformed)
  repeated : (e : ℕ) → WellFormed Label j → Least 8 (RepeatedAt j) e → Answer j (Err (Repeated e))
  unsupported : (e : ℕ) → WellFormed Label j → Nowhere (RepeatedAt j) → Least 8 (UnsupportedAt takes j) e → Answer j (Err (Unsupported e))
  unbalanced : WellFormed Label j → Nowhere (RepeatedAt j) → Nowhere (UnsupportedAt takes j) → (Balanced j → ⊥) → Answer j (Err Unbalanced)
