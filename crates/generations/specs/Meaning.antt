-- Generations said without a search ("Vaults"): "0 for an accession, else one more than the largest among the jobs that created its
-- inputs".
use Rattle.std.specs.Prelude.{true, ◌≡◌, ◌<◌, suc, ℕ}
use Rattle.base.specs.Search.{Some}
use Rattle.record.specs.Entries.{is_used}
use Rattle.record.specs.declared.Job.{Job}
use Rattle.generations.specs.Generations.{created_at, generation_at}

module _ (job : ℕ → Job) (order : ℕ → ℕ) (p : ℕ) where
  -- entry i is an input of the job at p
  pub record InputAt (i : ℕ) : Type 0 where
    pub four : i < 4
    pub used : is_used (job (order p)) i ≡ true

  -- the job at q created input i of the job at p: it made the tape, and no other job before p did
  pub record Created (i q : ℕ) : Type 0 where
    pub earlier : q < p
    pub made : created_at job order p i q ≡ true
    pub only : (r : ℕ) → r < p → created_at job order p i r ≡ true → r ≡ q

  -- g are the generations at p, whose input i the job at c i created
  pub record Generations (c : ℕ → ℕ) (g : ℕ) : Type 0 where
    -- "0 for an accession"
    pub accession : ((i : ℕ) → InputAt i → ⊥) → g ≡ 0
    -- else one more than those of a creator
    pub reached : (i : ℕ) → InputAt i → Some 4 (λ k. InputAt k × (g ≡ suc (generation_at job order (c k))))
    -- of which none has more
    pub above : (i : ℕ) → InputAt i → generation_at job order (c i) < g
