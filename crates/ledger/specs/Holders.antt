-- Check 18, of kind 8: "no sound vault holds the job"; and the jobs that kind 11 considers.
use Rattle.std.specs.Prelude.{Bool, ◌&&◌, cond, not, List, suc, zero, ℕ, get_or}
use Rattle.base.specs.Search.{any_below}
use Rattle.sets.specs.Bits.{has_bit}
use Rattle.job_sets.specs.Jobs.{job_has, job_union, no_jobs}
use Rattle.job_sets.specs.declared.job_set.JobSet.{JobSet}
use Rattle.federation.specs.declared.Settings.{Settings}
use Rattle.vaults.specs.Vaults.{new_vault}
use Rattle.vaults.specs.declared.Vault.{Vault}

-- vault v is correct and holds the job
unfoldable pub holds_at : Settings → List Vault → ℕ → ℕ → Bool
holds_at s vaults job v = not (has_bit s.faulty v) && job_has (get_or vaults v new_vault).held job

-- check 18 passes: some correct vault holds the job
unfoldable pub is_held : Settings → List Vault → ℕ → Bool
is_held s vaults job = any_below s.n (holds_at s vaults job)

-- the jobs that correct vaults below n hold
unfoldable pub held_below : Settings → List Vault → ℕ → JobSet
held_below s vaults zero = no_jobs
held_below s vaults (suc n) =
    cond (has_bit s.faulty n) (held_below s vaults n) (job_union (held_below s vaults n) (get_or vaults n new_vault).held)

-- "jobs that at least one sound vault holds"
abbrev pub held_somewhere : Settings → List Vault → JobSet
held_somewhere s vaults = held_below s vaults s.n
