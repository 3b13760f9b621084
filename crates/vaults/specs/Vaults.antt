-- A vault ("Vaults"): the jobs that it holds and those that it has signed and not released. Both sets go into a step and come back from it.
use Rattle.std.specs.Prelude.{cond, ℕ, Ok, Err}
use Rattle.outcome.specs.Figures.{Verdict}
use Rattle.job_sets.specs.Jobs.{job_has, job_with, job_without}
use Rattle.vaults.specs.declared.Vault.{Vault}
use Rattle.vaults.specs.declared.Signing.{Signing}
use Rattle.vaults.specs.declared.Consent.TheVariants.{Already, Fresh, Denied}

-- "both empty at first"
abbrev pub new_vault : Vault
new_vault = record { held = record { low = 0; high = 0 }; signed = record { low = 0; high = 0 } }

unfoldable pub signing : Vault → ℕ → Vault
signing v k = record { held = v.held; signed = job_with v.signed k }

unfoldable pub holding : Vault → ℕ → Vault
holding v k = record { held = job_with v.held k; signed = v.signed }

-- the job is released (document 02): it is no longer among those that the vault has signed
unfoldable pub unsigning : Vault → ℕ → Vault
unsigning v k = record { held = v.held; signed = job_without v.signed k }

-- the vault's answer where checks 11 to 14 are what decides
abbrev pub consented : Verdict → Vault → ℕ → Signing
consented (Ok _) v k = record { consent = Fresh; vault = signing v k }
consented (Err why) v k = record { consent = Denied why; vault = v }

-- "A job signed here before is accepted again and changes nothing. Otherwise the vault signs if and only if checks 11 to
-- 14 pass."
unfoldable pub vault_preflight : Vault → Verdict → ℕ → Signing
vault_preflight v admission k =
    cond (job_has v.signed k) (record { consent = Already; vault = v }) (consented admission v k)
