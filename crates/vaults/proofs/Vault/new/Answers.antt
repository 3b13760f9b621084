-- `new` is what `no_jobs` says.
use Rattle.job_sets.specs.Jobs.{no_jobs}
use Rattle.vaults.proofs.Vault.new.Goals as goal

pub returns : goal.returns
unfolding no_jobs
returns c = simp c.empty-none.ensures
