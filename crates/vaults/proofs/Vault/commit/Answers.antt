use Rattle.vaults.specs.Vaults.{holding}
use Rattle.vaults.proofs.Vault.commit.Goals as goal

pub returns : goal.returns
unfolding holding
returns c = simp c.with-held.ensures
