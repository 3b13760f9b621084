use Rattle.vaults.specs.Vaults.{unsigning}
use Rattle.vaults.proofs.Vault.release.Goals as goal

pub returns : goal.returns
unfolding unsigning
returns c = simp c.without-signed.ensures
