use Rattle.vaults.specs.Vaults.{signing}
use Rattle.vaults.proofs.Vault.sign.Goals as goal

pub returns : goal.returns
unfolding signing
returns c = simp c.with-signed.ensures
