-- Below 16 the shifted 1 is the power of 2; at or above, nothing changes.
use mathlib.Core.Path.{sym, ◌∙◌}
use Rattle.sets.proofs.Bits.{or_shl, member_below, member_beyond}
use Rattle.sets.proofs.vaults.with.Goals as goal

pub returns-then-vault-lt16 : goal.returns-then-vault-lt16
returns-then-vault-lt16 c =
    or_shl 16 c.args.set c.args.vault c.if-vault-lt16.true
    ∙ sym (member_below 16 c.args.set c.args.vault c.if-vault-lt16.true)

pub returns-else-vault-lt16 : goal.returns-else-vault-lt16
returns-else-vault-lt16 c = sym (member_beyond 16 c.args.set c.args.vault c.if-vault-lt16.false)
