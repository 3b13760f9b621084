use Rattle.ledger.specs.State.{new_ledger}
use Rattle.runfile.specs.Run.{opened}
use Rattle.header.proofs.settings_in.Goals as goal

pub returns : goal.returns
unfolding opened new_ledger
returns c = simp (c.byte_at.ensures, c.byte_at-2.ensures, c.word_at.ensures, c.word_at-2.ensures)
