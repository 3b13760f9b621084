use Rattle.ledger.specs.State.{new_ledger}
use Rattle.books.proofs.empty.Goals as goal

pub returns : goal.returns
unfolding new_ledger
returns c = simp (c.new-vaults.ensures, c.empty-seen.ensures)
