use Rattle.ledger.specs.Steps.{new_of}
use Rattle.books.proofs.new.Goals as goal

pub returns-then-is_lawful : goal.returns-then-is_lawful
unfolding new_of
returns-then-is_lawful c = simp (← c.empty-ledger.ensures, ← c.is_lawful.ensures, c.if-is_lawful.true, c.threshold.ensures)

pub returns : goal.returns
unfolding new_of
returns c = simp (← c.empty-ledger.ensures, ← c.is_lawful.ensures, c.if-is_lawful.false)
