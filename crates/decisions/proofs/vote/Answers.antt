-- The value counts the votes with the vault's own.
use Rattle.decisions.proofs.vote.Goals as goal

pub returns : goal.returns
returns c = simp (c.size.ensures, c.with.ensures)
