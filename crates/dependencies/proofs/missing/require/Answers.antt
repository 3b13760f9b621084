-- A signed job needs nothing; of any other the missing jobs are sought among what correct vaults hold.
use Rattle.ledger.specs.Decisions.{requiring}
use mathlib.Core.Path.{◌∙◌, sym}
use Rattle.dependencies.proofs.missing.require.Goals as goal

pub returns-then-has : goal.returns-then-has
unfolding requiring
returns-then-has c = simp (sym c.has.ensures ∙ c.if-has.true, ← c.empty.ensures) c.list.ensures

pub returns : goal.returns
unfolding requiring
returns c =
    simp (sym c.has.ensures ∙ c.if-has.false, ← c.held_somewhere-elsewhere.ensures) c.supply.ensures
