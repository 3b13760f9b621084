-- Each return is one way through the two searches.
use mathlib.Core.Path.{◌∙◌, sym}
use Rattle.queries.proofs.Found.{found_below}
use Rattle.queries.specs.Checks.{first_offending}
use Rattle.rivalry.specs.Rivals.{conflicts_by}
use Rattle.rivalry.proofs.conflicts_by.Goals as goal

pub returns-then-is_some : goal.returns-then-is_some
unfolding conflicts_by first_offending
returns-then-is_some c = simp (found_below _ _ _ c.first_offending.ensures ∙ sym c.is_some.ensures ∙ c.if-is_some.true) c.if-is_some.true

pub returns-else-is_some : goal.returns-else-is_some
unfolding conflicts_by first_offending
returns-else-is_some c =
    simp (
      found_below _ _ _ c.first_offending.ensures ∙ sym c.is_some.ensures ∙ c.if-is_some.false,
      found_below _ _ _ c.first_offending-else-is_some.ensures ∙ sym c.is_some-else-is_some.ensures,
    )
