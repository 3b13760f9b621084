-- Each return is one way through the search.
use borrow.Author.Tests.{lt-ltb}
use Rattle.queries.specs.Checks.{first_offending, remade_by}
use Rattle.queries.proofs.remade.Goals as goal

pub returns-in-Some : goal.returns-in-Some
unfolding remade_by first_offending
returns-in-Some c = simp (c.in-Some.ensures.1, lt-ltb _ _ c.in-Some.ensures.0)

pub returns : goal.returns
unfolding remade_by first_offending
returns c = simp (c.in_default.ensures)
