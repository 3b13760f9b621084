-- Each return is one way through the two searches.
use borrow.Author.Tests.{lt-ltb}
use Rattle.queries.specs.Checks.{consumed_by, first_offending}
use Rattle.queries.proofs.consumed.Goals as goal

pub returns-in-Some : goal.returns-in-Some
unfolding consumed_by first_offending
returns-in-Some c = simp (c.in-Some.ensures.1, lt-ltb _ _ c.in-Some.ensures.0)

pub returns-in-Some-first_offending : goal.returns-in-Some-first_offending
unfolding consumed_by first_offending
returns-in-Some-first_offending c =
    let found = c.in-Some-first_offending.ensures in
    simp (c.in_default.ensures, found.1, lt-ltb _ _ found.0)

pub returns : goal.returns
unfolding consumed_by first_offending
returns c = simp (c.in_default.ensures, c.in_default-first_offending.ensures)
