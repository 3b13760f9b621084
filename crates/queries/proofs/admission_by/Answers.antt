-- Each return is one way through the searches.
use mathlib.Core.Path.{◌∙◌, sym}
use borrow.Author.Tests.{lt-ltb}
use Rattle.queries.proofs.Found.{found_below}
use Rattle.queries.specs.Checks.{admission_by, first_offending}
use Rattle.queries.proofs.admission_by.Goals as goal

pub returns-in-Some : goal.returns-in-Some
unfolding admission_by first_offending
returns-in-Some c = simp (c.in-Some.ensures.1, lt-ltb _ _ c.in-Some.ensures.0)

pub returns-then-is_some : goal.returns-then-is_some
unfolding admission_by first_offending
returns-then-is_some c =
    let some = found_below _ _ _ c.first_offending-2.ensures ∙ sym c.is_some.ensures ∙ c.if-is_some.true in
    simp (c.in_default.ensures, ← c.union-known.ensures, some) c.consumed.ensures

pub returns : goal.returns
unfolding admission_by first_offending
returns c =
    let none = found_below _ _ _ c.first_offending-2.ensures ∙ sym c.is_some.ensures ∙ c.if-is_some.false in
    simp (c.in_default.ensures, ← c.union-known.ensures, none) c.remade.ensures
