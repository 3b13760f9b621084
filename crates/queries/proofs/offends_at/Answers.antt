-- What the set at the entry's number says, turned about for the makers.
use mathlib.Core.Bool.{Bool, beq, cond, false, not, true}
use mathlib.Core.Path.{◌≡◌, refl}
use borrow.Author.Tests.{le-ltb, lt-ltb}
use Rattle.queries.specs.Checks.{offends_at}
use Rattle.queries.proofs.offends_at.Goals as goal

turned : (met makers : Bool) → not (beq met makers) ≡ cond makers (not met) met
turned true true = refl
turned true false = refl
turned false true = refl
turned false false = refl

pub returns-then-e-count : goal.returns-then-e-count
unfolding offends_at
returns-then-e-count c = simp (lt-ltb _ _ c.if-e-count.true, c.meets.ensures, c.set_of.ensures.0) (turned _ _)

pub returns-else-e-count : goal.returns-else-e-count
unfolding offends_at
returns-else-e-count c = simp (le-ltb _ _ c.if-e-count.false)
