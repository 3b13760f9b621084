-- Each return is one way through the tests.
use mathlib.Core.Bool.{true≢false}
use mathlib.Core.Path.{◌∙◌, sym}
use borrow.Author.Tests.{eq-eqb, le-leb, lt-leb, ne_eqb}
use Rattle.runfile.specs.Run.{is_header}
use Rattle.header.proofs.is_header.Goals as goal
use Rattle.header.proofs.is_header.Goals.{else-input-eq86, then-input-eq86}

pub returns-then-input-lt-SIZE : goal.returns-then-input-lt-SIZE
unfolding is_header
returns-then-input-lt-SIZE c = simp (lt-leb _ _ c.if-input-lt-SIZE.true)

pub returns-else-input-eq76 : goal.returns-else-input-eq76
unfolding is_header
returns-else-input-eq76 c =
    elim c.if-input-eq86.branch [
      | then-input-eq86 w ↦
          simp (le-leb _ _ c.if-input-lt-SIZE.false, eq-eqb _ _ w.if-input-eq86.true, sym w.value-is ∙ c.if-input-eq76.false) c.if-input-eq76.false
      | else-input-eq86 w ↦ simp (le-leb _ _ c.if-input-lt-SIZE.false, ne_eqb _ _ w.if-input-eq86.false) c.if-input-eq76.false
    ]

pub returns-then-input-eq76 : goal.returns-then-input-eq76
unfolding is_header
returns-then-input-eq76 c =
    elim c.if-input-eq86.branch [
      | then-input-eq86 w ↦ simp (le-leb _ _ c.if-input-lt-SIZE.false, eq-eqb _ _ w.if-input-eq86.true, sym w.value-is ∙ c.if-input-eq76.true)
      | else-input-eq86 w ↦ absurd (true≢false (sym c.if-input-eq76.true ∙ w.value-is ∙ ne_eqb _ _ w.if-input-eq86.false))
    ]
