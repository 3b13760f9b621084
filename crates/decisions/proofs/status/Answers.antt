-- Each return is one way through the two comparisons with the threshold, that of finished first.
use Rattle.ledger.specs.Decisions.{status_of}
use borrow.Author.Tests.{le-leb, lt-leb}
use Rattle.decisions.proofs.status.Goals as goal

pub returns-then-threshold-size : goal.returns-then-threshold-size
unfolding status_of
returns-then-threshold-size c = simp (← c.threshold-threshold.ensures, ← c.size.ensures, le-leb _ _ c.if-threshold-size.true)

pub returns-then-threshold-size-2 : goal.returns-then-threshold-size-2
unfolding status_of
returns-then-threshold-size-2 c =
    simp (
      ← c.threshold-threshold.ensures,
      ← c.size.ensures,
      lt-leb _ _
          c.if-threshold-size.false,
      ← c.size-2.ensures,
      le-leb _ _ c.if-threshold-size-2.true,
    )

pub returns : goal.returns
unfolding status_of
returns c =
    simp (
      ← c.threshold-threshold.ensures,
      ← c.size.ensures,
      lt-leb _ _
          c.if-threshold-size.false,
      ← c.size-2.ensures,
      lt-leb _ _ c.if-threshold-size-2.false,
    )
