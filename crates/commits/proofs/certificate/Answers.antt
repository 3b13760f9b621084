-- Each return is one way through checks 15 and 16.
use Rattle.ledger.specs.Decisions.{certificate}
use borrow.Author.Tests.{le-leb, lt-leb, not-false, not-true}
use Rattle.commits.proofs.certificate.Goals as goal

pub returns-then-not-subset : goal.returns-then-not-subset
unfolding certificate
returns-then-not-subset c = simp (← c.subset.ensures, not-true c.subset.result c.if-not-subset.true-raw)

pub returns-then-size-threshold : goal.returns-then-size-threshold
unfolding certificate
returns-then-size-threshold c =
    let t = c in
    let subset = not-false t.subset.result c.if-not-subset.false-raw in
    simp (← t.subset.ensures, subset, ← c.size.ensures, ← c.threshold.ensures, lt-leb _ _ c.if-size-threshold.true)

pub returns : goal.returns
unfolding certificate
returns c =
    let t = c in
    let subset = not-false t.subset.result c.if-not-subset.false-raw in
    simp (← t.subset.ensures, subset, ← c.size.ensures, ← c.threshold.ensures, le-leb _ _ c.if-size-threshold.false)
