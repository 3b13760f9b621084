-- What stands at the input's number, where the job has so many inputs.
use borrow.Author.Tests.{le-ltb, lt-ltb}
use mathlib.Core.Path.{◌∙◌, sym}
use Rattle.supplies.specs.Suppliers.{suppliers_by}
use Rattle.supplies.proofs.suppliers.Goals as goal

pub returns-then-meets : goal.returns-then-meets
unfolding suppliers_by
returns-then-meets c =
    let m = c in
    simp (lt-ltb _ _ m.if-e-count.true, ← m.makers-makers.ensures.0, sym m.meets.ensures ∙ c.if-meets.true) c.empty.ensures

pub returns-then-e-count : goal.returns-then-e-count
unfolding suppliers_by
returns-then-e-count c =
    let m = c in
    simp (lt-ltb _ _ m.if-e-count.true, ← m.makers-makers.ensures.0, sym m.meets.ensures ∙ c.if-meets.false) c.common.ensures

pub returns : goal.returns
unfolding suppliers_by
returns c = simp (le-ltb _ _ c.if-e-count.false) c.empty-2.ensures
