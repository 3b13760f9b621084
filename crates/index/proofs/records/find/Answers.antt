-- The loop's invariant is the walk along the chain of the sum, and the first equal found so far.
use mathlib.Core.Path.{◌∙◌, sym}
use Prim.Native.Nat.{◌-◌}
use native.Mathlib.Omega.{arith}
use Rattle.index.proofs.Files.{find_end, find_less, find_next, find_start}
use Rattle.index.proofs.Inside.{inside_record}
use Rattle.index.proofs.Tables.{indexed_filed}
use Rattle.index.proofs.records.find.Goals as goal
use Rattle.index.proofs.records.find.Goals.{else-equal_at, then-equal_at}

pub number-x-requires : goal.number-x-requires
number-x-requires c = omega (arith, (indexed_filed _ _ _ _ c.requires.1).size)

pub loop-x-init : goal.loop-x-init
loop-x-init c =
    let p = c.requires in
    find_start _ _ _ _ _ (indexed_filed _ _ _ _ p.1) _ _ _ p.0 c.sum.ensures c.number-x.ensures.0

pub equal_at-requires : goal.equal_at-requires
equal_at-requires c =
    let t = c.requires.1 in
    let a = c.args in
    (inside_record a.version a.journal.now a.n (c.loop-x.x - 1) t.few t.inside
    (omega (arith, c.loop-x.invariant.below, c.loop-x-test.true))).inside

pub number-x-requires-in-loop-x : goal.number-x-requires-in-loop-x
number-x-requires-in-loop-x c = omega (arith, (indexed_filed _ _ _ _ c.requires.1).size)

pub loop-x-smaller : goal.loop-x-smaller
loop-x-smaller c =
    let d = c in
    let t = indexed_filed _ _ _ _ d.requires.1 in
    find_less _ _ _ _ _ t _ _ c.loop-x-test.true d.loop-x.invariant _ c.number-x-in-loop-x.ensures.0

pub loop-x-preserved : goal.loop-x-preserved
loop-x-preserved c =
    let d = c in
    let t = indexed_filed _ _ _ _ d.requires.1 in
    find_next _ _ _ _ _ t _ _ c.loop-x-test.true d.loop-x.invariant _ _ c.number-x-in-loop-x.ensures.0
    (elim c.if-equal_at.branch [
      | then-equal_at w ↦ w.found-is ∙ simp (sym c.equal_at.ensures ∙ w.if-equal_at.true)
      | else-equal_at w ↦ w.found-is ∙ simp (sym c.equal_at.ensures ∙ w.if-equal_at.false)
    ])

pub returns : goal.returns
returns c =
    let d = c in
    find_end _ _ _ _ _ (indexed_filed _ _ _ _ d.requires.1) _ _ c.loop-x-test.false d.loop-x.invariant
