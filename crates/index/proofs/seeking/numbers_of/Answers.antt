-- The loop's invariant is the walk along the bucket's chain, and a place seen on it that has the label.
use mathlib.Core.Path.{◌∙◌}
use Prim.Native.Nat.{◌-◌}
use native.Mathlib.Omega.{arith}
use borrow.Author.Tests.{eq-eqb, ne_eqb}
use Rattle.index.proofs.Inside.{holds_at_lem}
use Rattle.index.proofs.Seeks.{look_end, look_found, look_less, look_next, look_start}
use Rattle.index.proofs.seeking.numbers_of.Goals as goal
use Rattle.index.proofs.seeking.numbers_of.Goals.{else-there-label, then-there-label}

pub loop-x-init : goal.loop-x-init
loop-x-init c = look_start _ _ _ c.requires.1 _ _ _ _ c.bucket.ensures c.number-x.ensures.0

pub entry_at-there-requires : goal.entry_at-there-requires
entry_at-there-requires c =
    let s = c in holds_at_lem _ _ s.args.m (c.loop-x.x - 1) s.requires.0
    (omega (arith, c.loop-x.invariant.walk.below, c.loop-x-test.true))

pub returns-then-agree : goal.returns-then-agree
returns-then-agree c =
    let d = c in
    let l = d in
    look_found _ _ _ l.requires.1 _ _ _ _ l.loop-x-test.true l.loop-x.invariant _ _ _ _ _
    d.entry_at-there.ensures c.agree.ensures c.if-agree.true c.number.ensures.0 c.number-then-agree.ensures.0

pub loop-x-smaller : goal.loop-x-smaller
loop-x-smaller c =
    let l = c in
    look_less _ _ _ l.requires.1 _ _ _ _ l.loop-x-test.true l.loop-x.invariant _ c.number-x-in-loop-x.ensures.0

pub loop-x-preserved : goal.loop-x-preserved
loop-x-preserved c =
    let d = c in
    let l = d in
    look_next _ _ _ l.requires.1 _ _ _ _ l.loop-x-test.true l.loop-x.invariant _ _ _ _ _
    d.entry_at-there.ensures c.agree.ensures c.if-agree.false
    (elim c.if-there-label.branch [
      | then-there-label w ↦ w.seen-is ∙ simp (eq-eqb _ _ w.if-there-label.true)
      | else-there-label w ↦ w.seen-is ∙ simp (ne_eqb _ _ w.if-there-label.false)
    ])
    c.number-x-in-loop-x.ensures.0

pub returns : goal.returns
returns c =
    let l = c in
    look_end _ _ _ l.requires.1 _ _ _ _ _ l.loop-x-test.false l.loop-x.invariant c.label_number.ensures
