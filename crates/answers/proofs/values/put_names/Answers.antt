-- Each turn writes a member, or passes a number over.
use Rattle.answers.proofs.Names.{name_begun, name_end, name_none, name_pass, name_turn}
use native.Mathlib.Omega.{arith}
use Rattle.answers.proofs.values.put_names.Goals as goal
use Rattle.answers.proofs.values.put_names.Goals.{else-has, then-has}

pub loop-i-init : goal.loop-i-init
loop-i-init c = name_begun _ _ _

pub loop-i-preserved : goal.loop-i-preserved
loop-i-preserved c =
    let l = c.loop-i.invariant in
    elim c.if-has.branch [
      | then-has w ↦ rw (w.out-is, w.end-is, w.first-is)
          (name_turn l _ _ _ c.loop-i-test.true c.has.ensures w.if-has.true w.put_member-end.ensures.0 w.put_member-end.ensures.1)
      | else-has w ↦ rw (w.out-is, w.end-is, w.first-is) (name_pass l _ c.loop-i-test.true c.has.ensures w.if-has.false)
    ]

pub returns-then-first : goal.returns-then-first
returns-then-first c =
    let inv = c.loop-i.invariant in
    (name_none inv c.loop-i-test.false c.if-first.true c.put.ensures.0, omega (arith, inv.few, inv.within, c.put.ensures.1))

pub returns : goal.returns
returns c =
    let inv = c.loop-i.invariant in
    (name_end inv c.loop-i-test.false c.if-first.false, omega (arith, inv.few, inv.within))
