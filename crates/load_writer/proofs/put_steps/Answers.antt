-- What is written, with what remains to be written, is always all the steps.
use mathlib.Core.Path.{◌∙◌, refl}
use native.Mathlib.Omega.{arith}
use Rattle.load.proofs.Writes.{no_bytes, rest_none, rest_on}
use Rattle.load_writer.proofs.put_steps.Goals as goal

pub loop-i-init : goal.loop-i-init
loop-i-init c = (omega arith, (refl, (omega arith, record { moved = refl; wrote = refl })))

pub loop-i-preserved : goal.loop-i-preserved
loop-i-preserved c = let l = c.loop-i in
    let a = c.args in (
      omega arith,
      (
        c.put-at.auto.out ∙ l.invariant.1.0,
        (
          omega arith,
          rest_on a.plan l.i l.now _ _ _ c.loop-i-test.true
              c.advance-now.ensures c.draw.ensures
              c.nth.ensures l.invariant.1.1.1 c.put-at.ensures.0,
        ),
      ),
    )

pub shape_of-out : goal.shape_of-out
shape_of-out c = c.loop-i.invariant.1.0

pub returns : goal.returns
returns c = let l = c.loop-i in let a = c.args in
    (rest_none (rw (no_bytes a.plan l.i l.now c.loop-i-test.false) at l.invariant.1.1.1), omega arith)
