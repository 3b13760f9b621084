-- The sum so far with that of the entries that remain is the sum of all; four numbers of 32 bits fit 64.
use mathlib.Core.Path.{refl}
use native.Mathlib.Omega.{arith}
use Rattle.base.proofs.Search.{sum_end, sum_next, sum_start}
use Rattle.balances.proofs.total.Goals as goal

pub loop-i-init : goal.loop-i-init
loop-i-init c = (omega arith, (c.requires, (omega arith, sum_start _ _ _ _ refl)))

pub loop-i-preserved : goal.loop-i-preserved
loop-i-preserved c =
    let l = c.loop-i in
    let next = sum_next _ _ _ _ l.i l.sum c.loop-i-test.true l.invariant.1.1.1 in
    (omega arith, (l.invariant.1.0, (omega (arith, c.used_frames.type_inv, c.from-sum.ensures), rw (c.from-sum.ensures, c.used_frames.ensures) next)))

pub returns : goal.returns
returns c = let l = c.loop-i in (sum_end _ _ _ _ l.i _ c.loop-i-test.false l.invariant.1.1.1, omega (arith, l.invariant.1.1.0))

pub overflow_add-sum : goal.overflow_add-sum
overflow_add-sum c = omega (arith, c.used_frames.type_inv, c.from-sum.ensures)
