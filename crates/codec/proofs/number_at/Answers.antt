-- The bytes are taken from the highest down, so what is gathered is always the number of those above k.
use mathlib.Core.Path.{◌≡◌}
use Prim.Native.Nat.{◌*◌, ◌-◌, suc}
use native.Mathlib.Nat.{sub_self}
use native.Mathlib.Omega.{arith}
use lib.Dec.{lit<}
use lib.Pow.{pow_mono}
use Rattle.codec.proofs.Numbers.{le_at_all, le_at_down, le_at_none, more_lt, room}
use Rattle.codec.proofs.number_at.Goals as goal

pub loop-k-init : goal.loop-k-init
loop-k-init c = (omega arith, (le_at_none _ _ _, rw sub_self (lit< tt)))

pub overflow_mul-acc : goal.overflow_mul-acc
overflow_mul-acc c =
    let l = c.loop-k in
    omega (arith, room l.k c.args.count l.acc c.loop-k-test.true c.requires.1 l.invariant.1.1)

pub overflow_add-acc : goal.overflow_add-acc
overflow_add-acc c =
    let l = c.loop-k in
    let s = c in
    omega (arith, room l.k s.args.count l.acc c.loop-k-test.true s.requires.1 l.invariant.1.1, c.byte_at.type_inv)

pub loop-k-preserved : goal.loop-k-preserved
loop-k-preserved c =
    let l = c.loop-k in
    let a = c.args in
    let n : a.count - (l.k - 1) ≡ suc (a.count - l.k) = omega arith in (
      omega arith,
      (
        rw c.byte_at.ensures (le_at_down a.s.now a.at l.k a.count l.acc c.loop-k-test.true l.invariant.0 l.invariant.1.0),
        rw n (more_lt (a.count - l.k) l.acc c.byte_at.result l.invariant.1.1 (omega (arith, c.byte_at.type_inv))),
      ),
    )

pub returns : goal.returns
returns c =
    let l = c.loop-k in
    let count = c.args.count in
    (le_at_all _ _ l.k _ _ c.loop-k-test.false l.invariant.1.0, omega (arith, pow_mono {i = 8 * (count - l.k)} {j = 8 * count} (omega arith)))
