-- Each turn stores the lowest byte of what remains, and what is stored with what remains is the whole number.
use mathlib.Core.Path.{◌∙◌, ◌≡◌, refl}
use Prim.Native.Nat.{◌-◌}
use native.Mathlib.Nat.{add-zero, sub-zero}
use native.Mathlib.Omega.{arith}
use lib.ListN.{length-set}
use Rattle.codec.proofs.Numbers.{put_step}
use Rattle.codec.specs.Codec.{le_bytes}
use Rattle.codec.proofs.put_number.Goals as goal

pub loop-k-init : goal.loop-k-init
loop-k-init c = (omega arith, (refl, rw (add-zero, sub-zero)))

pub loop-k-preserved : goal.loop-k-preserved
loop-k-preserved c =
    let l = c.loop-k in
    let a = c.args in
    (omega arith, (simp length-set l.invariant.1.0, put_step l.out a.at l.k a.count l.v c.loop-k-test.true ∙ l.invariant.1.1))

pub returns : goal.returns
unfolding le_bytes
returns c = let n : c.args.count - c.loop-k.k ≡ 0 = omega arith in rw n at c.loop-k.invariant.1.1
