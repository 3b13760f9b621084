-- The product is the place, and its bound is asked.
use Prim.Native.Nat.{◌*◌, ◌<◌, ◌^◌}
use native.Mathlib.Omega.{arith}
use Rattle.codec.specs.Codec.{place_of, record_size}
use Rattle.codec.proofs.place.Goals as goal

pub overflow_mul-result : goal.overflow_mul-result
unfolding place_of
overflow_mul-result c =
    let a = c.args in
    let h : record_size a.version * a.k < 2 ^ 64 = c.requires in
    rw c.record_size.ensures.0 (omega (arith, h))

pub returns : goal.returns
unfolding place_of
returns c = rw c.record_size.ensures.0
