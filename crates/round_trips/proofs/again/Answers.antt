-- What is written is the record of the job that the bytes say, and that is the bytes.
use native.Mathlib.Omega.{arith}
use Rattle.codec.proofs.Jobs.{front_eight}
use Rattle.codec.proofs.RoundTrip.{same_bytes}
use Rattle.round_trips.proofs.again.Goals as goal

pub returns : goal.returns
returns c =
    let k = c in
    let w = c in
    let q = w.read.ensures in
    same_bytes _ _ _ _ _ (front_eight _ _ _ q) k.requires.0 k.requires.1 (λ i. omega (arith, k.shared_slice_known-1.given i)) q
    w.write.ensures.1
