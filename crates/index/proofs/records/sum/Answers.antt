-- The loop's head holds the sum of the entries so far, which is a remainder.
use mathlib.Core.Path.{◌∙◌, ◌≡◌, ap, refl}
use native.Mathlib.Omega.{arith}
use Rattle.index.proofs.Files.{sum_next}
use Rattle.index.specs.Places.{bucket_of}
use Rattle.index.specs.Records.{sum_to}
use Rattle.index.proofs.records.sum.Goals as goal

pub loop-e-init : goal.loop-e-init
unfolding sum_to
loop-e-init c = (omega arith, (omega arith, refl))

pub loop-e-preserved : goal.loop-e-preserved
loop-e-preserved c =
    let d = c in
    let bucket = d.bucket-label.ensures.0 ∙ ap bucket_of d.label.ensures in
    (omega arith, (omega arith, sum_next _ _ _ _ _ d.loop-e.invariant.1.1 bucket c.frames-frames.ensures))

pub returns : goal.returns
returns c = let e : c.loop-e.e ≡ 8 = omega arith in (rw e at c.loop-e.invariant.1.1, c.loop-e.invariant.0)
