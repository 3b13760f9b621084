-- Each sum so far with that of the entries that remain is the sum of all; five numbers of 32 bits fit 64.
use native.Mathlib.Nat.{add-zero}
use native.Mathlib.Omega.{arith}
use Rattle.base.proofs.Search.{sum_end, sum_next}
use Rattle.ranges.specs.Tighten.{span_of}
use Rattle.spans.proofs.half_span.Goals as goal

pub loop-i-init : goal.loop-i-init
loop-i-init c = (omega arith, (c.requires.0, ((omega arith, omega arith), (simp add-zero, simp add-zero))))

pub loop-i-preserved : goal.loop-i-preserved
loop-i-preserved c =
    let l = c.loop-i in
    let inside = c.loop-i-test.true in
    let sums = l.invariant.1.1.1 in (
      omega arith,
      (
        l.invariant.1.0,
        (
          (omega (arith, c.from-least.ensures), omega (arith, c.from-most.ensures)),
          (
            rw c.from-least.ensures (sum_next _ _ _ _ l.i l.least inside sums.0),
            rw c.from-most.ensures (sum_next _ _ _ _ l.i l.most inside sums.1),
          ),
        ),
      ),
    )

pub returns : goal.returns
unfolding span_of
returns c =
    let l = c.loop-i in
    let out = c.loop-i-test.false in
    let sums = l.invariant.1.1.1 in
    record {
      value = simp (sum_end _ _ _ _ l.i l.least out sums.0, sum_end _ _ _ _ l.i l.most out sums.1);
      least_bound = (omega arith, omega arith);
    }

pub overflow_add-least : goal.overflow_add-least
overflow_add-least c = omega (arith, c.from-least.ensures)

pub overflow_add-most : goal.overflow_add-most
overflow_add-most c = omega (arith, c.from-most.ensures)
