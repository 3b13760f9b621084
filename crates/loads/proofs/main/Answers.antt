-- The buffer keeps its length, and no answer is longer.
use mathlib.Core.Path.{◌∙◌, ◌≡◌, ap, sym}
use native.Mathlib.Omega.{arith}
use lib.ListN.{length}
use lib.Seq.{length-sets}
use Rattle.loads.proofs.main.Goals as goal

pub slice_bounds-print-end : goal.slice_bounds-print-end
slice_bounds-print-end c = sym (ap length c.load-written.ensures.0.wrote ∙ simp length-sets)

pub print-requires : goal.print-requires
print-requires c = let e : length c.load-written.new.out ≡ 20209 = ap length c.load-written.ensures.0.wrote ∙ simp length-sets in
    omega (arith, e, c.load-written.ensures.1)
