use mathlib.Core.Bool.{false}
use mathlib.Core.Path.{◌≡◌}
use Prim.Native.Nat.{◌-◌, ◌≤◌}
use lib.ListN.{length}
use Rattle.base.specs.Search.{any_below}
use Rattle.generations.specs.Generations.{is_at}
use Rattle.arrivals.proofs.has_arrived.Given as goal

abbrev pub invariant-loop-i : goal.invariant-loop-i
invariant-loop-i l = (l.n ≤ length l.order) × ((l.i ≤ l.n) × (any_below l.i (is_at l.order l.job) ≡ false))

abbrev pub decreases-loop-i : goal.decreases-loop-i
decreases-loop-i l = l.n - l.i
