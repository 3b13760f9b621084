-- The union so far is that of the inputs so far.
use mathlib.Core.Path.{◌≡◌}
use Prim.Native.Nat.{◌*◌, ◌+◌, ◌-◌, ◌≤◌}
use Rattle.supplies.specs.Suppliers.{missing_by}
use Rattle.index.specs.Places.{places}
use Rattle.supplies.proofs.missing_by.Given as goal

abbrev pub invariant-loop-e : goal.invariant-loop-e
invariant-loop-e l =
    (l.e ≤ 4) × (l.jobs ≡ missing_by l.numbers l.sets l.count (places + 8 * l.job) l.held l.elsewhere l.e)

abbrev pub decreases-loop-e : goal.decreases-loop-e
decreases-loop-e l = 4 - l.e
