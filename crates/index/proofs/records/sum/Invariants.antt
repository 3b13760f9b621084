-- The loop's head holds the sum of the entries so far, which is a remainder.
use mathlib.Core.Path.{◌≡◌}
use Prim.Native.Nat.{◌-◌, ◌<◌, ◌≤◌}
use Rattle.index.specs.Places.{buckets}
use Rattle.index.specs.Records.{sum_to}
use Rattle.index.proofs.records.sum.Given as goal

abbrev pub invariant-loop-e : goal.invariant-loop-e
invariant-loop-e l = (l.sum < buckets) × ((l.e ≤ 8) × (l.sum ≡ sum_to l.e l.a))

abbrev pub decreases-loop-e : goal.decreases-loop-e
decreases-loop-e l = 8 - l.e
