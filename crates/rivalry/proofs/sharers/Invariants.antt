-- The jobs so far are those at the labels of the entries so far.
use mathlib.Core.Path.{◌≡◌}
use Prim.Native.Nat.{◌-◌, ◌≤◌}
use Rattle.job_sets.specs.Jobs.{InWords}
use Rattle.rivalry.specs.Rivals.{sharers_by}
use Rattle.rivalry.proofs.sharers.Given as goal

abbrev pub invariant-loop-e : goal.invariant-loop-e
invariant-loop-e l = (l.e ≤ 4) × ((l.found ≡ sharers_by l.numbers l.sets l.count l.at l.kind l.e) × InWords l.found)

abbrev pub decreases-loop-e : goal.decreases-loop-e
decreases-loop-e l = 4 - l.e
