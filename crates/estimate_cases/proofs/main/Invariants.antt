-- The loop counts to 1024.
use Prim.Native.Nat.{◌-◌, ◌≤◌}
use Rattle.estimate_cases.proofs.main.Given as goal

abbrev pub invariant-loop-k : goal.invariant-loop-k
invariant-loop-k l = l.k ≤ 1024

abbrev pub decreases-loop-k : goal.decreases-loop-k
decreases-loop-k l = 1024 - l.k
