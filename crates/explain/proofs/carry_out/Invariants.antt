-- A run that has more to read and all that it keeps are right, and each step is one more, so the loop ends.
use Rattle.std.proofs.Common.{◌-◌, length}
use Rattle.explain.proofs.Turning.{Turn}
use Rattle.explain.proofs.carry_out.Given as goal

abbrev pub invariant-loop-progress : goal.invariant-loop-progress
invariant-loop-progress l =
    Turn l.input l.progress l.named l.memo l.journal l.numbers l.sets l.records l.out

abbrev pub decreases-loop-progress : goal.decreases-loop-progress
decreases-loop-progress l =
    length l.input - l.progress.count
