-- Where the run will end stays the same, and each piece brings it nearer.
use Prim.Native.Nat.{◌-◌}
use lib.ListN.{length}
use Rattle.whole_run.proofs.Turns.{Turn}
use Rattle.whole_run.proofs.run_out.Given as goal

abbrev pub invariant-loop-progress : goal.invariant-loop-progress
invariant-loop-progress l =
    Turn l.input l.progress l.initial.journal l.journal l.memo l.numbers l.sets l.records l.out

abbrev pub decreases-loop-progress : goal.decreases-loop-progress
decreases-loop-progress l = length l.input - l.progress.pos
