-- Each piece brings the run nearer to its end, and goes behind those before it.
use Prim.Native.Nat.{◌-◌}
use lib.ListN.{length}
use Rattle.exported.proofs.Turns.{Turn}
use Rattle.exported.proofs.carry_out.Given as goal

abbrev pub invariant-loop-progress : goal.invariant-loop-progress
invariant-loop-progress l =
    Turn l.input l.fits l.initial.out l.progress l.memo l.journal l.numbers l.sets l.records l.piece l.out l.at

abbrev pub decreases-loop-progress : goal.decreases-loop-progress
decreases-loop-progress l =
    length l.input - l.progress.pos
