-- Each turn writes the line of a step.
use Rattle.disassembly.proofs.Saying.{Saying}
use Prim.Native.Nat.{◌-◌}
use lib.ListN.{length}
use Rattle.disassembly.proofs.put_lines.Given as goal

abbrev pub invariant-loop-pos : goal.invariant-loop-pos
invariant-loop-pos l = Saying l.version l.input l.initial.out l.start l.pos l.end l.out

abbrev pub decreases-loop-pos : goal.decreases-loop-pos
decreases-loop-pos l = length l.input - l.pos
