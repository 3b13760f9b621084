-- The buffer that each job's line is written into keeps its length.
use mathlib.Core.Path.{◌≡◌}
use lib.ListN.{length}
use Rattle.explain.proofs.print_sheet.Given as goal

abbrev pub invariant-loop-job : goal.invariant-loop-job
invariant-loop-job l = length l.out ≡ length l.initial.out
