use Rattle.assembly.proofs.Passing.{Passing}
use Rattle.notation.specs.Files.{after_line}
use Rattle.assembly.proofs.places.after_line.Given as goal

abbrev pub invariant-loop-at : goal.invariant-loop-at
invariant-loop-at l = Passing after_line l.text l.from l.at
