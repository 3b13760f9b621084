use Rattle.assembly.proofs.Passing.{Passing}
use Rattle.notation.specs.Files.{skip_blanks}
use Rattle.assembly.proofs.places.skip_blanks.Given as goal

abbrev pub invariant-loop-at : goal.invariant-loop-at
invariant-loop-at l = Passing skip_blanks l.text l.from l.at
