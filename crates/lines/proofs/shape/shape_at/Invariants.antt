-- Each turn looks at a character.
use Rattle.lines.proofs.Scans.{Scanning}
use Rattle.notation.specs.Lines.{unseen}
use Rattle.lines.proofs.shape.shape_at.Given as goal

abbrev pub invariant-loop-at : goal.invariant-loop-at
invariant-loop-at l = Scanning (unseen l.k) l.text l.from l.s l.at
