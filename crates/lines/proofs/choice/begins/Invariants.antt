-- Each turn passes over a character that is not shown, or one that the line has too.
use Rattle.lines.proofs.Choices.{Comparing}
use Rattle.lines.proofs.choice.begins.Given as goal

abbrev pub invariant-loop-c : goal.invariant-loop-c
invariant-loop-c l = Comparing l.row l.text l.from l.c-index l.at
