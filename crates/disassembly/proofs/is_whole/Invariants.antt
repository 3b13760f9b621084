-- Each turn passes over a step, and a file has no more steps than bytes.
use Rattle.disassembly.proofs.Walks.{Walking}
use Rattle.disassembly.proofs.is_whole.Given as goal

abbrev pub invariant-loop : goal.invariant-loop
invariant-loop l = Walking l.version l.input l.counter l.pos
