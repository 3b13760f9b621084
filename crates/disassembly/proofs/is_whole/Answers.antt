-- Each turn passes over a step.
use Rattle.base.proofs.Tests.{tests}
use Rattle.disassembly.proofs.Walks.{walks}
use borrow.Author.Rules.{rules}
use Rattle.disassembly.proofs.is_whole.Goals as goal

ruleset by = (walks, tests, rules)

pub loop-init : goal.loop-init
loop-init c = search by

pub returns-then-input-pos : goal.returns-then-input-pos
returns-then-input-pos c = search by

pub returns-then-is_unknown : goal.returns-then-is_unknown
returns-then-is_unknown c = search by

pub loop-preserved : goal.loop-preserved
loop-preserved c = search by

pub returns : goal.returns
returns c = search by
