-- Each turn writes the line of a step.
use Rattle.disassembly.proofs.Saying.{say_begun, say_done, say_end, say_room, say_turn}
use borrow.Author.Rules.{rules}
use Rattle.disassembly.proofs.put_lines.Goals as goal

ruleset by = (say_begun, say_room, say_turn, say_done, say_end, rules)

pub loop-pos-init : goal.loop-pos-init
loop-pos-init c = search by

pub put_line-end-requires : goal.put_line-end-requires
put_line-end-requires c = search by

pub loop-pos-preserved : goal.loop-pos-preserved
loop-pos-preserved c = search by

pub returns : goal.returns
returns c = search by
