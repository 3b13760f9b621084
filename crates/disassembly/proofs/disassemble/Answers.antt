-- The header's line, then the others.
use Rattle.base.proofs.Tests.{flag_true}
use Rattle.disassembly.proofs.Saying.{opens_said, printed_not, printed_said}
use borrow.Author.Rules.{rules}
use Rattle.disassembly.proofs.disassemble.Goals as goal

ruleset by = (flag_true, opens_said, printed_said, printed_not, rules)

pub put_header-start-requires : goal.put_header-start-requires
put_header-start-requires c = search by

pub returns-then-is_sayable : goal.returns-then-is_sayable
returns-then-is_sayable c = search by

pub returns : goal.returns
returns c = search by
