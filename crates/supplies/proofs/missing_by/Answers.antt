-- The union so far is that of the inputs so far.
use Prim.Native.Nat.{◌-◌}
use borrow.Author.Rules.{rules}
use Rattle.supplies.proofs.Supplies.{collecting}
use Rattle.supplies.proofs.missing_by.Goals as goal

ruleset by = (collecting, rules)

pub loop-e-init : goal.loop-e-init
loop-e-init c = search by depth 8

pub suppliers-requires : goal.suppliers-requires
suppliers-requires c = search by

pub overflow_step-e : goal.overflow_step-e
overflow_step-e c = search by

pub loop-e-smaller : goal.loop-e-smaller
loop-e-smaller c = search by

pub loop-e-preserved : goal.loop-e-preserved
loop-e-preserved c = search by depth 8

pub returns : goal.returns
returns c = search by depth 8
