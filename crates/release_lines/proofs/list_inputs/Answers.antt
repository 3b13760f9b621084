-- The entries before e are listed; there is room, since each takes a line at most.
use mathlib.Core.Path.{◌≡◌}
use Prim.Native.Nat.{◌-◌}
use native.Mathlib.Omega.{arith}
use borrow.Author.Rules.{rules}
use Rattle.release_lines.proofs.Lines.{inputs_first, inputs_on, inputs_room}
use Rattle.release_lines.proofs.list_inputs.Goals as goal

ruleset by = (inputs_first, rules)

pub list_entry-now-requires : goal.list_entry-now-requires
list_entry-now-requires c =
    let l = c.loop-e in
    let a = c.args in
    let room = inputs_room a.number a.job l.e l.invariant.1.0 in
    let i = l.invariant.1.1 in
    let next = c.loop-e-test.true in
    (i.1.0, omega arith, omega (arith, room.1, i.1.1.0), omega (arith, room.0, i.0, i.1.1.1))

pub loop-e-preserved : goal.loop-e-preserved
loop-e-preserved c =
    let l = c.loop-e in
    let a = c.args in
    let entry = c.list_entry-now in
    (search rules, (inputs_on a.number a.job l.e l.invariant.1.0 entry.ensures, (search rules, l.invariant.1.1.1)))

pub returns : goal.returns
returns c =
    let l = c.loop-e in
    let four : l.e ≡ 4 = omega (arith, l.invariant.0, c.loop-e-test.false) in
    rw four at l.invariant.1.0

pub loop-e-init : goal.loop-e-init
loop-e-init c = search by

pub overflow_step-e : goal.overflow_step-e
overflow_step-e c = search by

pub loop-e-smaller : goal.loop-e-smaller
loop-e-smaller c = search by

pub shape_of-out : goal.shape_of-out
shape_of-out c = search by
