-- Each turn writes an item.
use mathlib.Core.Path.{refl}
use Rattle.printing.proofs.Shown.{shows_itself}
use Rattle.printing.proofs.Written.{write_turn, written}
use borrow.Author.Rules.{rules}
use Rattle.printing.proofs.write_row.Goals as goal
use Rattle.printing.proofs.write_row.Goals.{else-width-eq0, then-width-eq0}

ruleset by = (written, rules)

pub loop-c-preserved : goal.loop-c-preserved
loop-c-preserved c =
    let inv = c.loop-c.invariant in
    let wide = c.width-width.ensures in
    elim c.if-width-eq0.branch [
      | then-width-eq0 w ↦ rw (w.out-is, w.end-is)
          (let shown = shows_itself _ _ wide.0 w.if-width-eq0.true w.write_byte-end.ensures.0 w.write_byte-end.ensures.1 in
          write_turn inv _ _ _ _ c.loop-c-test.true wide.0 wide.1 refl shown.put shown.few)
      | else-width-eq0 w ↦ rw (w.out-is, w.end-is)
          (write_turn inv _ _ _ _ c.loop-c-test.true wide.0 wide.1 w.value_at.ensures.0 w.write-end.ensures.put w.write-end.ensures.few)
    ]

pub loop-c-init : goal.loop-c-init
loop-c-init c = search by

pub width-width-requires : goal.width-width-requires
width-width-requires c = search by

pub value_at-requires : goal.value_at-requires
value_at-requires c = search by

pub write-end-requires : goal.write-end-requires
write-end-requires c = search by

pub overflow_add-at : goal.overflow_add-at
overflow_add-at c = search by

pub shape_of-out : goal.shape_of-out
shape_of-out c = search by

pub returns : goal.returns
returns c = search by
