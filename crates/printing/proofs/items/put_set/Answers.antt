-- Each turn writes a vault that the set has.
use Rattle.printing.proofs.Shown.{list_pass, list_turn, lists}
use borrow.Author.Rules.{rules}
use Rattle.printing.proofs.items.put_set.Goals as goal
use Rattle.printing.proofs.items.put_set.Goals.{else-has, then-has}

ruleset by = (lists, rules)

pub returns-then-set-eq0 : goal.returns-then-set-eq0
returns-then-set-eq0 c = search by

pub loop-i-init : goal.loop-i-init
loop-i-init c = search by

pub loop-i-preserved : goal.loop-i-preserved
loop-i-preserved c =
    let l = c.loop-i.invariant in
    elim c.if-has.branch [
      | then-has w ↦ rw (w.out-is, w.end-is, w.first-is)
          (list_turn l _ _ _ c.loop-i-test.true c.has.ensures w.if-has.true w.put_member-end.ensures.0 w.put_member-end.ensures.1)
      | else-has w ↦ rw (w.out-is, w.end-is, w.first-is) (list_pass l _ c.loop-i-test.true c.has.ensures w.if-has.false)
    ]

pub returns : goal.returns
returns c = search by
