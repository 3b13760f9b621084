-- What is written so far, and the members that are left, of which the number is the first.
use native.Mathlib.Omega.{arith}
use borrow.Author.Rules.{rules}
use Rattle.text.proofs.Members.{listed_end, listed_less, listed_more, listed_room, listed_start}
use Rattle.text.proofs.listing.write_list.Goals as goal

ruleset by = (listed_start, rules)

-- In what follows l is the loop's head.
pub write_alone-end-requires : goal.write_alone-end-requires
write_alone-end-requires c =
    let l = c.loop-number in
    let room = listed_room l.invariant.0 _ l.invariant.1.0 c.loop-number-test.true in
    (omega arith, omega (arith, room, l.invariant.1.1.1.0, l.invariant.1.1.1.1))

pub loop-number-smaller : goal.loop-number-smaller
loop-number-smaller c =
    let l = c in
    listed_less l.loop-number.invariant.0 _ l.loop-number.invariant.1.0 l.loop-number-test.true c.without-rest.ensures

pub loop-number-preserved : goal.loop-number-preserved
loop-number-preserved c =
    let w = c in
    let t = w in
    let l = t.loop-number in (
      listed_more l.invariant.0 _ l.invariant.1.0 t.loop-number-test.true w.write_alone-end.ensures.0 w.write_alone-end.ensures.1 c.without-rest.ensures,
      (c.first-number-in-loop-number.ensures.0, (c.first-number-in-loop-number.ensures.1, (search rules, l.invariant.1.1.1.1))),
    )

pub returns : goal.returns
returns c =
    let l = c.loop-number in
    listed_end l.invariant.0 _ l.invariant.1.0 c.loop-number-test.false

pub loop-number-init : goal.loop-number-init
loop-number-init c = search by
