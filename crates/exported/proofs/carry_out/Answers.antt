-- Each piece brings the run nearer to its end, and goes behind those before it.
use mathlib.Core.Path.{◌∙◌}
use Prim.Native.Nat.{◌-◌}
use Rattle.exported.proofs.Counting.{all_counted, as_long, count_begun, count_on, counted_start, room_on, room_start}
use borrow.Author.Rules.{rules}
use Rattle.exported.proofs.Turns.{reads_on, to_advance}
use Rattle.exported.proofs.carry_out.Goals as goal

ruleset by = (to_advance, as_long, rules)

pub append-requires : goal.append-requires
append-requires c =
    let begun = c in
    let start = begun in
    room_start _ _ _ _ _ _ start.requires begun.start-progress.ensures _ c.front.ensures.0

pub returns-then-progress-input : goal.returns-then-progress-input
returns-then-progress-input c =
    let w = c in
    let test = w in
    let begun = test in
    let start = begun in
    counted_start _ _ _ _ _ _ start.requires begun.start-progress.ensures _ w.front.ensures.0 test.if-progress-input.true _ _ w.append.ensures

pub loop-progress-init : goal.loop-progress-init
loop-progress-init c = record {
  counting = count_begun _ _ _ _ _ _ c.start-progress.ensures c.if-progress-input.false;
  memo_size = search rules;
  journal_sized = search rules;
  numbers_sized = search rules;
  sets_sized = search rules;
  records_sized = search rules;
  buffer = search rules;
  same_size = search rules;
}

pub append-at-requires : goal.append-at-requires
append-at-requires c =
    let on = c in
    let at-loop = on in
    let start = at-loop in
    room_on start.requires at-loop.loop-progress.invariant.counting on.advance-progress.ensures _ c.front-in-loop-progress.ensures.0

pub loop-progress-preserved : goal.loop-progress-preserved
loop-progress-preserved c =
    let w = c in
    let on = w in
    let at-loop = on in
    let start = at-loop in
    let i = at-loop.loop-progress.invariant in
    let k = on.advance-progress.auto in
    record {
      counting = count_on start.requires i.counting on.advance-progress.ensures _ w.front-in-loop-progress.ensures.0 _ _ w.append-at.ensures;
      memo_size = k.memo ∙ i.memo_size;
      journal_sized = k.journal ∙ i.journal_sized;
      numbers_sized = k.numbers ∙ i.numbers_sized;
      sets_sized = k.sets ∙ i.sets_sized;
      records_sized = k.records ∙ i.records_sized;
      buffer = k.out ∙ i.buffer;
      same_size = w.append-at.auto.out ∙ i.same_size;
    }

pub loop-progress-smaller : goal.loop-progress-smaller
loop-progress-smaller c =
    let on = c in
    let test = on in
    reads_on on.advance-progress.ensures test.loop-progress-test.true test.loop-progress.invariant.buffer

pub slice_bounds-start-end : goal.slice_bounds-start-end
slice_bounds-start-end c = search by

pub start-progress-requires : goal.start-progress-requires
start-progress-requires c = search by

pub slice_bounds-front-end : goal.slice_bounds-front-end
slice_bounds-front-end c = search by

pub front-requires : goal.front-requires
front-requires c = search by

pub shape_of-out-then-progress-input : goal.shape_of-out-then-progress-input
shape_of-out-then-progress-input c = search by

pub slice_bounds-advance-end : goal.slice_bounds-advance-end
slice_bounds-advance-end c = search by

pub slice_bounds-advance-end-in-loop-progress : goal.slice_bounds-advance-end-in-loop-progress
slice_bounds-advance-end-in-loop-progress c = search by

pub slice_bounds-advance-end-in-loop-progress-2 : goal.slice_bounds-advance-end-in-loop-progress-2
slice_bounds-advance-end-in-loop-progress-2 c = search by

pub slice_bounds-advance-end-in-loop-progress-3 : goal.slice_bounds-advance-end-in-loop-progress-3
slice_bounds-advance-end-in-loop-progress-3 c = search by

pub slice_bounds-advance-end-in-loop-progress-4 : goal.slice_bounds-advance-end-in-loop-progress-4
slice_bounds-advance-end-in-loop-progress-4 c = search by

pub slice_bounds-advance-end-in-loop-progress-5 : goal.slice_bounds-advance-end-in-loop-progress-5
slice_bounds-advance-end-in-loop-progress-5 c = search by

pub advance-progress-requires : goal.advance-progress-requires
advance-progress-requires c = search by

pub slice_bounds-front-end-in-loop-progress : goal.slice_bounds-front-end-in-loop-progress
slice_bounds-front-end-in-loop-progress c = search by

pub front-requires-in-loop-progress : goal.front-requires-in-loop-progress
front-requires-in-loop-progress c = search by

pub shape_of-out : goal.shape_of-out
shape_of-out c = search by

pub returns : goal.returns
returns c = all_counted c.loop-progress.invariant.counting c.loop-progress-test.false
