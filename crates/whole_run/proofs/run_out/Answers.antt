-- Where the run will end stays the same, and each piece brings it nearer.
use Prim.Native.Nat.{◌-◌}
use borrow.Author.Rules.{rules}
use Rattle.whole_run.proofs.Turns.{begun, ran_out, reads_on, same_end}
use Rattle.whole_run.proofs.run_out.Goals as goal

ruleset by = (reads_on, same_end, ran_out, rules)

pub loop-progress-init : goal.loop-progress-init
loop-progress-init c =
    let b = c.requires in
    let g = begun _ _ _ _ _ b.0 b.1 c.start-progress.ensures in
    record {
      going = g.0;
      ends = g.1;
      same_size = search rules;
      memo_size = search rules;
      numbers_sized = search rules;
      sets_sized = search rules;
      records_sized = search rules;
      buffer = search rules;
    }

pub loop-progress-preserved : goal.loop-progress-preserved
loop-progress-preserved c = record {
  going = search by;
  ends = search by;
  same_size = search by;
  memo_size = search by;
  numbers_sized = search by;
  sets_sized = search by;
  records_sized = search by;
  buffer = search by;
}

pub slice_bounds-start-end : goal.slice_bounds-start-end
slice_bounds-start-end c = search by

pub start-progress-requires : goal.start-progress-requires
start-progress-requires c = search by

pub slice_bounds-advance-end : goal.slice_bounds-advance-end
slice_bounds-advance-end c = search by

pub slice_bounds-advance-end-in-loop-progress : goal.slice_bounds-advance-end-in-loop-progress
slice_bounds-advance-end-in-loop-progress c = search by

pub slice_bounds-advance-end-in-loop-progress-2 : goal.slice_bounds-advance-end-in-loop-progress-2
slice_bounds-advance-end-in-loop-progress-2 c = search by

pub slice_bounds-advance-end-in-loop-progress-3 : goal.slice_bounds-advance-end-in-loop-progress-3
slice_bounds-advance-end-in-loop-progress-3 c = search by

pub slice_bounds-advance-end-in-loop-progress-4 : goal.slice_bounds-advance-end-in-loop-progress-4
slice_bounds-advance-end-in-loop-progress-4 c = search by

pub advance-progress-requires : goal.advance-progress-requires
advance-progress-requires c = search by

pub loop-progress-smaller : goal.loop-progress-smaller
loop-progress-smaller c = search by

pub shape_of-journal : goal.shape_of-journal
shape_of-journal c = search by

pub returns : goal.returns
returns c = search by
