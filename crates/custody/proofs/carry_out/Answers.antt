-- A run that has more to read and all that it keeps are right, and each piece reads on, so the loop ends.
use Rattle.std.proofs.Common.{rules}
use Rattle.custody.proofs.Turning.{to_advance, reads_on}
use Rattle.custody.proofs.carry_out.Goals as goal

ruleset by = (to_advance, reads_on, rules)

pub loop-progress-init : goal.loop-progress-init
loop-progress-init c = record {
  going = λ more. let s = c.start-progress.ensures in s.going (s.passed more);
  memo_size = search rules;
  journal_sized = search rules;
  numbers_sized = search rules;
  sets_sized = search rules;
  records_sized = search rules;
  buffer = search rules;
}

pub advance-progress-requires : goal.advance-progress-requires
advance-progress-requires c = search by

pub loop-progress-smaller : goal.loop-progress-smaller
loop-progress-smaller c = search by

pub loop-progress-preserved : goal.loop-progress-preserved
loop-progress-preserved c = search by
