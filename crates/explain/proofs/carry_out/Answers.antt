-- A run that has more to read and all that it keeps are right, and each step is one more, so the loop ends.
use Rattle.std.proofs.Common.{refl, rules}
use Rattle.explain.proofs.Turning.{to_next, counts_on}
use Rattle.going.proofs.Naming.{nothing_known}
use Rattle.explain.proofs.carry_out.Goals as goal

ruleset by = (to_next, counts_on, rules)

pub loop-progress-init : goal.loop-progress-init
loop-progress-init c = record {
  going = λ more. let s = c.start-progress.ensures in s.going (s.passed more);
  right = nothing_known c.start-progress.result.ledger _ _ refl;
  memo_size = search rules;
  journal_sized = search rules;
  numbers_sized = search rules;
  sets_sized = search rules;
  records_sized = search rules;
  buffer = search rules;
}

pub next-t-requires : goal.next-t-requires
next-t-requires c =
    let turn = c.loop-progress.invariant in
    (to_next turn (search rules), turn.right, search rules, search rules)

pub loop-progress-smaller : goal.loop-progress-smaller
loop-progress-smaller c = search by

pub loop-progress-preserved : goal.loop-progress-preserved
loop-progress-preserved c = search by
