-- The jobs so far are those at the labels of the entries so far.
use mathlib.Core.Path.{◌∙◌}
use native.Mathlib.Omega.{arith}
use borrow.Author.Rules.{rules}
use borrow.Author.Tests.{le-ltb, lt-ltb}
use Rattle.job_sets.proofs.Jobs.{union_words}
use Rattle.rivalry.proofs.Opposes.{gathering, sharers_more}
use Rattle.rivalry.specs.Rivals.{sharers_with}
use Rattle.rivalry.proofs.sharers.Goals as goal
use Rattle.rivalry.proofs.sharers.Goals.{else-e-count, then-e-count}

ruleset by = (gathering, rules)

pub loop-e-init : goal.loop-e-init
loop-e-init c = search by depth 8

pub overflow_step-e : goal.overflow_step-e
overflow_step-e c = search by

pub loop-e-smaller : goal.loop-e-smaller
loop-e-smaller c = search by

pub loop-e-preserved : goal.loop-e-preserved
unfolding sharers_with
loop-e-preserved c =
    let i = c.loop-e.invariant in
    elim c.if-e-count.branch [
      | then-e-count w ↦ (
        omega arith,
        (
          sharers_more _ _ _ _ _ _ _ _ i.1.0 (w.found-is ∙ simp (lt-ltb _ _ w.if-e-count.true, ← w.set_of.ensures.0) w.union-found.ensures),
          rw (w.found-is, w.union-found.ensures) (union_words _ _ w.set_of.ensures.1 i.1.1),
        ),
      )
      | else-e-count w ↦ (
        omega arith,
        (sharers_more _ _ _ _ _ _ _ _ i.1.0 (w.found-is ∙ simp (le-ltb _ _ w.if-e-count.false)), rw w.found-is i.1.1),
      )
    ]

pub returns : goal.returns
returns c = search by depth 8
