-- The two sets so far have the jobs below the present one with no certified rival, and with at most one.
use mathlib.Core.Path.{◌∙◌}
use borrow.Author.Tests.{le-leb, lt-leb}
use Rattle.equivocation.specs.Partners.{with_if}
use Rattle.equivocation.proofs.few_excuses.Goals.{else-excuses-eq0, else-excuses-le1, then-excuses-eq0, then-excuses-le1}
use native.Mathlib.Omega.{arith}
use borrow.Author.Rules.{rules}
use Rattle.equivocation.proofs.Gathering.{counting, few_more}
use Rattle.equivocation.proofs.few_excuses.Goals as goal

ruleset by = (counting, rules)

pub empty-none-requires : goal.empty-none-requires
empty-none-requires c = search by

pub empty-one-requires : goal.empty-one-requires
empty-one-requires c = search by

pub loop-k-init : goal.loop-k-init
loop-k-init c = search by depth 8

pub rivals_of-rivals-requires : goal.rivals_of-rivals-requires
rivals_of-rivals-requires c = search by

pub common-requires : goal.common-requires
common-requires c = search by

pub count-excuses-requires : goal.count-excuses-requires
count-excuses-requires c = search by

pub overflow_step-k : goal.overflow_step-k
overflow_step-k c = search by

pub loop-k-smaller : goal.loop-k-smaller
loop-k-smaller c = search by

pub returns : goal.returns
returns c = search by depth 8

pub loop-k-preserved : goal.loop-k-preserved
unfolding with_if
loop-k-preserved c =
    let l = c.loop-k in
    let e = c.rivals_of-rivals.ensures in
    let f = c.common.ensures in
    let n = c.count-excuses.ensures in (
      l.invariant.0,
      (
        omega arith,
        (
          few_more _ _ _ 0 l.k _ _ _ l.none _ l.invariant.1.1.0 e f n
              (elim c.if-excuses-eq0.branch [
                | then-excuses-eq0 w ↦ w.none-is ∙ simp (le-leb c.count-excuses.result 0 (omega (arith, w.if-excuses-eq0.true))) w.with-none.ensures
                | else-excuses-eq0 w ↦ w.none-is ∙ simp (lt-leb c.count-excuses.result 0 (omega (arith, w.if-excuses-eq0.false)))
              ]),
          few_more _ _ _ 1 l.k _ _ _ l.one _ l.invariant.1.1.1 e f n
              (elim c.if-excuses-le1.branch [
                | then-excuses-le1 w ↦ w.one-is ∙ simp (le-leb _ _ w.if-excuses-le1.true) w.with-one.ensures
                | else-excuses-le1 w ↦ w.one-is ∙ simp (lt-leb _ _ w.if-excuses-le1.false)
              ]),
        ),
      ),
    )
