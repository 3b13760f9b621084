-- The jobs so far are those below the present one that enough vaults signed.
use mathlib.Core.Path.{◌∙◌}
use native.Mathlib.Omega.{arith}
use borrow.Author.Tests.{le-leb, lt-leb}
use Rattle.equivocation.specs.Partners.{with_if}
use Rattle.equivocation.proofs.Gathering.{certify_more}
use Rattle.equivocation.proofs.certified_jobs.Goals.{else-threshold-size, then-threshold-size}
use borrow.Author.Rules.{rules}
use Rattle.equivocation.proofs.Gathering.{certifying}
use Rattle.equivocation.proofs.certified_jobs.Goals as goal

ruleset by = (certifying, rules)

pub threshold-threshold-requires : goal.threshold-threshold-requires
threshold-threshold-requires c = search by

pub empty-found-requires : goal.empty-found-requires
empty-found-requires c = search by

pub loop-k-init : goal.loop-k-init
loop-k-init c = search by depth 8

pub offset_bounds-votes-k : goal.offset_bounds-votes-k
offset_bounds-votes-k c = search by

pub bounds-votes-k : goal.bounds-votes-k
bounds-votes-k c = search by

pub size-requires : goal.size-requires
size-requires c = search by

pub overflow_step-k : goal.overflow_step-k
overflow_step-k c = search by

pub loop-k-smaller : goal.loop-k-smaller
loop-k-smaller c = search by

pub returns : goal.returns
returns c = search by depth 8

pub loop-k-preserved : goal.loop-k-preserved
unfolding with_if
loop-k-preserved c =
    let l = c.loop-k in (
      l.invariant.0,
      (
        omega arith,
        certify_more _ _ _ _ l.found _ l.invariant.1.1 c.size.ensures
            (elim c.if-threshold-size.branch [
              | then-threshold-size w ↦ w.found-is ∙ simp (le-leb _ _ w.if-threshold-size.true) w.with-found.ensures
              | else-threshold-size w ↦ w.found-is ∙ simp (lt-leb _ _ w.if-threshold-size.false)
            ]),
      ),
    )
