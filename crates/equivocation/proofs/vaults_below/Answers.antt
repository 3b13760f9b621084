-- The vaults so far are those below the present one that are in the set.
use mathlib.Core.Path.{◌∙◌, sym}
use native.Mathlib.Omega.{arith}
use Rattle.equivocation.specs.Partners.{with_if}
use Rattle.equivocation.proofs.Gathering.{below_more}
use Rattle.equivocation.proofs.vaults_below.Goals.{else-has, then-has}
use borrow.Author.Rules.{rules}
use Rattle.equivocation.proofs.Gathering.{gathering}
use Rattle.equivocation.proofs.vaults_below.Goals as goal

ruleset by = (gathering, rules)

pub empty-found-requires : goal.empty-found-requires
empty-found-requires c = search by

pub loop-v-init : goal.loop-v-init
loop-v-init c = search by depth 8

pub overflow_step-v : goal.overflow_step-v
overflow_step-v c = search by

pub loop-v-smaller : goal.loop-v-smaller
loop-v-smaller c = search by

pub returns : goal.returns
returns c = search by depth 8

pub loop-v-preserved : goal.loop-v-preserved
unfolding with_if
loop-v-preserved c =
    let l = c.loop-v in (
      omega arith,
      below_more _ l.v l.found _ l.invariant.1
          (elim c.if-has.branch [
            | then-has w ↦ w.found-is ∙ simp (sym c.has.ensures ∙ w.if-has.true) w.with-found.ensures
            | else-has w ↦ w.found-is ∙ simp (sym c.has.ensures ∙ w.if-has.false)
          ]),
    )
