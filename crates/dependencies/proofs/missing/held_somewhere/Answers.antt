-- What the vaults so far hold, the faulty ones left out.
use mathlib.Core.Path.{◌∙◌, refl, sym}
use native.Mathlib.Omega.{arith}
use Rattle.ledger.proofs.Holders.{held_end, held_more, held_start}
use Rattle.dependencies.proofs.missing.held_somewhere.Goals as goal
use Rattle.dependencies.proofs.missing.held_somewhere.Goals.{else-not-has, then-not-has}

pub loop-v-init : goal.loop-v-init
loop-v-init c = (omega arith, held_start _ _ _ c.empty-jobs.ensures)

pub loop-v-preserved : goal.loop-v-preserved
loop-v-preserved c =
    let s = c.args in
    let l = c.loop-v in (
      omega arith,
      held_more s.settings s.vaults l.v l.jobs _ l.invariant.1
          (elim c.if-not-has.branch [
            | then-not-has w ↦ w.jobs-is ∙ simp (sym c.has.ensures ∙ w.if-not-has.true) w.union-jobs.ensures
            | else-not-has w ↦ w.jobs-is ∙ simp (sym c.has.ensures ∙ w.if-not-has.false)
          ]),
    )

pub returns : goal.returns
returns c =
    let s = c.args in
    let l = c.loop-v in
    held_end s.settings s.vaults _ l.v l.jobs l.invariant.1 refl l.invariant.0 c.loop-v-test.false
