-- Each return is one way through the two tests of the job's own certified rivals.
use mathlib.Core.Path.{◌∙◌, sym}
use Rattle.equivocation.specs.Partners.{partners_by}
use Rattle.equivocation.proofs.partners_of.Goals as goal

pub returns-then-has : goal.returns-then-has
unfolding partners_by
returns-then-has c =
    let d = c in
    simp (← d.near.ensures, sym c.has.ensures ∙ c.if-has.true) d.common-found.ensures

pub returns-then-has-2 : goal.returns-then-has-2
unfolding partners_by
returns-then-has-2 c =
    let second = c in
    let first = second in
    simp (
      ← first.near.ensures,
      sym first.has.ensures ∙ second.if-has.false,
      sym second.has-2.ensures ∙ c.if-has-2.true,
      ← first.common-found.ensures,
    ) c.common.ensures

pub returns : goal.returns
unfolding partners_by
returns c =
    let second = c in
    let first = second in
    simp (sym first.has.ensures ∙ second.if-has.false, sym second.has-2.ensures ∙ c.if-has-2.false) c.empty.ensures
