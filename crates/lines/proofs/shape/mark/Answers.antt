-- Each field by the test that makes it.
use mathlib.Core.Bool.{Bool, ◌&&◌, ◌||◌, cond, false, not, true}
use mathlib.Core.Path.{◌∙◌, ◌≡◌, refl}
use lib.Dec.{eqb}
use borrow.Author.Tests.{eq-eqb, ne_eqb}
use Rattle.notation.specs.Lines.{mark}
use Rattle.lines.proofs.shape.mark.Goals as goal
use Rattle.lines.proofs.shape.mark.Goals.{else-c-eq116, else-c-eq58, else-c-eq58-2, else-c-eq62, then-c-eq116, then-c-eq58, then-c-eq58-2, then-c-eq62}

turned : (b : Bool) → not b ≡ cond b false true
turned true = refl
turned false = refl

pub returns : goal.returns
unfolding mark
returns c =
    let s = c.args.s in
    let x = c.args.c in
    let before : c.if-c-eq58.count ≡ (eqb x 58 && cond s.right false true) =
    elim c.if-c-eq58.branch [
      | then-c-eq58 w ↦ simp (eq-eqb _ _ w.if-c-eq58.true) (w.count-is ∙ turned s.right)
      | else-c-eq58 w ↦ simp (ne_eqb _ _ w.if-c-eq58.false) (w.count-is ∙ ne_eqb _ _ w.if-c-eq58.false)
    ] in
    let behind : c.if-c-eq58-2.count ≡ (eqb x 58 && s.right) =
    elim c.if-c-eq58-2.branch [
      | then-c-eq58-2 w ↦ simp (eq-eqb _ _ w.if-c-eq58-2.true) w.count-is
      | else-c-eq58-2 w ↦ simp (ne_eqb _ _ w.if-c-eq58-2.false) (w.count-is ∙ ne_eqb _ _ w.if-c-eq58-2.false)
    ] in
    let said : c.if-c-eq116.said ≡ (eqb x 116 && s.gap) =
    elim c.if-c-eq116.branch [
      | then-c-eq116 w ↦ simp (eq-eqb _ _ w.if-c-eq116.true) w.said-is
      | else-c-eq116 w ↦ simp (ne_eqb _ _ w.if-c-eq116.false) (w.said-is ∙ ne_eqb _ _ w.if-c-eq116.false)
    ] in
    let right : c.if-c-eq62.result ≡ (eqb x 62 || s.right) =
    elim c.if-c-eq62.branch [
      | then-c-eq62 w ↦ simp (eq-eqb _ _ w.if-c-eq62.true) (w.result-is ∙ eq-eqb _ _ w.if-c-eq62.true)
      | else-c-eq62 w ↦ simp (ne_eqb _ _ w.if-c-eq62.false) w.result-is
    ] in
    simp (c.count.ensures, before, c.count-2.ensures, behind, c.said.ensures, said, right)
