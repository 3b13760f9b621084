-- Each turn takes a line.
use Rattle.assembly.proofs.Making.{blank_turn, line_turn, line_wrong, made_all, made_over, making_begun}
use Rattle.assembly.specs.Assembles.{ending}
use lib.ListN.{length}
use mathlib.Core.Path.{◌∙◌, ◌≡◌, ap, sym}
use Prim.Native.Nat.{◌+◌, ◌-◌, ℕ}
use native.Mathlib.Omega.{arith}
use borrow.Author.Rules.{rules}
use Rattle.assembly.proofs.make.Goals as goal

ruleset by = (making_begun, made_all, made_over, blank_turn, rules)

pub returns-then-why-ne0 : goal.returns-then-why-ne0
returns-then-why-ne0 c =
    let m = c.loop-passed.invariant.0 in
    line_wrong m (omega arith) c.if-text-at.false c.skip_blanks-start.result _ c.skip_blanks-start.ensures.0
    c.is_over.ensures c.if-is_over.false _ c.front.ensures.0 _ _ _
    c.line_read-p.ensures _ c.judge-why.ensures _ c.if-why-ne0.true c.verdict.ensures

pub loop-passed-preserved : goal.loop-passed-preserved
loop-passed-preserved c =
    let m = c.loop-passed.invariant.0 in
    let e : length c.args.text.now - (c.loop-passed.passed + 1) ≡ length c.args.text.now - c.loop-passed.passed - 1 = omega arith in (
      rw e (line_turn m (omega arith) c.if-text-at.false c.skip_blanks-start.result _ c.skip_blanks-start.ensures.0
          c.is_over.ensures c.if-is_over.false _ c.front.ensures.0 _ _ _
          c.line_read-p.ensures _ c.judge-why.ensures c.if-why-ne0.false _
          c.front-in-loop-passed.ensures.0 _ _ _ c.put-end.ensures.0 c.after_line-at-in-loop-passed.ensures.0 c.after_line-at-in-loop-passed.ensures.1),
      c.line_read-p.auto.buffer ∙ c.loop-passed.invariant.1,
      c.line_read-p.auto.bytes ∙ c.loop-passed.invariant.2,
      c.put-end.auto.out ∙ c.loop-passed.invariant.3,
    )

pub loop-passed-preserved-then-is_over : goal.loop-passed-preserved-then-is_over
loop-passed-preserved-then-is_over c =
    let m = c.loop-passed.invariant in
    let e : length c.args.text.now - (c.loop-passed.passed + 1) ≡ length c.args.text.now - c.loop-passed.passed - 1 = omega arith in (
      rw e (blank_turn m.0 (omega arith) c.if-text-at.false c.skip_blanks-start.result _ c.skip_blanks-start.ensures.0
          c.is_over.ensures _ c.if-is_over.true c.after_line-at.ensures.0 c.after_line-at.ensures.1),
      m.1,
      m.2,
      m.3,
    )

pub returns : goal.returns
returns c =
    let l = c.loop-passed in
    let e : l.passed ≡ length c.args.text.now = omega arith in
    made_all l.invariant.0 _ (omega arith) (c.finish-2.ensures ∙ ap (λ (x : ℕ). ending (x + 1) l.end) (sym e))

pub returns-then-text-at : goal.returns-then-text-at
returns-then-text-at c = search by
