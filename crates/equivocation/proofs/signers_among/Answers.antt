-- The signers so far are those of the jobs so far.
use mathlib.Core.Path.{◌∙◌, sym}
use native.Mathlib.Omega.{arith}
use Rattle.std.proofs.lemmas.Nat.{or_comm}
use Rattle.equivocation.proofs.Gathering.{among_more}
use Rattle.equivocation.proofs.signers_among.Goals.{else-has, then-has}
use borrow.Author.Rules.{rules}
use Rattle.equivocation.proofs.Gathering.{joining}
use Rattle.equivocation.proofs.signers_among.Goals as goal

ruleset by = (joining, rules)

pub is_empty-requires : goal.is_empty-requires
is_empty-requires c = search by

pub returns-then-is_empty : goal.returns-then-is_empty
returns-then-is_empty c = search by depth 8

pub loop-k-init : goal.loop-k-init
loop-k-init c = search by depth 8

pub offset_bounds-votes-k : goal.offset_bounds-votes-k
offset_bounds-votes-k c = search by

pub bounds-votes-k : goal.bounds-votes-k
bounds-votes-k c = search by

pub overflow_step-k : goal.overflow_step-k
overflow_step-k c = search by

pub loop-k-smaller : goal.loop-k-smaller
loop-k-smaller c = search by

pub returns : goal.returns
returns c = search by depth 8

pub loop-k-preserved : goal.loop-k-preserved
loop-k-preserved c =
    let l = c.loop-k in (
      l.invariant.0,
      (
        omega arith,
        among_more _ _ l.k l.all _ l.invariant.1.1
            (elim c.if-has.branch [
              | then-has w ↦ w.all-is ∙ (or_comm l.all _ ∙ simp (sym c.has.ensures ∙ w.if-has.true))
              | else-has w ↦ w.all-is ∙ simp (sym c.has.ensures ∙ w.if-has.false)
            ]),
      ),
    )
