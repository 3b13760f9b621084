-- The text is written at once where any would fit; else it is counted first, which leaves the buffer as it was.
use mathlib.Core.Bool.{false, true, true≢false}
use mathlib.Core.List.{List}
use mathlib.Core.Path.{sym}
use Prim.Native.Nat.{◌≤◌, ℕ}
use native.Mathlib.Omega.{arith}
use lib.ListN.{length}
use Rattle.exported.specs.Fits.{Roomy, Written}
use Rattle.exported.proofs.Counting.{as_long, fits_counted, fits_not}
use borrow.Author.Rules.{rules}
use Rattle.exported.proofs.custody_run.Goals as goal

ruleset by = (as_long, rules)

none_needed : (k : ℕ) (out : List ℕ) → Roomy false k out
none_needed k out = record { room = λ e. absurd (true≢false (sym e)) }

this-fits : (text out between : List ℕ) (k : ℕ) → Written false out 0 text between k → k ≤ length between → Roomy true (length text) between
this-fits text out between k w h = record { room = λ e. omega (arith, w.moved) }

pub carry_out_at_once-requires : goal.carry_out_at_once-requires
carry_out_at_once-requires c = omega (arith, c.if-out-input.true)

pub shape_of-out-then-out-input : goal.shape_of-out-then-out-input
shape_of-out-then-out-input c = search by

pub returns-then-out-input : goal.returns-then-out-input
returns-then-out-input c = c.carry_out_at_once.ensures

pub carry_out-needed-requires : goal.carry_out-needed-requires
carry_out-needed-requires c = none_needed _ _

pub carry_out-requires : goal.carry_out-requires
carry_out-requires c = let test = c in this-fits _ _ _ _ test.carry_out-needed.ensures test.if-needed-out.true

pub shape_of-out-then-needed-out : goal.shape_of-out-then-needed-out
shape_of-out-then-needed-out c = search by

pub returns-then-needed-out : goal.returns-then-needed-out
returns-then-needed-out c = let w = c in let test = w in let counted = test in
    fits_counted counted.carry_out-needed.ensures (omega (arith, test.if-needed-out.true, as_long counted.carry_out-needed.ensures)) w.carry_out.ensures

pub shape_of-out : goal.shape_of-out
shape_of-out c = search by

pub returns : goal.returns
returns c = let counted = c in
    fits_not counted.carry_out-needed.ensures (omega (arith, c.if-needed-out.false, as_long counted.carry_out-needed.ensures))
