use mathlib.Core.Bool.{true≢false}
use mathlib.Core.Logic.{inl, inr}
use mathlib.Core.Path.{sym}
use native.Mathlib.Omega.{arith}
use borrow.Author.Tests.{ltb-false, ltb-true}
use Rattle.progress.proofs.goes_on.Goals as goal

pub returns-then-c-size : goal.returns-then-c-size
returns-then-c-size c = record { on = λ e. absurd (true≢false (sym e)); off = λ e. inl c.if-c-size.true }

pub returns-then-room-lt-LONGEST : goal.returns-then-room-lt-LONGEST
returns-then-room-lt-LONGEST c = record { on = λ e. absurd (true≢false (sym e)); off = λ e. inr (inl (omega arith)) }

pub returns-then-room-c : goal.returns-then-room-c
returns-then-room-c c = record { on = λ e. absurd (true≢false (sym e)); off = λ e. inr (inl (omega arith)) }

pub returns : goal.returns
returns c = record { on = λ e. (omega arith, omega arith, ltb-true _ _ e); off = λ e. inr (inr (ltb-false _ _ e)) }
