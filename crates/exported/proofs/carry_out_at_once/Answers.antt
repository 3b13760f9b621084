-- A start that says nothing and the run after it fill one buffer, in which there is room to the run's end.
use native.Mathlib.Omega.{arith}
use Rattle.exported.proofs.Counting.{at_once_on, at_once_start}
use Rattle.exported.proofs.carry_out_at_once.Goals as goal

pub returns-then-start-input : goal.returns-then-start-input
returns-then-start-input c = at_once_start _ _ _ _ c.start-start.ensures c.if-start-input.true

pub advance-end-requires : goal.advance-end-requires
advance-end-requires c =
    let more = c in
    let s = more.start-start.ensures in
    s.going (s.passed more.if-start-input.false)

pub returns : goal.returns
returns c =
    let on = c in
    let more = on in
    let begun = more in
    at_once_on _ _ _ _ begun.start-start.ensures begun.requires more.if-start-input.false _ _ _ _ _ _ _ on.advance-end.ensures

pub start-start-requires : goal.start-start-requires
start-start-requires c = omega (arith, c.requires)
