-- The first job of the set that lists the label retires the tape, and its votes say how; where there is none, the tape stands.
use native.Mathlib.Omega.{arith}
use Rattle.tape_states.proofs.Retires.{free_by, keep_by, stands_by}
use borrow.Author.Rules.{rules}
use Rattle.tape_states.proofs.tape_state.Goals as goal

pub returns-in-None : goal.returns-in-None
returns-in-None c = stands_by _ _ _ _ (search rules) _ c.in-None.ensures (omega arith)

pub returns-then-is_quorum : goal.returns-then-is_quorum
returns-then-is_quorum c = free_by _ _ _ _ (search rules) _ c.in-Some.ensures.1 c.in-Some.ensures.0 _ c.is_quorum.ensures c.if-is_quorum.true

pub returns-else-is_quorum : goal.returns-else-is_quorum
returns-else-is_quorum c = keep_by _ _ _ _ (search rules) _ c.in-Some.ensures.1 c.in-Some.ensures.0 _ c.is_quorum.ensures c.if-is_quorum.false
