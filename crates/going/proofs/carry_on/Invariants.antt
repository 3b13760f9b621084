-- A turn of the loop is a step of the run (proofs/Turning.antt), after which it has come further.
use Prim.Native.Nat.{◌-◌}
use lib.ListN.{length}
use Rattle.progress.specs.Coming.{Come, standing, turned_at}
use Rattle.going.proofs.Slices.{Same}
use Rattle.going.proofs.carry_on.Given as goal

abbrev pub invariant-loop-s : goal.invariant-loop-s
invariant-loop-s l =
    Come l.input (standing l.initial.ledger l.initial.c) l.last l.initial.journal l.initial.out (turned_at l.ledger l.c l.named) l.journal l.numbers l.sets l.records l.memo l.out
    × Same l.initial.memo l.initial.journal l.initial.numbers l.initial.sets l.initial.records l.initial.out l.memo l.journal l.numbers l.sets l.records l.out

abbrev pub decreases-loop-s : goal.decreases-loop-s
decreases-loop-s l = length l.input - l.c.pos
