-- Each turn stores one range, and what is stored with what remains is the whole list; an accession's list is returned as it was.
use Rattle.ranges.proofs.Meets.{Narrowing}
use Rattle.tightening.proofs.tightest.Given as goal

abbrev pub invariant-loop-i : goal.invariant-loop-i
invariant-loop-i l = Narrowing l.e l.inward l.outward l.ranges l.i
