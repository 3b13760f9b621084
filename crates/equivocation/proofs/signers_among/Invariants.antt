-- The signers so far are those of the jobs so far.
use mathlib.Core.Path.{◌≡◌}
use Prim.Native.Nat.{◌-◌, ◌≤◌}
use Rattle.equivocation.specs.Partners.{recorded_in, signers_among}
use Rattle.equivocation.proofs.signers_among.Given as goal

abbrev pub invariant-loop-k : goal.invariant-loop-k
invariant-loop-k l = (l.booked ≤ 128) × ((l.k ≤ l.booked) × (l.all ≡ signers_among (recorded_in l.votes) l.jobs l.k))

abbrev pub decreases-loop-k : goal.decreases-loop-k
decreases-loop-k l = l.booked - l.k
