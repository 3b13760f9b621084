-- The jobs so far are those below the present one that enough vaults signed.
use mathlib.Core.Path.{◌≡◌}
use Prim.Native.Nat.{◌-◌, ◌≤◌}
use Rattle.job_sets.specs.Jobs.{jobs_below}
use Rattle.equivocation.proofs.Gathering.{enough_signed}
use Rattle.equivocation.proofs.certified_jobs.Given as goal

abbrev pub invariant-loop-k : goal.invariant-loop-k
invariant-loop-k l =
    (l.booked ≤ 128) × ((l.k ≤ l.booked) × (l.found ≡ jobs_below l.k (enough_signed l.votes l.threshold)))

abbrev pub decreases-loop-k : goal.decreases-loop-k
decreases-loop-k l = l.booked - l.k
