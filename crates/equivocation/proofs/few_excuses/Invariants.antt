-- The two sets so far have the jobs below the present one with no certified rival, and with at most one.
use mathlib.Core.Path.{◌≡◌}
use Prim.Native.Nat.{◌-◌, ◌≤◌}
use Rattle.index.specs.Index.{IndexedEntries}
use Rattle.journal.specs.Journal.{job_at}
use Rattle.job_sets.specs.Jobs.{jobs_below}
use Rattle.equivocation.specs.Partners.{has_few}
use Rattle.equivocation.proofs.few_excuses.Given as goal

abbrev pub invariant-loop-k : goal.invariant-loop-k
invariant-loop-k l =
    IndexedEntries l.version l.journal l.booked l.numbers l.sets
    × ((l.k ≤ l.booked)
    × ((l.none ≡ jobs_below l.k (has_few l.certified (job_at l.version l.journal l.booked) l.booked 0))
    × (l.one ≡ jobs_below l.k (has_few l.certified (job_at l.version l.journal l.booked) l.booked 1))))

abbrev pub decreases-loop-k : goal.decreases-loop-k
decreases-loop-k l = l.booked - l.k
