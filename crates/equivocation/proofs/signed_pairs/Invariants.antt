-- The vaults so far signed one of the jobs so far and a partner of it.
use mathlib.Core.Path.{◌≡◌}
use Prim.Native.Nat.{◌-◌, ◌≤◌}
use Rattle.index.specs.Index.{IndexedEntries}
use Rattle.journal.specs.Journal.{job_at}
use Rattle.equivocation.specs.Partners.{recorded_in, signed_pairs}
use Rattle.equivocation.proofs.signed_pairs.Given as goal

abbrev pub invariant-loop-k : goal.invariant-loop-k
invariant-loop-k l =
    IndexedEntries l.version l.journal l.booked l.numbers l.sets
    × ((l.k ≤ l.booked) × (l.all ≡ signed_pairs (recorded_in l.votes) (job_at l.version l.journal l.booked) l.booked l.certified l.few.none l.few.one l.k))

abbrev pub decreases-loop-k : goal.decreases-loop-k
decreases-loop-k l = l.booked - l.k
