-- The jobs before k are listed; there is room, since each takes four lines at most.
use mathlib.Core.Path.{◌≡◌}
use Prim.Native.Nat.{◌≤◌}
use lib.ListN.{length}
use Rattle.codec.specs.Codec.{place_of}
use Rattle.journal.specs.Journal.{job_at}
use Rattle.consequences.specs.Freed.{freed_from}
use Rattle.ledger.specs.State.{version_of}
use Rattle.release_lines.specs.Tapes.{Listed}
use Rattle.release_jobs.proofs.list_jobs.Given as goal

abbrev pub invariant-loop-k : goal.invariant-loop-k
invariant-loop-k l =
    (l.k ≤ l.ledger.booked)
    × (Listed l.initial.out (record { at = 0; count = 0 }) (freed_from l.ledger (job_at (version_of l.ledger) l.journal l.ledger.booked) 0 l.k) l.out l.cursor
    × ((length l.out ≡ length l.initial.out)
    × ((l.ledger.booked ≤ 128) × ((place_of (version_of l.ledger) l.ledger.booked ≤ length l.journal) × (12800 ≤ length l.initial.out)))))
