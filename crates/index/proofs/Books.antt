-- The index of a journal's slots is that of the jobs that it books.
use mathlib.Core.List.{List}
use Prim.Native.Nat.{◌*◌, ◌≤◌, ℕ}
use lib.ListN.{length}
use Rattle.codec.specs.Codec.{place_of}
use Rattle.journal.specs.Journal.{job_at}
use Rattle.index.proofs.Begins.{entered_alike}
use Rattle.index.proofs.Inside.{slot_booked}
use Rattle.index.specs.Places.{Entered, slot_job}

module _ (version : ℕ) (journal : List ℕ) (booked : ℕ) (inside : place_of version booked ≤ length journal) where
  pub entered_booked : (numbers sets : List ℕ) → Entered (slot_job version journal) (8 * booked) numbers sets → Entered (job_at version journal booked)
      (8 * booked) numbers sets
  entered_booked = entered_alike (slot_job version journal) (job_at version journal booked) booked (λ k l. slot_booked version journal booked k inside l)
