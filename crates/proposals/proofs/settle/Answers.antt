-- The equal is sought among the records that lie inside, of which the index is.
use Prim.Native.Nat.{◌≤◌, ℕ}
use Rattle.index.specs.Index.{IndexedRecords}
use Rattle.journal.specs.Journal.{equal_in, inside_of}
use Rattle.ledger.specs.Decisions.{settling}
use mathlib.Core.List.{List}
use mathlib.Core.Path.{◌≡◌}
use native.Mathlib.Omega.{arith}
use Rattle.proposals.proofs.settle.Goals as goal

-- what lies inside is booked
inside-booked : (version : ℕ) (journal : List ℕ) (booked n : ℕ) → n ≡ inside_of version journal booked → n ≤ booked
unfolding inside_of
inside-booked version journal booked n e = omega arith

-- the index is that of what lies inside
searched : (version : ℕ) (journal : List ℕ) (booked n : ℕ) (records : List ℕ) → n ≡ inside_of version journal booked
    → IndexedRecords version journal (inside_of version journal booked) records → IndexedRecords version journal n records
searched version journal booked n records e i = rw e i

pub find-equal-requires : goal.find-equal-requires
find-equal-requires c = (c.requires.0, searched _ _ _ _ _ c.inside-inside.ensures c.requires.1.indexed)

pub place-requires : goal.place-requires
place-requires c = (c.requires.1.few, inside-booked _ _ _ _ c.inside-inside.ensures)

pub returns : goal.returns
unfolding settling equal_in
returns c = simp (← c.inside-inside.ensures, ← c.find-equal.ensures, ← c.has_room.ensures) c.place.ensures
