-- The journal and its index after a change: a new record is put after the booked ones and entered, and no other change touches either.
use Rattle.std.specs.Prelude.{List, ◌≡◌, ◌+◌, ℕ}
use Rattle.index.specs.Index.{Indexed}
use Rattle.ledger.specs.Steps.{journal_with}
use Rattle.ledger.specs.declared.Change.{Change}
use Rattle.ledger.specs.declared.Change.TheVariants.{Book, Count, Grant, Hold, Nothing, Record, Release, See, Sign}

-- how many records are booked after a change
abbrev pub booked_after : Change → ℕ → ℕ
booked_after Nothing n = n
booked_after Book n = n + 1
booked_after (Sign state) n = n
booked_after (Hold state) n = n
booked_after (Release state) n = n
booked_after (Record column) n = n
booked_after (See seen) n = n
booked_after (Count history) n = n
booked_after (Grant grant) n = n

pub record Stored (change : Change) (booked version : ℕ) (journal bytes journal' numbers' sets' records' : List ℕ) : Type 0 where
  pub written : journal' ≡ journal_with change booked version journal bytes
  pub indexed : Indexed version journal' (booked_after change booked) numbers' sets' records'
