-- What a run keeps beside its ledger: the journal, its index, and the generations found so far.
use Rattle.std.specs.Prelude.{List, ◌≡◌, ◌<◌, ℕ, get_or, length}
use Rattle.journal.specs.Journal.{capacity, job_at}
use Rattle.index.specs.Index.{Indexed}
use Rattle.generations.specs.Memo.{Memo}
use Rattle.ledger.specs.State.{version_of}
use Rattle.ledger.specs.Meaning.{Sane}
use Rattle.ledger.specs.declared.Ledger.{Ledger}
use Rattle.runfile.specs.Run.{journal_size}

pub record Kept (l : Ledger) (journal numbers sets records memo : List ℕ) : Type 0 where
  pub sane : Sane l
  pub order_size : length l.order ≡ capacity
  -- the jobs that have arrived are booked
  pub arrived : (q : ℕ) → q < l.arrivals → get_or l.order q 0 < l.booked
  pub journal_sized : length journal ≡ journal_size
  pub indexed : Indexed (version_of l) journal l.booked numbers sets records
  pub memo_size : length memo ≡ capacity
  pub right : Memo (job_at (version_of l) journal l.booked) l.order l.arrivals memo
