-- Where a run ends.
use Rattle.std.specs.Prelude.{List, ◌≡◌, ℕ, Ok}
use Rattle.ledger.specs.Steps.{whole_gate}
use Rattle.ledger.specs.declared.Ledger.{Ledger}
use Rattle.runfile.specs.History.{final_run}

-- the ledger and the journal in which a run ends; checks 1 and 4 pass there
pub record RanOut (input : List ℕ) (l : Ledger) (journal : List ℕ) : Type 0 where
  pub ledger_is : l ≡ (final_run input).ledger
  pub journal_is : journal ≡ (final_run input).journal
  pub passes : whole_gate l journal ≡ Ok tt
