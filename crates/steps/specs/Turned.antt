-- A step carried out that looks at one vault, but for what it changes in the ledger: its text is written, and a new record is stored.
use Rattle.std.specs.Prelude.{List, ◌≡◌, ℕ, drop, take}
use Rattle.codec.specs.Codec.{record_size}
use Rattle.ledger.specs.declared.Decision.{Decision}
use Rattle.runfile.specs.Steps.{command_in}
use Rattle.kinds.specs.Decided.{decided_by}
use Rattle.progress.specs.Said.{Said}
use Rattle.questions.specs.Answers.{alone}
use Rattle.storing.specs.Stored.{Stored}
use Rattle.reading.specs.declared.Step.{Step}
use Rattle.progress.specs.declared.Told.{Told}
use Rattle.kinds.specs.declared.View.{View}

-- what a step decides that was read
abbrev pub decision_at : View → List ℕ → List ℕ → Step → Decision
decision_at w journal input s = decided_by w journal (command_in w.settings.version s.kind input s.at)

-- the record that follows its kind
abbrev pub record_in : ℕ → List ℕ → Step → List ℕ
record_in version input s = take (record_size version) (drop s.at input)

pub record CarriedOut (input : List ℕ) (s : Step) (w : View) (at : ℕ) (journal out : List ℕ) (r : Told)
    (journal' numbers' sets' records' out' : List ℕ) : Type 0 where
  pub change_is : r.change ≡ (decision_at w journal input s).change
  pub outcome_is : r.outcome ≡ (decision_at w journal input s).outcome
  pub said : Said s.number (alone (decision_at w journal input s).outcome) out at out' r.at
  pub stored : Stored r.change w.booked w.settings.version journal (record_in w.settings.version input s) journal' numbers' sets' records'
