-- The parts of a turn, put together.
use mathlib.Core.List.{List}
use mathlib.Core.Path.{◌≡◌, ap, sym}
use Prim.Native.Nat.{◌+◌, ◌≤◌, ℕ}
use native.Mathlib.Omega.{arith}
use Rattle.outcome.specs.Figures.{Outcome}
use Rattle.ledger.specs.Given.{Writable}
use Rattle.ledger.specs.declared.Decision.{Decision}
use Rattle.text.proofs.Members.{nothing_listed}
use Rattle.digits.specs.Digits.{Put}
use Rattle.text.specs.Text.{line_for, longest_line}
use Rattle.steps.proofs.Quiet.{writable}
use Rattle.progress.specs.Said.{Said}
use Rattle.questions.specs.Answers.{alone}
use Rattle.storing.specs.Stored.{Stored}
use Rattle.steps.specs.Turned.{CarriedOut, decision_at, record_in}
use Rattle.reading.specs.declared.Step.{Step}
use Rattle.kinds.specs.declared.View.{View}

-- a step that lists nothing
line_alone : (number : ℕ) (o p : Outcome) (out : List ℕ) (at : ℕ) (out' : List ℕ) (r : ℕ) → o ≡ p → Put out at (line_for number o) out' r
    → r ≤ at + longest_line → Said number (alone p) out at out' r
line_alone number o p out at out' r e w h = record { text = rw (nothing_listed number p, sym e) w; short = omega arith }

module _ (w : View) (journal input : List ℕ) (s : Step) (d : Decision) (e : d ≡ decision_at w journal input s) where
  pub to_store : Writable d.change w.booked w.settings.version journal (record_in w.settings.version input s)
  to_store = writable w journal input s.at s.kind d e

  pub carried_out : (at : ℕ) (out journal' numbers' sets' records' out' : List ℕ) (r : ℕ) → Put out at (line_for s.number d.outcome) out' r
      → r ≤ at + longest_line → Stored d.change w.booked w.settings.version journal
      (record_in w.settings.version input s) journal' numbers' sets' records'
      → CarriedOut input s w at journal out (record { change = d.change; outcome = d.outcome; at = r }) journal' numbers' sets' records' out'
  carried_out at out journal' numbers' sets' records' out' r p h t = record {
    change_is = ap (λ (x : Decision). x.change) e;
    outcome_is = ap (λ (x : Decision). x.outcome) e;
    said = line_alone s.number d.outcome (decision_at w journal input s).outcome out at out' r (ap (λ (x : Decision). x.outcome) e) p h;
    stored = t;
  }

pub ruleset turns = (to_store, carried_out)
