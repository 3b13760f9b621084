-- What a run answers each step of its input, and the lines that say so.
use Rattle.std.specs.Prelude.{List, [], ◌++◌, ◌∷◌, map, ◌+◌, ℕ, length}
use Rattle.outcome.specs.Figures.{Outcome}
use Rattle.runfile.specs.Run.{Run, begins, command_of}
use Rattle.runfile.specs.Steps.{reply_of}
use Rattle.text.specs.Text.{line_for}
use Rattle.load.specs.Visits.{runs_next}

-- the outcome of the step that a run has next
abbrev pub outcome_next : List ℕ → Run → Outcome
outcome_next input r = (reply_of r.ledger r.journal (command_of input r)).outcome

-- of all steps, in their order
abbrev pub outcomes_of : List ℕ → List Outcome
outcomes_of input = map (outcome_next input) (runs_next (length input) input (begins input))

-- a line for each, after k others
abbrev pub lines_after : ℕ → List Outcome → List ℕ
lines_after k [] = []
lines_after k (o ∷ os) = line_for (k + 1) o ++ lines_after (k + 1) os
