-- What a run is to read of a load: the command of each step.
use Rattle.std.specs.Prelude.{List, [], ◌∷◌, ◌<◌, ◌^◌, ℕ}
use Rattle.codec.specs.Codec.{bytes_of}
use Rattle.ledger.specs.Worlds.{commit, faulty_vote, generations, preflight, propose, show}
use Rattle.vaults.specs.declared.Column.TheVariants.{Acknowledgements, Signatures}
use Rattle.runfile.specs.History.{Item, drawn, event, unread}
use Rattle.runfile.specs.Steps.{Command, draw, request, unreadable}
use Rattle.load.specs.Records.{job_for}
use Rattle.load.specs.declared.Step.{Step}
use Rattle.load.specs.declared.Step.TheVariants.{Commit, Draw, FaultyAcknowledge, FaultySign, Generations, Preflight, Propose, Show}

abbrev pub command_for : ℕ → Step → Command
command_for first (Propose j) = request (propose (bytes_of 1 (job_for first j)))
command_for first (Preflight v j) = request (preflight v j)
command_for first (Commit v j signers) = request (commit v j signers)
command_for first (FaultySign v j) = request (faulty_vote Signatures v j)
command_for first (FaultyAcknowledge v j) = request (faulty_vote Acknowledgements v j)
command_for first (Show j) = request (show j)
command_for first (Draw u) = draw u
command_for first (Generations j) = request (generations j)

-- the command of a step of a run
abbrev pub command_in : Item → Command
command_in (event e) = request e.request
command_in (drawn u) = draw u
command_in unread = unreadable

abbrev pub commands_of : List Item → List Command
commands_of [] = []
commands_of (item ∷ items) = command_in item ∷ commands_of items

-- the signers of a commit fit 16 bits
abbrev pub Written : Step → Type 0
Written (Propose j) = Unit {0}
Written (Preflight v j) = Unit {0}
Written (Commit v j signers) = signers < 2 ^ 16
Written (FaultySign v j) = Unit {0}
Written (FaultyAcknowledge v j) = Unit {0}
Written (Show j) = Unit {0}
Written (Draw u) = Unit {0}
Written (Generations j) = Unit {0}

abbrev pub AllWritten : List Step → Type 0
AllWritten [] = Unit {0}
AllWritten (s ∷ steps) = Written s × AllWritten steps
