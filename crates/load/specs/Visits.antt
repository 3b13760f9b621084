-- Which steps of a run are preflights of booked jobs at correct vaults.
use Rattle.std.specs.Prelude.{Bool, cond, false, true, List, [], ◌∷◌, suc, zero, ℕ, Ok, Err}
use Rattle.ledger.specs.Steps.{vault_gate}
use Rattle.ledger.specs.Worlds.{Request, client_preflight, commit, dependencies, equivocating, faulty_vote, generations, preflight, propose, release, show}
use Rattle.ledger.specs.Worlds.{snapshot}
use Rattle.outcome.specs.Figures.{Verdict}
use Rattle.runfile.specs.Run.{Run, command_of, ended, turn}
use Rattle.runfile.specs.Steps.{Command, draw, request, unreadable}

abbrev pub is_pass : Verdict → Bool
is_pass (Ok _) = true
is_pass (Err why) = false

-- a preflight that passes checks 3, 5 and 4: "of booked jobs at sound vaults"
abbrev pub is_well_asked : Run → Request → Bool
is_well_asked r (propose bytes) = false
is_well_asked r (preflight v j) = is_pass (vault_gate r.ledger r.journal v j false)
is_well_asked r (commit v j signers) = false
is_well_asked r (faulty_vote column v j) = false
is_well_asked r (show j) = false
is_well_asked r (generations j) = false
is_well_asked r snapshot = false
is_well_asked r (release v j rival) = false
is_well_asked r (dependencies v j) = false
is_well_asked r (client_preflight v j client) = false
is_well_asked r equivocating = false

abbrev pub asks_well : Run → Command → Bool
asks_well r (request q) = is_well_asked r q
asks_well r (draw u) = false
asks_well r unreadable = false

-- the run as each of its next n steps finds it
unfoldable pub runs_next : ℕ → List ℕ → Run → List Run
runs_next zero input r = []
runs_next (suc n) input r = cond (ended input r) [] (r ∷ runs_next n input (turn input r))

-- the step that a run has next is such a preflight
abbrev pub preflights_well : List ℕ → Run → Bool
preflights_well input r = asks_well r (command_of input r)
