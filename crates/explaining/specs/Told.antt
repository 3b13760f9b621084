-- A run is explained step by step: after each its explanation stands at the front of a buffer, and the rest is still to be said.
use Rattle.std.specs.Prelude.{List, ◌≡◌, ℕ}
use Rattle.digits.specs.Digits.{Put}
use Rattle.explanations.specs.Explained.{Says, explained_from, next_text}
use Rattle.progress.specs.Pieces.{Going, run_of}
use Rattle.progress.specs.Turns.{Holds}
use Rattle.progress.specs.declared.Progress.{Progress}
use Rattle.progress.specs.declared.Turned.{Turned}
use Rattle.runfile.specs.Run.{command_of, turn}
use Rattle.runfile.specs.Steps.{listed_by, reply_of}

-- a run whose buffer is written from its front on
abbrev pub at_front : Progress → ℕ → Progress
at_front p written = record { ledger = p.ledger; pos = p.pos; count = p.count; written = written }

-- and one that was carried on by a step
abbrev pub said_by : Turned → ℕ → Turned
said_by t written = record { progress = at_front t.progress written; outcome = t.outcome; members = t.members; named = t.named }

-- the run after its next step, which was answered and listed so, and that step's explanation, which is the first part of what was left to say; what is kept
-- beside the run is right for it, and may otherwise be the program's choice
pub record Told (input : List ℕ) (p : Progress) (journal before : List ℕ) (q : Turned)
    (journal' numbers' sets' records' memo' after : List ℕ) : Type 0 where
  pub next : run_of q.progress journal' ≡ turn input (run_of p journal)
  pub answered : q.outcome ≡ (reply_of p.ledger journal (command_of input (run_of p journal))).outcome
  pub listed : q.members ≡ listed_by p.ledger journal (command_of input (run_of p journal))
  pub text : Put before 0 (next_text input (run_of p journal)) after q.progress.written
  pub said : Says (explained_from input (run_of p journal)) before after q.progress.written (explained_from input (run_of q.progress journal'))
  pub going : Going input q.progress journal' numbers' sets' records' memo'
  pub right : Holds q.progress.ledger journal' q.named
