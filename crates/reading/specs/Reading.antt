-- A step as it is read: its kind, what it names, and where the next one stands.
use Rattle.std.specs.Prelude.{false, List, ◌≡◌, ◌+◌, ◌<◌, ◌≤◌, ℕ, get_or, length}
use Rattle.codec.specs.Codec.{record_size}
use Rattle.quota.specs.Quota.{history_place}
use Rattle.runfile.specs.Run.{longest}
use Rattle.ledger.specs.Worlds.{Request, client_preflight, commit, dependencies, equivocating, faulty_vote, generations, job_in}
use Rattle.ledger.specs.Worlds.{preflight, propose, release, show, snapshot, vault_in}
use Rattle.runfile.specs.Steps.{Command, command_in, draw, kind_at, next_at, request, unreadable}
use Rattle.runfile.specs.declared.Kind.TheVariants.{Propose, Unknown}
use Rattle.kind_table.specs.Table.{is_wide}
use Rattle.kind_table.specs.declared.Form.{Form}
use Rattle.kind_table.specs.declared.Form.TheVariants.{Bare, OfClient, OfJob, OfVault, Unreadable}
use Rattle.kind_table.specs.declared.Operation.{Operation}
use Rattle.reading.specs.declared.Step.{Step}

-- the vault and the job that a command names
abbrev pub vault_of : Command → ℕ
vault_of (request q) = vault_in q
vault_of (draw u) = 0
vault_of unreadable = 0

abbrev pub job_of : Command → ℕ
job_of (request q) = job_in q
job_of (draw u) = u
job_of unreadable = 0

-- the place of the history of the client that a command names, 0 where it names none
abbrev pub place_in : Request → ℕ
place_in (propose bytes) = 0
place_in (preflight v job) = 0
place_in (commit v job signers) = 0
place_in (faulty_vote column v job) = 0
place_in (show job) = 0
place_in (generations job) = 0
place_in snapshot = 0
place_in (release v job rival) = 0
place_in (dependencies v job) = 0
place_in (client_preflight v job client) = history_place v client
place_in equivocating = 0

abbrev pub history_of : Command → ℕ
history_of (request q) = place_in q
history_of (draw u) = 0
history_of unreadable = 0

-- nothing that can be read
abbrev pub unread : List ℕ → ℕ → ℕ → Step
unread input number at = record { number = number; kind = Unknown; wide = false; vault = 0; job = 0; place = 0; at = at; end = length input }

-- a step of an operation, whose body starts at `at` and ends at `end`
abbrev pub naming : Operation → ℕ → ℕ → ℕ → ℕ → ℕ → ℕ → Step
naming o number v job place at end =
    record { number = number; kind = o.kind; wide = o.wide; vault = v; job = job; place = place; at = at; end = end }

-- by the form of the body
abbrev pub formed : Form → Operation → List ℕ → ℕ → ℕ → ℕ → Step
formed Bare o input number at end = naming o number 0 0 0 at end
formed OfJob o input number at end = naming o number 0 (get_or input at 0) 0 at end
formed OfVault o input number at end = naming o number (get_or input at 0) (get_or input (at + 1) 0) 0 at end
formed OfClient o input number at end =
    naming o number (get_or input at 0) (get_or input (at + 1) 0) (history_place (get_or input at 0) (get_or input (at + 2) 0)) at end
formed Unreadable o input number at end = unread input number at

-- the vault, the job and the place of a history of a step are those that its command names
pub record Asked (version : ℕ) (input : List ℕ) (s : Step) : Type 0 where
  pub few : s.at ≤ longest
  pub vault_is : s.vault ≡ vault_of (command_in version s.kind input s.at)
  pub job_is : s.job ≡ job_of (command_in version s.kind input s.at)
  pub place_is : s.place ≡ history_of (command_in version s.kind input s.at)
  -- a record is all there
  pub whole : s.kind ≡ Propose → s.at + record_size version ≤ length input

-- the step that stands at pos, with its number
pub record Read (version : ℕ) (input : List ℕ) (pos number : ℕ) (s : Step) : Type 0 where
  pub number_is : s.number ≡ number
  pub kind_is : s.kind ≡ kind_at version input pos
  pub wide_is : s.wide ≡ is_wide s.kind
  pub at_is : s.at ≡ pos + 1
  pub asked : Asked version input s
  pub end_is : s.end ≡ next_at version input pos
  pub onward : pos < s.end
  pub inside : s.end ≤ length input
