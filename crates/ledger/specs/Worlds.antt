-- Lists of steps ("The list of demand 3"): a step with its arguments and the journal that is lent for it, and what lasts from one
-- step to the next. The steps are the functions that the contracts of src/ cite.
use Rattle.std.specs.Prelude.{List, [], ◌++◌, ◌∷◌, ℕ, drop, length, take}
use Rattle.outcome.specs.Figures.{Outcome}
use Rattle.codec.specs.Codec.{place_of}
use Rattle.ledger.specs.State.{new_ledger, version_of}
use Rattle.ledger.specs.Steps.{
  carried,
  client_preflight_decision,
  commit_decision,
  dependencies_decision,
  equivocators_decision,
  faulty_vote_decision,
  generations_decision,
  journal_after,
  preflight_decision,
  propose_decision,
  release_decision,
  show_decision,
  snapshot_decision,
}
use Rattle.vaults.specs.declared.Column.{Column}
use Rattle.ledger.specs.declared.Decision.{Decision}
use Rattle.ledger.specs.declared.Ledger.{Ledger}
use Rattle.ledger.specs.declared.Reply.{Reply}

-- kinds 1 to 6 and 8 to 13. "A draw neither reads nor changes what the engine keeps and stays out".
pub data Request : Type 0 where
  propose : List ℕ → Request
  preflight : ℕ → ℕ → Request
  commit : ℕ → ℕ → ℕ → Request
  faulty_vote : Column → ℕ → ℕ → Request
  show : ℕ → Request
  generations : ℕ → Request
  snapshot : Request
  -- the vault, the job, and the rival that it lost to
  release : ℕ → ℕ → ℕ → Request
  dependencies : ℕ → ℕ → Request
  -- the vault, the job, and the client
  client_preflight : ℕ → ℕ → ℕ → Request
  equivocating : Request

-- the vault and the job that a step names, 0 where it names none
abbrev pub vault_in : Request → ℕ
vault_in (propose bytes) = 0
vault_in (preflight v job) = v
vault_in (commit v job signers) = v
vault_in (faulty_vote column v job) = v
vault_in (show job) = 0
vault_in (generations job) = 0
vault_in snapshot = 0
vault_in (release v job rival) = v
vault_in (dependencies v job) = v
vault_in (client_preflight v job client) = v
vault_in equivocating = 0

abbrev pub job_in : Request → ℕ
job_in (propose bytes) = 0
job_in (preflight v job) = job
job_in (commit v job signers) = job
job_in (faulty_vote column v job) = job
job_in (show job) = job
job_in (generations job) = job
job_in snapshot = 0
job_in (release v job rival) = job
job_in (dependencies v job) = job
job_in (client_preflight v job client) = job
job_in equivocating = 0

abbrev pub decision_of : Ledger → List ℕ → Request → Decision
decision_of l journal (propose bytes) = propose_decision l journal bytes
decision_of l journal (preflight v job) = preflight_decision l journal v job
decision_of l journal (commit v job signers) = commit_decision l journal v job signers
decision_of l journal (faulty_vote column v job) = faulty_vote_decision l journal column v job
decision_of l journal (show job) = show_decision l journal job
decision_of l journal (generations job) = generations_decision l journal job
decision_of l journal snapshot = snapshot_decision l
decision_of l journal (release v job rival) = release_decision l journal v job rival
decision_of l journal (dependencies v job) = dependencies_decision l journal v job
decision_of l journal (client_preflight v job client) = client_preflight_decision l journal v job client
decision_of l journal equivocating = equivocators_decision l journal

-- every step is a decision carried out: the right sides are those of `propose_of` to `equivocators_of`, which the contracts cite
abbrev pub step_of : Ledger → List ℕ → Request → Reply
step_of l journal q = carried l (decision_of l journal q) (vault_in q) (job_in q)

-- the lent journal after a step: only a proposal writes it
abbrev pub left_by : Ledger → List ℕ → Request → List ℕ
left_by l journal (propose bytes) = journal_after l journal bytes
left_by l journal (preflight v job) = journal
left_by l journal (commit v job signers) = journal
left_by l journal (faulty_vote column v job) = journal
left_by l journal (show job) = journal
left_by l journal (generations job) = journal
left_by l journal snapshot = journal
left_by l journal (release v job rival) = journal
left_by l journal (dependencies v job) = journal
left_by l journal (client_preflight v job client) = journal
left_by l journal equivocating = journal

-- "each step gets all that the engine keeps and the booked bytes as the step before left them"
pub record World : Type 0 where
  pub ledger : Ledger
  pub booked : List ℕ

-- a step, how many bytes are lent for it, and the free ones among them: "only the length of the book that the caller lends may differ"
pub record Event : Type 0 where
  pub request : Request
  pub size : ℕ
  pub beyond : List ℕ

-- the lent journal: the booked bytes, then any others, cut at the size
unfoldable pub lend : List ℕ → ℕ → List ℕ → List ℕ
lend booked size beyond = take size (booked ++ beyond)

abbrev pub lent : World → Event → List ℕ
lent w e = lend w.booked e.size e.beyond

abbrev pub reply_to : World → Event → Reply
reply_to w e = step_of w.ledger (lent w e) e.request

-- the booked bytes after a step that left the journal so: those of the journal, and the old ones that lie outside it
unfoldable pub overlay : List ℕ → List ℕ → List ℕ
overlay journal booked = journal ++ drop (length journal) booked

unfoldable pub after : World → Event → World
after w e =
    let next = (reply_to w e).ledger in
    record { ledger = next; booked = take (place_of (version_of w.ledger) next.booked) (overlay (left_by w.ledger (lent w e) e.request) w.booked) }

-- "The list starts with no record booked, nothing held, signed or acknowledged, counts 0 and no arrivals"
unfoldable pub start : ℕ → ℕ → ℕ → ℕ → World
start n b faulty version = record { ledger = new_ledger n b faulty version; booked = [] }

abbrev pub after_all : World → List Event → World
after_all w [] = w
after_all w (e ∷ es) = after_all (after w e) es

-- what each step of a list was answered
abbrev pub outcomes : World → List Event → List Outcome
outcomes w [] = []
outcomes w (e ∷ es) = (reply_to w e).outcome ∷ outcomes (after w e) es
