-- What the contracts of the operations cite is what a list of steps runs. An operation's promise is an equation with one of the definitions below; so what
-- demands 1 to 3 say of lists of steps they say of the operations, called one after another, each with the ledger and the booked bytes that the one before
-- left.
use Rattle.std.specs.Prelude.{List, [], ◌≡◌, ◌≤◌, ℕ, get_or, length}
use Rattle.codec.specs.Codec.{place_of}
use Rattle.federation.specs.Federation.{Lawful}
use Rattle.outcome.specs.Figures.{Outcome}
use Rattle.vaults.specs.declared.Column.{Column}
use Rattle.ledger.specs.Demand3.{records_in}
use Rattle.ledger.specs.State.{version_of}
use Rattle.ledger.specs.Steps.{client_preflight_of, commit_of, dependencies_of, equivocators_of, faulty_vote_of, generations_of, journal_after, new_of, preflight_of}
use Rattle.ledger.specs.Steps.{propose_of, release_of, show_of, shown_of, snapshot_of}
use Rattle.ledger.specs.Worlds.{
  Event,
  World,
  after,
  after_all,
  client_preflight,
  commit,
  dependencies,
  equivocating,
  faulty_vote,
  generations,
  left_by,
  lend,
  lent,
  preflight,
  propose,
  release,
  show,
  snapshot,
  start,
  step_of,
}
use Rattle.ledger.specs.declared.Ledger.{Ledger}
use Rattle.ledger.specs.declared.Reply.{Reply}

-- the reply of an operation that takes the ledger to read it, and hands none back
abbrev pub reading : Ledger → Outcome → Reply
reading l outcome = record { outcome = outcome; ledger = l }

-- each request of a list, by the definition that its operation's contract cites: of any ledger and journal
pub record Linked (l : Ledger) (journal : List ℕ) : Type 0 where
  -- kind 1, operations::propose: its reply, and the journal at its exit
  pub proposes : (bytes : List ℕ) → step_of l journal (propose bytes) ≡ propose_of l journal bytes
  pub writes : (bytes : List ℕ) → left_by l journal (propose bytes) ≡ journal_after l journal bytes
  -- kind 2, voting::preflight
  pub preflights : (v k : ℕ) → step_of l journal (preflight v k) ≡ preflight_of l journal v k
  -- kind 3, voting::commit
  pub commits : (v k signers : ℕ) → step_of l journal (commit v k signers) ≡ commit_of l journal v k signers
  -- kinds 4 and 5, voting::faulty_vote
  pub votes : (column : Column) (v k : ℕ) → step_of l journal (faulty_vote column v k) ≡ faulty_vote_of l journal column v k
  -- kind 6, inquiries::show
  pub shows : (k : ℕ) → step_of l journal (show k) ≡ reading l (show_of l journal k)
  -- kind 8, inquiries::generations
  pub ages : (k : ℕ) → step_of l journal (generations k) ≡ reading l (generations_of l journal k)
  -- kind 9, operations::snapshot
  pub visits : step_of l journal snapshot ≡ snapshot_of l
  -- kind 10, amendments::release
  pub releases : (v k rival : ℕ) → step_of l journal (release v k rival) ≡ release_of l journal v k rival
  -- kind 11, inquiries::dependencies
  pub depends : (v k : ℕ) → step_of l journal (dependencies v k) ≡ reading l (dependencies_of l journal v k).outcome
  -- kind 12, amendments::client_preflight
  pub asks : (v k client : ℕ) → step_of l journal (client_preflight v k client) ≡ client_preflight_of l journal v k client
  -- kind 13, inquiries::equivocating
  pub names : step_of l journal equivocating ≡ reading l (equivocators_of l journal).outcome

-- a list begins with the ledger that books::new hands out, and goes on with the one that a step's reply has
pub record Chained : Type 0 where
  pub begins : (n b faulty version : ℕ) → (start n b faulty version).ledger ≡ (new_of n b faulty version).ledger
  pub goes_on : (w : World) (e : Event) → (after w e).ledger ≡ (step_of w.ledger (lent w e) e.request).ledger

-- inquiries::lookup: "A booked record is shown as the hundred bytes inside the caller's book". Wherever a list has led, and where the lent journal holds all
-- records, it is the record that the list booked under the number, and there is none beyond them.
abbrev pub Lookups : Type 0
Lookups =
    (n b faulty version : ℕ) → Lawful (record { n = n; b = b; faulty = faulty; version = version }) → (es : List Event) (size : ℕ) (beyond : List ℕ) (k : ℕ)
    → let w = after_all (start n b faulty version) es in
    place_of (version_of w.ledger) w.ledger.booked ≤ length (lend w.booked size beyond)
    → shown_of w.ledger (lend w.booked size beyond) k
    ≡ get_or (records_in (version_of w.ledger) w.ledger.booked w.booked) k []

pub record Links : Type 0 where
  pub linked : (l : Ledger) (journal : List ℕ) → Linked l journal
  pub chained : Chained
  pub lookups : Lookups
