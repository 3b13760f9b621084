-- Each arm of the decision is its command's: the vault and the job that were read are those that the command names.
use mathlib.Core.Bool.{Bool, beq}
use mathlib.Core.List.{List}
use mathlib.Core.Path.{◌∙◌, ◌≡◌, ap, refl, subst, sym}
use Prim.Native.Nat.{◌+◌, ◌≤◌, ℕ}
use native.Mathlib.Omega.{arith}
use lib.Dec.{ltb}
use lib.ListN.{drop, get_or, length, take}
use Rattle.federation.specs.declared.Settings.{Settings}
use Rattle.outcome.specs.Figures.{Outcome, Verdict}
use Rattle.std.specs.Prelude.{Ok}
use Rattle.outcome.specs.declared.Refusal.TheVariants.{NoVault, NotBooked, WrongVault}
use Rattle.sets.specs.Bits.{has_bit}
use Rattle.codec.proofs.Sizes.{place_whole}
use Rattle.codec.specs.Codec.{record_size}
use Rattle.journal.proofs.Booked.{reflect_booked}
use Rattle.journal.specs.Journal.{inside_of, is_booked}
use Rattle.index.proofs.Tables.{records_part}
use Rattle.index.specs.Index.{Indexed, IndexedRecords}
use Rattle.ledger.proofs.Gates.{passed_rest, passed_test}
use Rattle.ledger.specs.Decisions.{client_preflighting, committing, gated, proposal, releasing}
use Rattle.ledger.specs.Given.{Known, Searchable}
use Rattle.ledger.specs.Steps.{gate_of}
use Rattle.vaults.specs.declared.Column.TheVariants.{Acknowledgements, Signatures}
use Rattle.vaults.specs.declared.Votes.{Votes}
use Rattle.ledger.specs.Worlds.{client_preflight, commit, dependencies, equivocating, faulty_vote, generations, preflight, propose, release, show, snapshot}
use Rattle.ledger.specs.declared.Change.TheVariants.{Nothing}
use Rattle.ledger.specs.declared.Decision.{Decision}
use Rattle.vaults.specs.declared.Vault.{Vault}
use Rattle.runfile.specs.Steps.{Command, command_in, draw, request, unreadable, word_at}
use Rattle.runfile.specs.declared.Kind.{Kind}
use Rattle.runfile.specs.declared.Kind.TheVariants.{ClientPreflight, Commit, Dependencies, Draw, Equivocating, FaultyAcknowledge, FaultySign, Generations}
use Rattle.runfile.specs.declared.Kind.TheVariants.{Preflight, Propose, Release, Show, Snapshot, Unknown}
use Rattle.kinds.specs.Decided.{decided_by, gate_by}
use Rattle.reading.specs.Reading.{Asked, job_of, vault_of}
use Rattle.reading.specs.declared.Step.{Step}
use Rattle.kinds.specs.declared.View.{View}

-- all booked records lie inside a run's journal
pub searched : (version : ℕ) (journal : List ℕ) (booked : ℕ) (numbers sets records : List ℕ) → Indexed version journal booked numbers sets records
    → Searchable version journal booked records
unfolding inside_of
searched version journal booked numbers sets records i =
    let e : booked ≡ inside_of version journal booked = omega (arith, place_whole version booked (length journal) i.inside) in
    record {
      few = i.few;
      indexed = subst (λ (n : ℕ). IndexedRecords version journal n records) e (records_part version journal booked numbers sets records i);
    }

-- a job whose gate passes is booked
pub known_behind : (s : Settings) (booked : ℕ) (journal : List ℕ) (v : ℕ) (faulty : Bool) (job : ℕ) (g : Verdict) → g ≡ gate_by s booked journal v faulty job
    → Known g booked job
unfolding gate_of
known_behind s booked journal v faulty job g h = record {
  below = λ p.
      let vault = passed_rest (ltb v s.n) _ NoVault (sym h ∙ p) in
      let kind = passed_rest (beq (has_bit s.faulty v) faulty) _ WrongVault vault in
      ((reflect_booked s.version journal booked job).sound (passed_test (is_booked s.version journal booked job) (Ok (tt {0})) NotBooked kind)).below;
}

-- the command of a kind with this vault and this job
abbrev again : ℕ → Kind → ℕ → ℕ → List ℕ → ℕ → Command
again version Propose v job input at = request (propose (take (record_size version) (drop at input)))
again version Preflight v job input at = request (preflight v job)
again version Commit v job input at = request (commit v job (word_at input (at + 2)))
again version FaultySign v job input at = request (faulty_vote Signatures v job)
again version FaultyAcknowledge v job input at = request (faulty_vote Acknowledgements v job)
again version Show v job input at = request (show job)
again version Draw v job input at = draw job
again version Generations v job input at = request (generations job)
again version Snapshot v job input at = request snapshot
again version Release v job input at = request (release v job (get_or input (at + 2) 0))
again version Dependencies v job input at = request (dependencies v job)
again version ClientPreflight v job input at = request (client_preflight v job (get_or input (at + 2) 0))
again version Equivocating v job input at = request equivocating
again version Unknown v job input at = unreadable

module _ (version : ℕ) (input : List ℕ) (at : ℕ) where
  same_command : (k : Kind) → again version k (vault_of (command_in version k input at))
      (job_of (command_in version k input at)) input at ≡ command_in version k input at
  same_command Propose = refl
  same_command Preflight = refl
  same_command Commit = refl
  same_command FaultySign = refl
  same_command FaultyAcknowledge = refl
  same_command Show = refl
  same_command Draw = refl
  same_command Generations = refl
  same_command Snapshot = refl
  same_command Release = refl
  same_command Dependencies = refl
  same_command ClientPreflight = refl
  same_command Equivocating = refl
  same_command Unknown = refl

module _ (w : View) (journal input : List ℕ) (s : Step) (a : Asked w.settings.version input s) where
  abbrev version : ℕ
  version = w.settings.version

  pub told : (k : Kind) → s.kind ≡ k → (r : Decision) → r ≡ decided_by w journal (again version k s.vault s.job input s.at)
      → r ≡ decided_by w journal (command_in version s.kind input s.at)
  told k e r h =
      let same : again version s.kind s.vault s.job input s.at ≡ command_in version s.kind input s.at =
      rw (a.vault_is, a.job_is) (same_command version input s.at s.kind) in
      h ∙ ap (decided_by w journal) (ap (λ (x : Kind). again version x s.vault s.job input s.at) (sym e) ∙ same)

  -- of a proposal the record is all there
  pub record_whole : s.kind ≡ Propose → s.at + record_size version ≤ length input
  record_whole e = a.whole e

-- behind a gate that was found
pub regated : (g g' : Verdict) (d r : Decision) → g ≡ g' → r ≡ gated g d → r ≡ gated g' d
regated g g' d r e h = rw e at h

-- with the signers that were read
pub with_signers : (g : Verdict) (s : Settings) (state : Vault) (votes : Votes) (v job x y : ℕ) (r : Decision) → x ≡ y
    → r ≡ gated g (committing s state votes v job x) → r ≡ gated g (committing s state votes v job y)
with_signers g s state votes v job x y r e h = rw e at h

-- with the record that was read
pub with_record : (version : ℕ) (journal : List ℕ) (booked : ℕ) (part bytes : List ℕ) (r : Decision) → part ≡ bytes
    → r ≡ proposal version journal booked part → r ≡ proposal version journal booked bytes
with_record version journal booked part bytes r e h = rw e at h

-- with the rival that was read
pub with_rival : (g : Verdict) (state : Vault) (version : ℕ) (journal : List ℕ) (booked signers job x y : ℕ) (r : Decision) → x ≡ y
    → r ≡ gated g (releasing state version journal booked signers job x) → r ≡ gated g (releasing state version journal booked signers job y)
with_rival g state version journal booked signers job x y r e h = rw e at h

-- with the client that was read
pub with_client : (g : Verdict) (state : Vault) (version : ℕ) (journal : List ℕ) (booked history signers v job x y : ℕ) (r : Decision) → x ≡ y
    → r ≡ gated g (client_preflighting state version journal booked x history signers v job)
    → r ≡ gated g (client_preflighting state version journal booked y history signers v job)
with_client g state version journal booked history signers v job x y r e h = rw e at h

pub drawn : (o o' : Outcome) → o ≡ o' → ◌≡◌ {A = Decision} (record { outcome = o; change = Nothing }) (record { outcome = o'; change = Nothing })
drawn o o' e = rw e

pub ruleset arms = (searched, known_behind, told, record_whole, regated, with_record, with_signers, with_rival, with_client, drawn)
