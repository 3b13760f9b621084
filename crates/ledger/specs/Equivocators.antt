-- What kind 13 answers (document 02, M-113): "Every vault that the rule names is listed, and no other", of any books; and of books that a list of steps leaves,
-- "A sound vault is never listed, releases included", so that at most b are.
use Rattle.std.specs.Prelude.{false, true, List, ◌≡◌, ◌<◌, ◌≤◌, ℕ, length}
use Rattle.base.specs.Lists.{Distinct, In}
use Rattle.base.specs.Reflect.{Reflects}
use Rattle.codec.specs.Codec.{place_of}
use Rattle.federation.specs.Federation.{Lawful}
use Rattle.federation.specs.declared.Settings.{Settings}
use Rattle.journal.specs.Journal.{job_at}
use Rattle.outcome.specs.Figures.{value_of}
use Rattle.outcome.specs.declared.Refusal.TheVariants.{NotBooked, Settings as BadSettings}
use Rattle.sets.specs.Bits.{has_bit}
use Rattle.job_sets.specs.Jobs.{InWords, job_has}
use Rattle.job_sets.specs.declared.job_set.JobSet.{JobSet}
use Rattle.ledger.specs.Decisions.{listing, unlisted}
use Rattle.ledger.specs.Demand3.{Correct, booked_job}
use Rattle.ledger.specs.Equivocation.{Equivocates}
use Rattle.ledger.specs.Meaning.{Sane}
use Rattle.ledger.specs.State.{signers_of, version_of}
use Rattle.ledger.specs.Steps.{equivocators_of}
use Rattle.ledger.specs.Worlds.{Event, World, after_all, lend, start}
use Rattle.ledger.specs.declared.Ledger.{Ledger}
use Rattle.ledger.specs.declared.Listing.{Listing}

-- every booked record lies wholly inside the journal
abbrev pub Whole : Ledger → List ℕ → Type 0
Whole l journal = place_of (version_of l) l.booked ≤ length journal

-- the rule names the vault
abbrev pub Named : Ledger → List ℕ → ℕ → Type 0
Named l journal v = (v < l.settings.n) × Equivocates l.settings (signers_of l) (job_at (version_of l) journal l.booked) l.booked v

-- what each answer means, of any ledger and any lent journal
pub data Answers (l : Ledger) (journal : List ℕ) : Listing → Type 0 where
  insane : (Sane l → ⊥) → Answers l journal (unlisted BadSettings)
  short : Sane l → (Whole l journal → ⊥) → Answers l journal (unlisted NotBooked)
  listed : (vaults : JobSet) → Sane l → Whole l journal → InWords vaults → ((v : ℕ) → Reflects (job_has vaults v) (Named l journal v))
      → Answers l journal (listing vaults)

-- the answer has its meaning, and nothing else has
abbrev pub ListsExactly : Type 0
ListsExactly = (l : Ledger) (journal : List ℕ) → Answers l journal (equivocators_of l journal)
    × ((r : Listing) → Answers l journal r → r ≡ equivocators_of l journal)

-- the rule does not name the vault, and whatever journal is lent it is not listed
pub record Unnamed (w : World) (v : ℕ) : Type 0 where
  pub rule : Equivocates w.ledger.settings (signers_of w.ledger) (booked_job w) w.ledger.booked v → ⊥
  pub unlisted : (size : ℕ) (beyond : List ℕ) → job_has (equivocators_of w.ledger (lend w.booked size beyond)).members v ≡ false

-- wherever a list of steps has led
abbrev pub CorrectNeverNamed : Type 0
CorrectNeverNamed =
    (n b faulty version : ℕ) → Lawful (record { n = n; b = b; faulty = faulty; version = version }) → (es : List Event) (v : ℕ)
    → Correct (record { n = n; b = b; faulty = faulty; version = version }) v → Unnamed (after_all (start n b faulty version) es) v

-- the listed vaults are faulty ones, so there are at most b
pub record FewListed (s : Settings) (answer : Listing) : Type 0 where
  pub faulty : (v : ℕ) → job_has answer.members v ≡ true → has_bit s.faulty v ≡ true
  -- no list of different ones is longer than b
  pub few : (vs : List ℕ) → Distinct vs → ((v : ℕ) → In v vs → job_has answer.members v ≡ true) → length vs ≤ s.b
  -- "the number of vaults listed"
  pub value : value_of answer.outcome ≤ s.b

-- wherever a list of steps has led, and whatever journal is lent
abbrev pub AtMostB : Type 0
AtMostB =
    (n b faulty version : ℕ) → Lawful (record { n = n; b = b; faulty = faulty; version = version }) → (es : List Event) (size : ℕ) (beyond : List ℕ)
    → let w = after_all (start n b faulty version) es in
    FewListed (record { n = n; b = b; faulty = faulty; version = version }) (equivocators_of w.ledger (lend w.booked size beyond))
