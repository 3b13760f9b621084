-- A command decided by the ledger's definitions: the run's decision from pieces of the ledger is the same, and a step that changes something
-- names a vault and a job that are there.
use mathlib.Core.Bool.{Bool, false, true, true≢false}
use mathlib.Core.List.{List}
use mathlib.Core.Logic.{◌⊎◌, ⊎_elim}
use mathlib.Core.Path.{◌∙◌, ◌≡◌, ap, refl, subst, sym}
use Prim.Native.Nat.{◌*◌, ◌%◌, ◌+◌, ◌<◌, ℕ}
use native.Mathlib.Omega.{arith}
use lib.ListN.{drop, get_or, take}
use Rattle.outcome.specs.declared.Refusal.TheVariants.{Unreadable}
use Rattle.outcome.specs.Figures.{Verdict}
use Rattle.std.specs.Prelude.{unwrap_or, Ok, Err}
use Rattle.job_sets.specs.Jobs.{no_jobs}
use Rattle.codec.specs.Codec.{record_size}
use Rattle.journal.specs.Journal.{is_booked, is_whole, job_at}
use Rattle.equivocation.proofs.Partners.{listed_by_lem}
use Rattle.binomials.specs.Draw.{draw_of}
use Rattle.ledger.proofs.Gates.{booked_entered, entered, in_place, reflect_sane}
use Rattle.ledger.proofs.Places.{proposed}
use Rattle.ledger.proofs.Writes.{unwritten}
use Rattle.ledger.specs.Decisions.{ageing, answering, client_preflighting, committing, gated, gated_listing, is_nothing, listing, preflighting}
use Rattle.ledger.specs.Decisions.{refusing, releasing, requiring, snapshotting, status_of, voting}
use Rattle.ledger.specs.Holders.{held_somewhere}
use Rattle.ledger.specs.Given.{Placed}
use Rattle.ledger.specs.Meaning.{Proposed, Sane, failed, full, insane, known, new}
use Rattle.ledger.specs.State.{applied, history_at, signers_of, vault_at, version_of, votes_at, votes_in}
use Rattle.ledger.specs.Steps.{booked_gate, client_preflight_decision, commit_decision, dependencies_decision, dependencies_of, equivocators_decision}
use Rattle.ledger.specs.Steps.{equivocators_of, faulty_vote_decision, gate_of, generations_decision, journal_after, whole_gate}
use Rattle.ledger.specs.Steps.{journal_with, preflight_decision, propose_decision, release_decision, sane_gate, show_decision, snapshot_decision, vault_gate}
use Rattle.ledger.specs.Worlds.{decision_of}
use Rattle.ledger.specs.declared.Change.{Change}
use Rattle.ledger.specs.declared.Change.TheVariants.{Book, Count, Grant, Hold, Nothing, Record, Release as Released, See, Sign}
use Rattle.vaults.specs.declared.Column.TheVariants.{Acknowledgements, Signatures}
use Rattle.ledger.specs.declared.Decision.{Decision}
use Rattle.ledger.specs.declared.Ledger.{Ledger}
use Rattle.ledger.specs.declared.Listing.{Listing}
use Rattle.vaults.specs.declared.Vault.{Vault}
use Rattle.runfile.specs.Steps.{Command, command_in, draw, journal_by, listed_by, reply_of, request, unreadable, word_at}
use Rattle.runfile.specs.declared.Kind.{Kind}
use Rattle.runfile.specs.declared.Kind.TheVariants.{ClientPreflight, Commit, Dependencies, Draw, Equivocating, FaultyAcknowledge, FaultySign, Generations}
use Rattle.runfile.specs.declared.Kind.TheVariants.{Preflight, Propose, Release, Show, Snapshot, Unknown}
use Rattle.quota.specs.Quota.{history_place}
use Rattle.steps.proofs.Quiet.{Bookless}
use Rattle.kinds.specs.Decided.{booked_or, decided_by}
use Rattle.questions.specs.Answers.{naming, required, surveyed}
use Rattle.kind_table.specs.Table.{is_wide}
use Rattle.reading.specs.Reading.{history_of, job_of, vault_of}
use Rattle.naming.specs.Kept.{Found, Remembered}
use Rattle.questions.specs.declared.Books.{Books}
use Rattle.kinds.specs.declared.View.{View}

-- what a command decides, by the ledger's definitions
abbrev pub command_decision : Ledger → List ℕ → Command → Decision
command_decision l journal (request q) = decision_of l journal q
command_decision l journal (draw u) = record { outcome = draw_of l.settings u; change = Nothing }
command_decision l journal unreadable = refusing Unreadable

-- ---- a command carried out
module _ (l : Ledger) (journal : List ℕ) where
  pub reply_ledger : (c : Command) → (reply_of l journal c).ledger ≡ applied l (command_decision l journal c).change (vault_of c) (job_of c)
  unfolding applied
  reply_ledger (request q) = refl
  reply_ledger (draw u) = refl
  reply_ledger unreadable = refl

  pub reply_outcome : (c : Command) → (reply_of l journal c).outcome ≡ (command_decision l journal c).outcome
  reply_outcome (request q) = refl
  reply_outcome (draw u) = refl
  reply_outcome unreadable = refl

-- ---- what a step looks at: the arrays are read at the vault, the job and the place modulo their length
abbrev pub view_at : Ledger → ℕ → ℕ → ℕ → View
view_at l v job place = record {
  settings = l.settings;
  booked = l.booked;
  state = vault_at l (v % 16);
  votes = votes_at l (job % 128);
  history = get_or l.histories (place % 128) 0;
  next = l.next;
  seen = l.seen;
  turn = vault_at l (l.next % 16);
}

abbrev pub books_of : Ledger → Remembered → Books
books_of l named =
    record { settings = l.settings; booked = l.booked; arrivals = l.arrivals; vaults = l.vaults; votes = l.votes; named = named }

-- ---- behind a gate
quiet_behind : (g : Verdict) (d : Decision) → d.change ≡ Nothing → (gated g d).change ≡ Nothing
quiet_behind (Ok _) d e = e
quiet_behind (Err why) d e = refl

loud_behind : (g : Verdict) (d : Decision) → is_nothing (gated g d).change ≡ false → g ≡ Ok (tt {0})
loud_behind (Ok _) d e = refl
loud_behind (Err why) d e = absurd (true≢false e)

abbrev is_hold : Change → Bool
is_hold Nothing = false
is_hold Book = false
is_hold (Sign state) = false
is_hold (Hold state) = true
is_hold (Released state) = false
is_hold (Record column) = false
is_hold (See seen) = false
is_hold (Count history) = false
is_hold (Grant grant) = false

unheld_behind : (g : Verdict) (d : Decision) → is_hold d.change ≡ false → is_hold (gated g d).change ≡ false
unheld_behind (Ok _) d e = e
unheld_behind (Err why) d e = refl

-- what is decided behind a gate may be read elsewhere where the gate is shut
same_behind : (g : Verdict) (d e : Decision) → (g ≡ Ok (tt {0}) → d ≡ e) → gated g d ≡ gated g e
same_behind (Ok _) d e h = h refl
same_behind (Err why) d e h = refl

ageing_quiet : (b : Bool) (age : ℕ) → (ageing b age).change ≡ Nothing
unfolding ageing
ageing_quiet true age = refl
ageing_quiet false age = refl

same_listed : (g : Verdict) (r q : Listing) → (g ≡ Ok (tt {0}) → r ≡ q) → gated_listing g r ≡ gated_listing g q
same_listed (Ok _) r q h = h refl
same_listed (Err why) r q h = refl

-- three kinds look at all vaults
by_wide : (P : Kind → Type 0) → P Generations → P Dependencies → P Equivocating → (k : Kind) → is_wide k ≡ true → P k
by_wide P g d e Propose w = absurd (true≢false (sym w))
by_wide P g d e Preflight w = absurd (true≢false (sym w))
by_wide P g d e Commit w = absurd (true≢false (sym w))
by_wide P g d e FaultySign w = absurd (true≢false (sym w))
by_wide P g d e FaultyAcknowledge w = absurd (true≢false (sym w))
by_wide P g d e Show w = absurd (true≢false (sym w))
by_wide P g d e Draw w = absurd (true≢false (sym w))
by_wide P g d e Generations w = g
by_wide P g d e Snapshot w = absurd (true≢false (sym w))
by_wide P g d e Release w = absurd (true≢false (sym w))
by_wide P g d e Dependencies w = d
by_wide P g d e ClientPreflight w = absurd (true≢false (sym w))
by_wide P g d e Equivocating w = e
by_wide P g d e Unknown w = absurd (true≢false (sym w))

module _ (l : Ledger) (s : Sane l) (journal : List ℕ) where
  vault_gate_lem : (v job : ℕ) (faulty : Bool) → gate_of l.settings v faulty (is_booked (version_of l) journal l.booked job) ≡ vault_gate l journal v job faulty
  unfolding vault_gate
  vault_gate_lem v job faulty = simp ((reflect_sane l).complete s)

  pub booked_gate_lem : (job : ℕ) → booked_or (is_booked (version_of l) journal l.booked job) ≡ booked_gate l journal job
  unfolding booked_gate booked_or
  booked_gate_lem job = simp ((reflect_sane l).complete s)

  whole_gate_lem : booked_or (is_whole (version_of l) journal l.booked) ≡ whole_gate l journal
  unfolding whole_gate booked_or
  whole_gate_lem = simp ((reflect_sane l).complete s)

  -- behind an open gate the vault and the job modulo the arrays' lengths are themselves
  at_vault : (v job : ℕ) (faulty : Bool) (P : ℕ → ℕ → Decision)
      → gated (gate_of l.settings v faulty (is_booked (version_of l) journal l.booked job)) (P (v % 16) (job % 128)) ≡ gated
      (vault_gate l journal v job faulty) (P v job)
  at_vault v job faulty P =
      ap (λ (g : Verdict). gated g (P (v % 16) (job % 128))) (vault_gate_lem v job faulty)
      ∙ same_behind (vault_gate l journal v job faulty) _ _ placed
    where
      placed : vault_gate l journal v job faulty ≡ Ok (tt {0}) → P (v % 16) (job % 128) ≡ P v job
      placed e =
          let p = in_place l journal v job faulty (entered l journal v job faulty e) in
          let a : v % 16 ≡ v = omega (arith, p.vault) in
          let b : job % 128 ≡ job = omega (arith, p.job) in
          rw (a, b)

  at_job : (job : ℕ) (P : ℕ → Decision)
      → gated (booked_or (is_booked (version_of l) journal l.booked job)) (P (job % 128)) ≡ gated (booked_gate l journal job) (P job)
  at_job job P = ap (λ (g : Verdict). gated g (P (job % 128))) (booked_gate_lem job) ∙ same_behind (booked_gate l journal job) _ _ placed
    where
      placed : booked_gate l journal job ≡ Ok (tt {0}) → P (job % 128) ≡ P job
      placed e =
          let h = booked_entered l journal job e in
          let b : job % 128 ≡ job = omega (arith, h.1.below, h.0.booked) in
          rw b

  -- ---- a kind whose body starts at `at`
  module _ (input : List ℕ) (at : ℕ) where
    abbrev command : Kind → Command
    command k = command_in (version_of l) k input at

    abbrev pub decision : Kind → Decision
    decision k = command_decision l journal (command k)

    abbrev bytes : List ℕ
    bytes = take (record_size (version_of l)) (drop at input)

    -- the first two bytes of the body
    abbrev first : ℕ
    first = get_or input at 0

    abbrev second : ℕ
    second = get_or input (at + 1) 0

    pub decided_is : (k : Kind) → is_wide k ≡ false → decided_by (view_at l (vault_of (command k)) (job_of (command k)) (history_of (command k))) journal (command k)
        ≡ decision k
    unfolding propose_decision preflight_decision commit_decision faulty_vote_decision show_decision snapshot_decision sane_gate votes_in release_decision
        client_preflight_decision history_at history_place
    decided_is Propose n = simp ((reflect_sane l).complete s)
    decided_is Preflight n =
        at_vault first second false (λ v job. preflighting (vault_at l v) (version_of l) journal l.booked (signers_of l job) first second)
    decided_is Commit n =
        at_vault first second false
        (λ v job. committing l.settings (vault_at l v) (votes_at l job) first second (word_at input (at + 2)))
    decided_is FaultySign n = at_vault first second true (λ v job. voting (votes_in l Signatures job) first (Record Signatures))
    decided_is FaultyAcknowledge n = at_vault first second true (λ v job. voting (votes_in l Acknowledgements job) first (Record Acknowledgements))
    decided_is Show n = at_job first (λ job. answering (status_of l.settings (votes_at l job)))
    decided_is Draw n = refl
    decided_is Generations n = absurd (true≢false n)
    decided_is Snapshot n =
        let a : l.next % 16 ≡ l.next = omega (arith, s.next, s.lawful.vaults) in
        simp ((reflect_sane l).complete s, a)
    decided_is Release n =
        at_vault first second false (λ v job. releasing (vault_at l v) (version_of l) journal l.booked (signers_of l job) second (get_or input (at + 2) 0))
    decided_is Dependencies n = absurd (true≢false n)
    decided_is ClientPreflight n =
        let third = get_or input (at + 2) 0 in
        let history = get_or l.histories ((8 * (first % 16) + third % 8) % 128) 0 in
        let p : (8 * (first % 16) + third % 8) % 128 ≡ 8 * (first % 16) + third % 8 = omega arith in
        at_vault first second false
        (λ v job. client_preflighting (vault_at l v) (version_of l) journal l.booked third history (signers_of l job) first second)
        ∙ rw p
    decided_is Equivocating n = absurd (true≢false n)
    decided_is Unknown n = refl

    -- ---- a kind that looks at all vaults changes nothing
    pub wide_quiet : (k : Kind) → is_wide k ≡ true → (decision k).change ≡ Nothing
    unfolding generations_decision dependencies_decision equivocators_decision
    wide_quiet = by_wide (λ k. (decision k).change ≡ Nothing) (quiet_behind (booked_gate l journal first) _ (ageing_quiet _ _)) refl refl

    -- what a command answers and lists, by the ledger's definitions
    abbrev pub answer : Kind → Listing
    answer k = record { outcome = (decision k).outcome; members = listed_by l journal (command k) }

    -- kind 11: behind an open gate the vault modulo the number of vaults is itself
    required_at : ℕ → Listing
    required_at v = requiring (vault_at l v) (held_somewhere l.settings l.vaults) (version_of l) journal l.booked second

    required_is : (kept : Remembered) → required (books_of l kept) journal first second ≡ dependencies_of l journal first second
    unfolding dependencies_of required_at
    required_is kept =
        ap (λ (g : Verdict). gated_listing g (required_at (first % 16))) (vault_gate_lem first second false)
        ∙ same_listed (vault_gate l journal first second false) _ _ placed
      where
        placed : vault_gate l journal first second false ≡ Ok (tt {0}) → required_at (first % 16) ≡ required_at first
        placed e =
            let p = in_place l journal first second false (entered l journal first second false e) in
            let a : first % 16 ≡ first = omega (arith, p.vault) in
            ap required_at a

    -- kind 13: the vaults that were found are those that the rule names
    naming_is : (named : Remembered) → Found l.settings l.votes journal l.booked Equivocating named
        → naming (version_of l) l.booked journal (unwrap_or named no_jobs) ≡ equivocators_of l journal
    unfolding equivocators_of
    naming_is named h =
        ap (λ (g : Verdict). gated_listing g (listing (unwrap_or named no_jobs))) whole_gate_lem
        ∙ ap (gated_listing (whole_gate l journal)) (listed_by_lem l (job_at (version_of l) journal l.booked) (unwrap_or named no_jobs) _ (h.right.are (h.known refl)) refl)

    abbrev Answers : Kind → Type 0
    Answers k = (kept named : Remembered) → Found l.settings l.votes journal l.booked k named
        → surveyed (books_of l kept) (unwrap_or named no_jobs) l.order journal k (vault_of (command k)) (job_of (command k)) ≡ answer k

    pub wide_answer : (k : Kind) → is_wide k ≡ true → Answers k
    unfolding generations_decision dependencies_decision equivocators_decision
    wide_answer = by_wide Answers (λ kept named h. rw (booked_gate_lem first)) (λ kept named h. required_is kept) (λ kept. naming_is)

    -- any other kind lists nothing
    pub narrow_lists : (k : Kind) → is_wide k ≡ false → no_jobs ≡ listed_by l journal (command k)
    narrow_lists Propose n = refl
    narrow_lists Preflight n = refl
    narrow_lists Commit n = refl
    narrow_lists FaultySign n = refl
    narrow_lists FaultyAcknowledge n = refl
    narrow_lists Show n = refl
    narrow_lists Draw n = refl
    narrow_lists Generations n = refl
    narrow_lists Snapshot n = refl
    narrow_lists Release n = refl
    narrow_lists Dependencies n = absurd (true≢false n)
    narrow_lists ClientPreflight n = refl
    narrow_lists Equivocating n = absurd (true≢false n)
    narrow_lists Unknown n = refl

    -- ---- only a proposal writes the journal
    abbrev LeftBy : Kind → Type 0
    LeftBy k = journal_by l journal (command k) ≡ journal_with (decision k).change l.booked (version_of l) journal bytes

    proposal_left : LeftBy Propose
    unfolding journal_after
    proposal_left = refl

    untouched : (d : Decision) → Bookless d → journal ≡ journal_with d.change l.booked (version_of l) journal bytes
    untouched d b = unwritten d.change false l.booked (version_of l) journal bytes (sym b.none) refl

    bookless_left : (k : Kind) → Bookless (decision k) → LeftBy k
    bookless_left Propose b = proposal_left
    bookless_left Preflight b = untouched (decision Preflight) b
    bookless_left Commit b = untouched (decision Commit) b
    bookless_left FaultySign b = untouched (decision FaultySign) b
    bookless_left FaultyAcknowledge b = untouched (decision FaultyAcknowledge) b
    bookless_left Show b = untouched (decision Show) b
    bookless_left Draw b = untouched (decision Draw) b
    bookless_left Generations b = untouched (decision Generations) b
    bookless_left Snapshot b = untouched (decision Snapshot) b
    bookless_left Release b = untouched (decision Release) b
    bookless_left Dependencies b = untouched (decision Dependencies) b
    bookless_left ClientPreflight b = untouched (decision ClientPreflight) b
    bookless_left Equivocating b = untouched (decision Equivocating) b
    bookless_left Unknown b = untouched (decision Unknown) b

    pub left_by_lem : (k : Kind) → (k ≡ Propose) ⊎ Bookless (decision k) → LeftBy k
    left_by_lem k b = ⊎_elim (λ p. subst LeftBy (sym p) proposal_left) (bookless_left k) b

    -- ---- a step that changes something names a vault and a job that are there
    -- the vault and the job are in place, and a job that is held now is booked
    pub record There (v job : ℕ) (d : Decision) : Type 0 where
      pub placed : Placed l v job
      pub below : (state : Vault) → d.change ≡ Hold state → job < l.booked

    gone_in : (v job : ℕ) (faulty : Bool) (d : Decision) → is_nothing (gated (vault_gate l journal v job faulty) d).change ≡ false
        → There v job (gated (vault_gate l journal v job faulty) d)
    gone_in v job faulty d e =
        let h = entered l journal v job faulty (loud_behind _ d e) in
        record { placed = in_place l journal v job faulty h; below = λ state n. h.known.below }

    -- a step that names neither vault nor job, and holds nothing
    unnamed : (d : Decision) → ((state : Vault) → d.change ≡ Hold state → ⊥) → There 0 0 d
    unnamed d n = record {
      placed = record { vault = omega arith; job = omega arith; booked = s.booked; arrivals = s.arrivals };
      below = λ state e. absurd (n state e);
    }

    proposal_holds_nothing : (d : Decision) → Proposed l journal bytes d → (state : Vault) → d.change ≡ Hold state → ⊥
    proposal_holds_nothing d (insane n) state e = true≢false (sym (ap is_hold e))
    proposal_holds_nothing d (failed why s x) state e = true≢false (sym (ap is_hold e))
    proposal_holds_nothing d (known k h) state e = true≢false (sym (ap is_hold e))
    proposal_holds_nothing d (full h) state e = true≢false (sym (ap is_hold e))
    proposal_holds_nothing d (new h) state e = true≢false (sym (ap is_hold e))

    visit_holds_nothing : (state : Vault) → (decision Snapshot).change ≡ Hold state → ⊥
    unfolding snapshot_decision snapshotting
    visit_holds_nothing state e = true≢false (sym (ap is_hold e) ∙ unheld_behind (sane_gate l) _ refl)

    quiet : {A : Type 0} (c : Change) → c ≡ Nothing → is_nothing c ≡ false → A
    quiet c q e = absurd (true≢false (sym (ap is_nothing q) ∙ e))

    pub there : (k : Kind) → is_nothing (decision k).change ≡ false → There (vault_of (command k)) (job_of (command k)) (decision k)
    unfolding preflight_decision commit_decision faulty_vote_decision show_decision release_decision client_preflight_decision
    there Propose e = unnamed _ (proposal_holds_nothing _ (proposed l journal bytes))
    there Preflight e = gone_in first second false _ e
    there Commit e = gone_in first second false _ e
    there FaultySign e = gone_in first second true _ e
    there FaultyAcknowledge e = gone_in first second true _ e
    there Show e = quiet _ (quiet_behind (booked_gate l journal first) _ refl) e
    there Draw e = quiet _ refl e
    there Generations e = quiet _ (wide_quiet Generations refl) e
    there Snapshot e = unnamed _ visit_holds_nothing
    there Release e = gone_in first second false _ e
    there Dependencies e = quiet _ (wide_quiet Dependencies refl) e
    there ClientPreflight e = gone_in first second false _ e
    there Equivocating e = quiet _ (wide_quiet Equivocating refl) e
    there Unknown e = quiet _ refl e
