-- Demand 3: the invariant holds at the start, each step of any list keeps it, and it says all that the statement asks.
use mathlib.Core.Bool.{Bool, true, true≢false}
use mathlib.Core.List.{List, [], ◌++◌, ◌∷◌}
use mathlib.Core.Logic.{inl, inr, ⊎_elim}
use mathlib.Core.Path.{◌∙◌, ◌≡◌, ap, refl, subst, sym}
use Prim.Native.Nat.{◌+◌, ◌<◌, ◌^◌, ◌≤◌, suc, zero, ℕ}
use native.Mathlib.Omega.{arith}
use lib.Count.{ones}
use lib.ListN.{get_or, replicate}
use lib.Pow.{pow_pos}
use Rattle.base.proofs.Members.{in_get_d}
use Rattle.base.specs.Lists.{In, total}
use Rattle.outcome.specs.Figures.{number_of, Outcome}
use Rattle.std.specs.Prelude.{Ok}
use Rattle.checks.specs.Checks.{examined}
use Rattle.codec.proofs.RoundTrip.{plain_untrimmed}
use Rattle.codec.proofs.Sizes.{place_first}
use Rattle.codec.specs.Codec.{says_trimmed}
use Rattle.conflicts.specs.Tapes.{frames_in}
use Rattle.record.specs.declared.Entry.{Entry}
use Rattle.record.specs.declared.Job.{Job}
use Rattle.sets.proofs.Bits.{has_none}
use Rattle.job_sets.proofs.Jobs.{has_no_jobs}
use Rattle.sets.specs.Bits.{has_bit}
use Rattle.job_sets.specs.Jobs.{job_has, no_jobs}
use Rattle.job_sets.specs.declared.job_set.JobSet.{JobSet}
use Rattle.ledger.proofs.Account.{books_new}
use Rattle.ledger.proofs.Changes.{Change, appends, changes, counts, grants, holds, idle, nothing, releases, sees, shape_sane, signs, votes}
use Rattle.ledger.proofs.Effects.{hold_settings}
use Rattle.ledger.proofs.Gates.{reflect_sane}
use Rattle.ledger.proofs.Invariant.{Inv, held_by, keep, tally}
use Rattle.ledger.proofs.Places.{examined_length}
use Rattle.ledger.proofs.Refusals.{never_one}
use Rattle.ledger.proofs.Safety.{certified_apart, meeting}
use Rattle.ledger.proofs.Views.{held_at, signed_at, voted_at}
use Rattle.ledger.specs.Demand3.{Apart, Besides, Demand3, Disjoint, FirstVersion, Held, InTurn, SingleRegister, accessioned_along}
use Rattle.ledger.specs.Demand3.{booked_job, made_along, records_in, standing_along, trimmed_along}
use Rattle.federation.specs.Federation.{Lawful, threshold_of}
use Rattle.ledger.specs.Register.{Register, feed, feed_all, is_done, log, new_register, tabled}
use Rattle.ledger.specs.State.{acknowledgers_of, arrived, booking, counted, new_ledger, signers_of, vault_at, version_of}
use Rattle.ledger.specs.State.{visited, voted, votes_in, with_vault}
use Rattle.vaults.specs.Vaults.{new_vault}
use Rattle.vaults.specs.Votes.{column_of, no_votes}
use Rattle.vaults.specs.declared.Column.{Column}
use Rattle.vaults.specs.declared.Column.TheVariants.{Acknowledgements, Signatures}
use Rattle.federation.specs.declared.Settings.{Settings}
use Rattle.ledger.specs.Worlds.{Event, Request, World, after, after_all, lent, outcomes, reply_to, start}
use Rattle.ledger.specs.declared.Ledger.{Ledger}
use Rattle.vaults.specs.declared.Vault.{Vault}

pub kept : (w : World) (r : Register) → Inv w r → (e : Event) → Inv (after w e) (feed r e.request (is_done (reply_to w e).outcome))
kept w r i e = keep w r i e.request (is_done (reply_to w e).outcome) (after w e) (changes w i.shape e)

pub along : (es : List Event) (w : World) (r : Register) → Inv w r → Inv (after_all w es) (feed_all r (log w es))
along [] w r i = i
along (e ∷ es) w r i = along es (after w e) (feed r e.request (is_done (reply_to w e).outcome)) (kept w r i e)

-- ---- what a change leaves alone
pub same_settings : (w : World) (q : Request) (done : Bool) (w' : World) → Change w q done w' → w'.ledger.settings ≡ w.ledger.settings
unfolding booking counted visited voted with_vault
same_settings w q done w' (nothing p) = refl
same_settings w q done w' (idle p m) = refl
same_settings w q done w' (appends bytes e h n) = refl
same_settings w q done w' (signs v k c h u) = refl
same_settings w q done w' (votes d v k h f b) = refl
same_settings w q done w' (holds v k signers c h e) = hold_settings w.ledger v k
same_settings w q done w' sees = refl
same_settings w q done w' (releases v k m c s h n) = refl
same_settings w q done w' (counts v k client d h) = refl
same_settings w q done w' (grants v k client h c b u) = refl

pub settings_along : (es : List Event) (w : World) (r : Register) → Inv w r → (after_all w es).ledger.settings ≡ w.ledger.settings
settings_along [] w r i = refl
settings_along (e ∷ es) w r i =
    settings_along es (after w e) (feed r e.request (is_done (reply_to w e).outcome)) (kept w r i e)
    ∙ same_settings w e.request (is_done (reply_to w e).outcome) (after w e) (changes w i.shape e)

-- ---- at first nothing is held, signed, recorded or acknowledged
pub filled : {A : Type 0} (n i : ℕ) (a : A) → get_or (replicate n a) i a ≡ a
filled zero i a = refl
filled (suc n) zero a = refl
filled (suc n) (suc i) a = filled n i a

module _ (n b faulty version : ℕ) where
  abbrev empty : Ledger
  empty = new_ledger n b faulty version

  no_jobs_lem : (f : Vault → JobSet) → f new_vault ≡ no_jobs → (v k : ℕ) → job_has (f (vault_at empty v)) k ≡ true → ⊥
  unfolding new_ledger no_jobs
  no_jobs_lem f e v k t = true≢false (sym t ∙ (ap (λ (x : Vault). job_has (f x) k) (filled 16 v new_vault) ∙ (ap (λ (s : JobSet). job_has s k) e ∙ has_no_jobs k)))

  no_votes_lem : (c : Column) → column_of c no_votes ≡ 0
  no_votes_lem Signatures = refl
  no_votes_lem Acknowledgements = refl

  none_in : (c : Column) (k : ℕ) → votes_in empty c k ≡ 0
  unfolding new_ledger votes_in
  none_in c k = ap (column_of c) (filled 128 k no_votes) ∙ no_votes_lem c

  no_vaults : (c : Column) (v k : ℕ) → has_bit (votes_in empty c k) v ≡ true → ⊥
  no_vaults c v k t = true≢false (sym t ∙ (ap (λ (s : ℕ). has_bit s v) (none_in c k) ∙ has_none v))

  none_below : (c : Column) (k : ℕ) → votes_in empty c k < 2 ^ n
  none_below c k = rw (none_in c k) (pow_pos n)

  pub settings_first : (start n b faulty version).ledger.settings ≡ record { n = n; b = b; faulty = faulty; version = version }
  unfolding start new_ledger
  settings_first = refl

  pub first : Lawful (record { n = n; b = b; faulty = faulty; version = version }) → Inv (start n b faulty version) (new_register version)
  unfolding start new_ledger held_at signed_at voted_at no_jobs records_in
  first lawful = record {
    shape = record {
      lawful = lawful;
      vaults = refl;
      votes = refl;
      order = refl;
      histories = refl;
      arrivals = omega arith;
      records = sym (place_first version);
      room = omega arith;
      next = omega (arith, lawful.few);
      votes_below = none_below;
    };
    safe = record {
      booked_held = λ v k t. absurd (no_jobs_lem (λ x. x.held) refl v k t);
      booked_recorded = λ v k t. absurd (no_vaults Signatures v k t);
      backed = λ v k t. absurd (no_jobs_lem (λ x. x.signed) refl v k t);
      apart = λ v i k t u ne. absurd (no_jobs_lem (λ x. x.signed) refl v i t);
      rooted = λ v k c t x m. absurd (no_vaults Signatures v k t);
      certified = λ v k t. absurd (no_jobs_lem (λ x. x.held) refl v k t);
      released = λ v k c t n. absurd (no_vaults Signatures v k t);
      outvoted = λ v m k c t r. absurd (no_jobs_lem (λ x. x.held) refl v m t);
      honest = λ v k c t. absurd (no_vaults Acknowledgements v k t);
    };
    version = refl;
    fit = λ x m. absurd m;
    books = books_new version;
    running = refl;
    table = refl;
    unique = tt;
    taken = refl;
    once = tt;
    taken_held = λ k m. absurd m;
    held_taken = λ v k t. absurd (no_jobs_lem (λ x. x.held) refl v k t);
  }

-- ---- what the invariant says
module _ {w : World} {r : Register} (i : Inv w r) where
  -- a quorum of acknowledgements has a correct vault in it, which holds the job
  pub finished_held : (k : ℕ) → threshold_of w.ledger.settings ≤ ones (acknowledgers_of w.ledger k) → (v : ℕ) × (held_at w.ledger v k ≡ true)
  unfolding voted_at
  finished_held k a =
      let below = i.shape.votes_below Acknowledgements k in
      let m = meeting i.shape.lawful (acknowledgers_of w.ledger k) (acknowledgers_of w.ledger k) below below a a in
      (m.vault, i.safe.honest m.vault k m.correct m.first)

  -- so the job is certified
  pub finished_certified : (k : ℕ) → threshold_of w.ledger.settings ≤ ones (acknowledgers_of w.ledger k)
      → threshold_of w.ledger.settings ≤ ones (signers_of w.ledger k)
  finished_certified k a = let h = finished_held k a in i.safe.certified h.0 k h.1

  quorum : (k : ℕ) → Held w.ledger k → threshold_of w.ledger.settings ≤ ones (signers_of w.ledger k)
  quorum k h = let q = held_by w.ledger k h in i.safe.certified q.0 k q.1

  abbrev job : ℕ → Job
  job = tabled r.table

  -- the law of frames along a list
  abbrev Balanced : (ℕ → Job) → List ℕ → Type 0
  Balanced job ks = frames_in (standing_along job ks) + trimmed_along job ks ≡ accessioned_along job ks

  -- along the register's list it is the law of what the register keeps
  balanced : Balanced job r.taken
  balanced = ap (λ (st : List Entry). frames_in st + trimmed_along job r.taken) (sym i.books.along) ∙ i.books.frames ∙ i.books.mints

  -- what is said of the register's table and list is said of the booked jobs and the arrival order
  of_order : (P : (ℕ → Job) → List ℕ → Type 0) → P job r.taken → P (booked_job w) (arrived w.ledger)
  of_order P p = subst (λ (t : List (List ℕ)). P (tabled t) (arrived w.ledger)) i.table (subst (P job) i.taken p)

  pub inv_register : SingleRegister w r
  inv_register = record {
    taken_held = i.taken_held;
    held_taken = λ k h. let q = held_by w.ledger k h in i.held_taken q.0 k q.1;
    table = i.table;
    running = i.running;
    frames_along = of_order Balanced balanced;
  }

  abbrev InTurns : (ℕ → Job) → List ℕ → Type 0
  InTurns job ks = (earlier later : List ℕ) (k : ℕ) → ks ≡ earlier ++ (k ∷ later) → InTurn job earlier k

  pub inv_besides : (s : Settings) → w.ledger.settings ≡ s → Besides s w r
  inv_besides s e = record {
    settings = e;
    taken = i.taken;
    once = i.once;
    known = i.books.known;
    records_once = i.unique;
    checked = λ x m. subst (λ (v : ℕ). examined v x ≡ Ok (tt {0})) i.version (i.fit x m);
    in_turn = of_order InTurns i.books.in_turn;
    standing = subst (λ (ks : List ℕ). r.standing ≡ standing_along (tabled r.table) ks) i.taken i.books.along;
    made = subst (λ (ks : List ℕ). r.made ≡ made_along (tabled r.table) ks) i.taken i.books.marks;
    accessioned = subst (λ (ks : List ℕ). r.accessioned ≡ accessioned_along (tabled r.table) ks) i.taken i.books.mints;
    frames = i.books.frames;
    creators = i.books.creators;
    certified = finished_certified;
  }

-- no step of a list is answered 1
pub never_ones : (es : List Event) (w : World) (r : Register) → Inv w r → (o : Outcome) → In o (outcomes w es) → number_of o ≡ 1 → ⊥
never_ones [] w r i o m = absurd m
never_ones (e ∷ es) w r i o m =
    ⊎_elim
    (λ (q : o ≡ (reply_to w e).outcome). λ (x : number_of o ≡ 1). never_one w.ledger (lent w e)
    ((reflect_sane w.ledger).complete (shape_sane i.shape)) e.request (ap number_of (sym q) ∙ x))
    (λ (n : In o (outcomes (after w e) es)). never_ones es (after w e) (feed r e.request (is_done (reply_to w e).outcome)) (kept w r i e) o n)
    m

-- ---- demand 3
pub demand3 : Demand3
demand3 n b faulty version lawful es =
    let i : Inv (start n b faulty version) (new_register version) = first n b faulty version lawful in
    let last = along es (start n b faulty version) (new_register version) i in (
      inv_register last,
      inv_besides last _ (settings_along es (start n b faulty version) (new_register version) i ∙ settings_first n b faulty version),
      never_ones es (start n b faulty version) (new_register version) i,
    )

-- ---- version 1
no_total : (f : ℕ → ℕ) (ks : List ℕ) → ((k : ℕ) → In k ks → f k ≡ 0) → total f ks ≡ 0
no_total f [] e = refl
no_total f (k ∷ ks) e = omega (arith, e k (inl refl), no_total f ks (λ m i. e m (inr i)))

-- a record that has no place for trimmed frames says none
untrimmed : {s : Settings} {w : World} {r : Register} → Besides s w r → version_of w.ledger ≡ 1 → trimmed_along (tabled r.table) r.taken ≡ 0
unfolding says_trimmed
untrimmed {s} {w} {r} h v =
    no_total (λ k. (tabled r.table k).trimmed) r.taken
    (λ k m. plain_untrimmed 1 (get_or r.table k []) refl (examined_length 1 _
    (subst (λ (v : ℕ). examined v (get_or r.table k []) ≡ Ok (tt {0})) v (h.checked _ (in_get_d r.table [] k (h.known k m))))))

pub first_version : FirstVersion
first_version n b faulty lawful es =
    let d = demand3 n b faulty 1 lawful es in
    let h = d.1 in
    let i = along es (start n b faulty 1) (new_register 1) (first n b faulty 1 lawful) in
    let none = untrimmed h (ap (λ (s : Settings). s.version) h.settings) in (
      omega (arith, d.0.frames_along, of_order i (λ (job : ℕ → Job) (ks : List ℕ). trimmed_along job ks ≡ 0) none),
      omega (arith, h.frames, none),
    )

-- two jobs that correct vaults hold were each signed by a quorum, and a correct vault signed both and released neither
pub disjoint : Disjoint
disjoint n b faulty version lawful es k m hk hm ne =
    let i = along es (start n b faulty version) (new_register version) (first n b faulty version lawful) in
    let w = after_all (start n b faulty version) es in
    let r = feed_all (new_register version) (log (start n b faulty version) es) in
    subst (λ (t : List (List ℕ)). Apart (tabled t k) (tabled t m)) i.table
    (certified_apart i.safe (tally i) k m (quorum i k hk) (quorum i m hm) ne)
