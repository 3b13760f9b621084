-- What a run keeps stays right: whatever a step decides, the journal, its index, the arrival order and the memo follow the ledger.
use mathlib.Core.Bool.{◌||◌, true}
use mathlib.Core.List.{List}
use mathlib.Core.Logic.{◌≢◌, ⊎_elim}
use mathlib.Core.Path.{◌∙◌, ◌≡◌, ap, refl, subst, sym}
use Prim.Native.Nat.{◌+◌, ◌<◌, ◌≤◌, ℕ}
use native.Mathlib.Nat.{eq-or-lt_of_le, le_of_suc-le-suc, not-suc-le-zero}
use native.Mathlib.Numerals.{add-one}
use native.Mathlib.Omega.{arith}
use lib.Dec.{eqb, leb}
use lib.ListN.{get_or, length, length-replicate, length-set, replicate, set}
use lib.Seq.{get_or-set_other, get_or-set_same}
use borrow.Author.Tests.{eqb-false, eqb-true, leb-false}
use Rattle.base.proofs.Reflect.{by_cases, or_false}
use Rattle.federation.proofs.Lawful.{reflect_lawful}
use Rattle.federation.specs.Federation.{is_lawful}
use Rattle.codec.proofs.Sizes.{place_next}
use Rattle.codec.specs.Codec.{job_of, place_of, record_size}
use Rattle.journal.proofs.Putting.{put_length, slot_before}
use Rattle.journal.specs.Journal.{capacity, job_at, put_at}
use Rattle.index.proofs.Inside.{slot_booked}
use Rattle.index.proofs.Tables.{entries_part, indexed_entered, indexed_none}
use Rattle.index.specs.Index.{Indexed}
use Rattle.index.specs.Places.{numbers_size, sets_size, slot_job}
use Rattle.index.specs.Records.{records_size}
use Rattle.snapshot.proofs.Visits.{stays_below}
use Rattle.generations.proofs.Memos.{memo_arrive, memo_book, memo_none}
use Rattle.generations.specs.Memo.{Memo, Ready}
use Rattle.ledger.specs.Given.{Writable}
use Rattle.ledger.specs.State.{applied, arriving, booking, counted, enqueued, has_arrived, new_ledger, version_of, visited, voted, with_vault}
use Rattle.ledger.specs.declared.Change.{Change}
use Rattle.ledger.specs.declared.Change.TheVariants.{Book, Count, Grant, Hold, Nothing, Record, Release, See, Sign}
use Rattle.ledger.specs.declared.Ledger.{Ledger}
use Rattle.vaults.specs.declared.Vault.{Vault}
use Rattle.runfile.specs.Run.{journal_size}
use Rattle.progress.specs.Kept.{Kept}
use Rattle.storing.specs.Stored.{Stored}

-- ---- what is kept, after a change
-- a ledger with the same settings, counts and order, and a vault to visit next
record Alike (m l : Ledger) : Type 0 where
  settings : m.settings ≡ l.settings
  booked : m.booked ≡ l.booked
  arrivals : m.arrivals ≡ l.arrivals
  order : m.order ≡ l.order
  next : m.next < l.settings.n

-- a job at the end of an order, of jobs that are all booked
module _ (order : List ℕ) (n job booked : ℕ) (below : job < booked) (arrived : (q : ℕ) → q < n → get_or order q 0 < booked) (room : n < length order) where
  arrived_at : (q : ℕ) → q < n + 1 → get_or (set order n job) q 0 < booked
  arrived_at q h =
      by_cases (λ b. get_or (set order n job) q 0 < booked) (eqb q n)
      (λ e. rw (eqb-true q n e, get_or-set_same order n job 0 room) below)
      (λ e. let other : q ≢ n = eqb-false q n e in
      let earlier : q < n = ⊎_elim (λ (x : q ≡ n). absurd (other x)) (λ (x : q < n). x) (eq-or-lt_of_le (le_of_suc-le-suc (rw add-one at h))) in
      rw (get_or-set_other order n q job 0 other) (arrived q earlier))

module _ (l : Ledger) (journal numbers sets records memo : List ℕ) (k : Kept l journal numbers sets records memo) where
  -- the booked jobs are read as before where one more record is put
  grown_jobs : (bytes : List ℕ) → length bytes ≡ record_size (version_of l) → place_of (version_of l) l.booked + record_size (version_of l) ≤ length journal
      → (j : ℕ) → j < l.booked → job_at (version_of l) journal l.booked j ≡ job_at (version_of l) (put_at (version_of l) journal l.booked bytes)
      (l.booked + 1) j
  unfolding slot_job
  grown_jobs bytes size room j b =
      let put = put_at (version_of l) journal l.booked bytes in
      sym (slot_booked (version_of l) journal l.booked j (omega arith) b)
      ∙ ap job_of (sym (slot_before (version_of l) l.booked journal bytes size room j b))
      ∙ slot_booked (version_of l) put (l.booked + 1) j
      (omega (arith, put_length (version_of l) l.booked journal bytes size room, place_next (version_of l) l.booked)) (omega arith)

  -- with a journal and an index afterwards
  module _ (journal' numbers' sets' records' : List ℕ) where
    abbrev KeptBy : Ledger → Type 0
    KeptBy m = Kept m journal' numbers' sets' records' memo

    abbrev StoredBy : Change → List ℕ → Type 0
    StoredBy change bytes = Stored change l.booked (version_of l) journal bytes journal' numbers' sets' records'

    kept_book : (bytes : List ℕ) → Writable Book l.booked (version_of l) journal bytes → StoredBy Book bytes → KeptBy (booking l)
    unfolding booking
    kept_book bytes w t =
        let few = w.few refl in
        let room = w.room refl in
        let size = w.size refl in
        record {
          sane = record { lawful = k.sane.lawful; booked = omega arith; arrivals = k.sane.arrivals; next = k.sane.next };
          order_size = k.order_size;
          arrived = λ q h. omega (arith, k.arrived q h);
          journal_sized = ap length t.written ∙ put_length (version_of l) l.booked journal bytes size room ∙ k.journal_sized;
          indexed = t.indexed;
          memo_size = k.memo_size;
          right = subst (λ (x : List ℕ). Memo (job_at (version_of l) x (l.booked + 1)) l.order l.arrivals memo) (sym t.written)
              (memo_book (job_at (version_of l) journal l.booked) (job_at (version_of l) (put_at (version_of l) journal l.booked bytes) (l.booked + 1))
              l.order l.arrivals memo
              (λ q h. grown_jobs bytes size room (get_or l.order q 0) (k.arrived q h)) k.right);
        }

    kept_same : (m : Ledger) → Alike m l → journal' ≡ journal → Indexed (version_of l) journal' l.booked numbers' sets' records' → KeptBy m
    kept_same m a e i = record {
      sane = record {
        lawful = rw a.settings k.sane.lawful;
        booked = omega (arith, k.sane.booked);
        arrivals = omega (arith, k.sane.arrivals);
        next = rw a.settings a.next;
      };
      order_size = ap length a.order ∙ k.order_size;
      arrived = λ q h. rw (a.order, a.booked) (k.arrived q (omega (arith, h)));
      journal_sized = ap length e ∙ k.journal_sized;
      indexed = rw (a.settings, a.booked) i;
      memo_size = k.memo_size;
      right = rw (a.settings, a.order, a.booked, a.arrivals, e) k.right;
    }

    -- a job arrives
    kept_arrive : (m : Ledger) (job : ℕ) → job < m.booked → KeptBy m → KeptBy (arriving m job)
    unfolding arriving enqueued
    kept_arrive m job b same =
        let has = has_arrived m.order m.arrivals job in
        let full = leb capacity m.arrivals in
        by_cases (λ x. KeptBy (arriving m job)) (has || full) (λ e. rw e same)
        (λ e. let room : m.arrivals < capacity = leb-false capacity m.arrivals (or_false has full e).1 in
        rw e (record {
          sane = record { lawful = same.sane.lawful; booked = same.sane.booked; arrivals = omega arith; next = same.sane.next };
          order_size = length-set m.order m.arrivals job ∙ same.order_size;
          arrived = arrived_at m.order m.arrivals job m.booked b same.arrived (omega (arith, same.order_size));
          journal_sized = same.journal_sized;
          indexed = same.indexed;
          memo_size = same.memo_size;
          right = memo_arrive (job_at (version_of m) journal' m.booked) m.order m.arrivals job memo same.right;
        }))

    -- whatever the change
    pub kept_applied : (change : Change) (v job : ℕ) (bytes : List ℕ) → Writable change l.booked (version_of l) journal bytes
        → ((state : Vault) → change ≡ Hold state → job < l.booked) → StoredBy change bytes → KeptBy (applied l change v job)
    unfolding applied counted visited voted with_vault
    kept_applied Nothing v job bytes w b t = kept_same l (search k.sane.next) t.written t.indexed
    kept_applied Book v job bytes w b t = kept_book bytes w t
    kept_applied (Sign state) v job bytes w b t = kept_same _ (search k.sane.next) t.written t.indexed
    kept_applied (Hold state) v job bytes w b t = kept_arrive _ job (b state refl) (kept_same _ (search k.sane.next) t.written t.indexed)
    kept_applied (Release state) v job bytes w b t = kept_same _ (search k.sane.next) t.written t.indexed
    kept_applied (Record column) v job bytes w b t = kept_same _ (search k.sane.next) t.written t.indexed
    kept_applied (Count history) v job bytes w b t = kept_same _ (search k.sane.next) t.written t.indexed
    kept_applied (Grant grant) v job bytes w b t = kept_same _ (search k.sane.next) t.written t.indexed
    kept_applied (See seen) v job bytes w b t =
        kept_same _ (search (stays_below l.settings.n l.next (omega (arith, k.sane.lawful.few)))) t.written t.indexed

  -- ---- generations
  pub ready : Ready (version_of l) journal l.booked numbers sets l.order l.arrivals memo
  ready = record {
    few = k.indexed.few;
    inside = k.indexed.inside;
    entered = indexed_entered (version_of l) journal l.booked numbers sets (entries_part (version_of l) journal l.booked numbers sets records k.indexed);
    short = k.sane.arrivals;
    placed = omega (arith, k.order_size, k.sane.arrivals);
    size = k.memo_size;
    right = k.right;
  }

  -- another memo that is right
  pub kept_memo : (memo' : List ℕ) → Memo (job_at (version_of l) journal l.booked) l.order l.arrivals memo' → length memo' ≡ capacity
      → Kept l journal numbers sets records memo'
  kept_memo memo' r z = record {
    sane = k.sane;
    order_size = k.order_size;
    arrived = k.arrived;
    journal_sized = k.journal_sized;
    indexed = k.indexed;
    memo_size = z;
    right = r;
  }

-- ---- the start
pub kept_new : (n b faulty version : ℕ) → is_lawful (record { n = n; b = b; faulty = faulty; version = version }) ≡ true
    → Kept (new_ledger n b faulty version) (replicate journal_size 0) (replicate numbers_size 0) (replicate sets_size 0) (replicate records_size 0)
    (replicate capacity 0)
unfolding new_ledger
kept_new n b faulty version e = let lawful = (reflect_lawful (record { n = n; b = b; faulty = faulty; version = version })).sound e in record {
  sane = record { lawful = lawful; booked = omega arith; arrivals = omega arith; next = omega (arith, lawful.few) };
  order_size = refl;
  arrived = λ q h. absurd (not-suc-le-zero h);
  journal_sized = length-replicate {A = ℕ} journal_size 0;
  indexed = indexed_none _ _ _ _ _ (record { no_numbers = refl; no_sets = refl; no_records = refl });
  memo_size = refl;
  right = memo_none _ _ _ capacity;
}
