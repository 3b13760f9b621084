-- The tables of the first places and records are those of one place or record more after each store, so they have their chains, numbers and bits;
-- and they depend on these jobs alone.
use mathlib.Core.Bool.{Bool, cond, false, true}
use mathlib.Core.List.{List}
use mathlib.Core.Path.{◌∙◌, ◌≡◌, ap, refl, sym}
use Prim.Native.Nat.{◌%◌, ◌*◌, ◌+◌, ◌/◌, ◌<◌, ◌≤◌, suc, zero, ℕ}
use native.Mathlib.Nat.{le_refl, mod-lt}
use native.Mathlib.Numerals.{add-one}
use native.Mathlib.Omega.{arith}
use lib.ListN.{length}
use Rattle.base.proofs.Reflect.{by_cases}
use Rattle.base.proofs.Search.{first_le}
use Rattle.codec.proofs.Sizes.{place_first, place_next}
use Rattle.codec.specs.Codec.{job_of, place_of, record_size}
use Rattle.record.specs.Entries.{frames_of, is_used, label_of}
use Rattle.record.specs.declared.Job.{Job}
use Rattle.journal.proofs.Putting.{put_length, slot_before}
use Rattle.journal.specs.Journal.{capacity, job_at, put_at}
use Rattle.index.proofs.Begins.{entered_new, label_alike, number_alike, used_alike}
use Rattle.index.proofs.Books.{entered_booked}
use Rattle.index.proofs.Enters.{marked_next, marked_same, numbered_next, numbered_same, place_frames, place_label, place_used}
use Rattle.index.proofs.Files.{filed_new, filed_next}
use Rattle.index.specs.Entering.{Entries, numbers_of, numbers_with, sets_of, sets_with}
use Rattle.index.specs.Index.{Blank, HasRecord, Indexed, IndexedEntries, IndexedRecords}
use Rattle.index.specs.Places.{Entered, Numbered, Sought, UsedEntry, bucket_of, buckets, frames_at, is_match}
use Rattle.index.specs.Places.{label_at, number_at, numbers_size, places, sets_size, slot_job, used_at}
use Rattle.index.specs.Records.{Filed, records_of, records_size, records_with, sum_of}
use Rattle.index.specs.Sets.{Tables}

-- ---- what the tables of any jobs have
module _ (job : ℕ → Job) where
  number_low : (exact : Bool) (m : ℕ) → number_at job exact m ≤ m
  unfolding number_at
  number_low exact m = first_le (is_match job exact (label_at job m) (frames_at job m)) m

  bucket_low : (label : ℕ) → bucket_of label < buckets
  unfolding bucket_of
  bucket_low label = mod-lt label (omega arith)

  pub tables_entered : (m : ℕ) → m ≤ places → Entered job m (numbers_of job m) (sets_of job m)
  unfolding numbers_of sets_of
  tables_entered zero h = entered_new job
  tables_entered (suc m) h =
      let label = number_at job false m in
      let tape = number_at job true m in
      let b = bucket_of (label_at job m) in
      let numbers = numbers_of job m in
      let sets = sets_of job m in
      let t = tables_entered m (omega arith) in
      by_cases
      (λ u. Entered job (suc m) (cond u (numbers_with numbers m label tape b) numbers) (cond u (sets_with sets label tape (m / 8) (m % 8)) sets)) (used_at job m)
      (λ u. record {
        numbered =
            numbered_next job m numbers t.numbered h u label tape b
            (number_low false m) (number_low true m) (bucket_low (label_at job m)) refl refl refl;
        marked = marked_next job m sets t.marked h u label tape (m / 8) (m % 8) refl refl refl refl (number_low false m) (number_low true m);
      })
      (λ u. record { numbered = numbered_same job m u numbers t.numbered; marked = marked_same job m u sets t.marked })

  pub tables_filed : (n : ℕ) → n ≤ capacity → Filed job n (records_of job n)
  unfolding records_of
  tables_filed zero h = filed_new job
  tables_filed (suc n) h = filed_next job n (records_of job n) (tables_filed n (omega arith)) h (job n) refl

  -- ---- one place more
  module _ (m : ℕ) (numbers sets : List ℕ) (t : Entries job m numbers sets) where
    pub entries_entered : m ≤ places → Entered job m numbers sets
    entries_entered h = rw (t.numbers_are, t.sets_are) (tables_entered m h)

    pub entries_numbered : m ≤ places → Numbered job m numbers
    entries_numbered h = (entries_entered h).numbered

    pub numbers_sized : m ≤ places → length numbers ≡ numbers_size
    numbers_sized h = (entries_entered h).numbered.size

    pub sets_sized : m ≤ places → length sets ≡ sets_size
    sets_sized h = (entries_entered h).marked.size

    -- what was found are the numbers of the place
    pub entries_next : (label frames name tape b : ℕ) (after joined : List ℕ) → UsedEntry job m label frames → Sought job label frames m name tape
        → (b ≡ bucket_of label) × (b < buckets) → after ≡ numbers_with numbers m name tape b → joined ≡ sets_with sets name tape (m / 8) (m % 8)
        → Entries job (m + 1) after joined
    unfolding numbers_of sets_of number_at
    entries_next label frames name tape b after joined u own eb ea ej =
        let x : name ≡ number_at job false m = own.name_first ∙ rw (u.label_is, u.frames_are) in
        let y : tape ≡ number_at job true m = own.tape_first ∙ rw (u.label_is, u.frames_are) in
        let z : b ≡ bucket_of (label_at job m) = eb.0 ∙ ap bucket_of u.label_is in
        rw (add-one m) (record {
          numbers_are = ea ∙ simp (u.used, t.numbers_are, x, y, z);
          sets_are = ej ∙ simp (u.used, t.sets_are, x, y);
        })

    entries_same : used_at job m ≡ false → Entries job (m + 1) numbers sets
    unfolding numbers_of sets_of
    entries_same u = rw (add-one m) (record { numbers_are = t.numbers_are ∙ simp u; sets_are = t.sets_are ∙ simp u })

-- ---- an entry of job n, which is a, at its place; r says whether it is used
module _ (job : ℕ → Job) (n e : ℕ) (a : Job) (r : Bool) (le : e < 8) (ea : a ≡ job n) (er : r ≡ is_used a e) where
  pub used_entry : (label frames : ℕ) → r ≡ true → label ≡ label_of a e → frames ≡ frames_of a e → UsedEntry job (8 * n + e) label frames
  used_entry label frames u el ef = record {
    used = place_used job n e le a ea ∙ sym er ∙ u;
    label_is = el ∙ sym (place_label job n e le a ea);
    frames_are = ef ∙ sym (place_frames job n e le a ea);
  }

  pub unused_entry : (numbers sets : List ℕ) → r ≡ false → Entries job (8 * n + e) numbers sets → Entries job (8 * n + e + 1) numbers sets
  unused_entry numbers sets u t = entries_same job (8 * n + e) numbers sets t (place_used job n e le a ea ∙ sym er ∙ u)

-- ---- the eight entries of job n, one after the other
module _ (job : ℕ → Job) (n : ℕ) (numbers sets : List ℕ) where
  pub entries_begin : Entries job (8 * n) numbers sets → Entries job (8 * n + 0) numbers sets
  entries_begin t = let z : 8 * n + 0 ≡ 8 * n = omega arith in rw z t

  pub entries_on : (e : ℕ) → Entries job (8 * n + e + 1) numbers sets → Entries job (8 * n + (e + 1)) numbers sets
  entries_on e t = let z : 8 * n + (e + 1) ≡ 8 * n + e + 1 = omega arith in rw z t

  pub entries_all : (e : ℕ) → e ≤ 8 → 8 ≤ e → Entries job (8 * n + e) numbers sets → Entries job (8 * (n + 1)) numbers sets
  entries_all e l h t = let z : 8 * (n + 1) ≡ 8 * n + e = omega arith in rw z t

-- ---- other jobs that are the same below n
module _ (job job' : ℕ → Job) (n : ℕ) (alike : (k : ℕ) → k < n → job k ≡ job' k) where
  pub numbers_alike : (m : ℕ) → m ≤ 8 * n → numbers_of job m ≡ numbers_of job' m
  unfolding numbers_of
  numbers_alike zero h = refl
  numbers_alike (suc m) h =
      let tape = number_alike job job' n alike true m h in
      rw (numbers_alike m (omega arith), used_alike job job' n alike m h, number_alike job job' n alike false m h, tape, label_alike job job' n alike m h)

  pub sets_alike : (m : ℕ) → m ≤ 8 * n → sets_of job m ≡ sets_of job' m
  unfolding sets_of
  sets_alike zero h = refl
  sets_alike (suc m) h =
      rw (sets_alike m (omega arith), used_alike job job' n alike m h, number_alike job job' n alike false m h, number_alike job job' n alike true m h)

  pub records_alike : (m : ℕ) → m ≤ n → records_of job m ≡ records_of job' m
  unfolding records_of
  records_alike zero h = refl
  records_alike (suc m) h = rw (records_alike m (omega arith), alike m h)

-- ---- a journal's index

-- what a reader of the index has
module _ (version : ℕ) (journal : List ℕ) (n : ℕ) (numbers sets : List ℕ) (t : IndexedEntries version journal n numbers sets) where
  pub indexed_entered : Entered (slot_job version journal) (8 * n) numbers sets
  indexed_entered = rw (t.numbers_are, t.sets_are) (tables_entered (slot_job version journal) (8 * n) (omega (arith, t.few)))

  pub indexed_tables : Tables numbers sets
  indexed_tables = let e = indexed_entered in record { numbers_sized = e.numbered.size; sets_sized = e.marked.size; small = e.numbered.small }

  -- and of the jobs that the journal books
  pub indexed_booked : Entered (job_at version journal n) (8 * n) numbers sets
  indexed_booked = entered_booked version journal n t.inside numbers sets indexed_entered

pub indexed_filed : (version : ℕ) (journal : List ℕ) (n : ℕ) (records : List ℕ) → IndexedRecords version journal n records → Filed
    (slot_job version journal) n records
indexed_filed version journal n records t = rw t.records_are (tables_filed (slot_job version journal) n t.few)

-- none, and one more
pub indexed_none : (version : ℕ) (journal numbers sets records : List ℕ) → Blank numbers sets records → Indexed version journal 0 numbers sets records
unfolding numbers_of sets_of records_of
indexed_none version journal numbers sets records t = record {
  few = omega arith;
  inside = omega (arith, place_first version);
  numbers_are = t.no_numbers;
  sets_are = t.no_sets;
  records_are = t.no_records;
}

module _ (version : ℕ) (journal : List ℕ) (n : ℕ) (numbers sets records : List ℕ) (t : Indexed version journal n numbers sets records) where
  -- its parts
  pub entries_part : IndexedEntries version journal n numbers sets
  entries_part = record { few = t.few; inside = t.inside; numbers_are = t.numbers_are; sets_are = t.sets_are }

  pub records_part : IndexedRecords version journal n records
  records_part = record { few = t.few; inside = t.inside; records_are = t.records_are }

  pub indexed_size : (length numbers ≡ numbers_size) × (length sets ≡ sets_size) × (length records ≡ records_size)
  indexed_size =
      let e = indexed_entered version journal n numbers sets entries_part in
      (e.numbered.size, e.marked.size, (indexed_filed version journal n records records_part).size)

module _ (version : ℕ) (journal : List ℕ) (n : ℕ) (numbers sets records : List ℕ) (t : Indexed version journal n numbers sets records) where
  -- the tables are as long as those of no record
  pub indexed_lengths : (numbers₀ sets₀ records₀ : List ℕ) → Blank numbers₀ sets₀ records₀
      → (length numbers ≡ length numbers₀) × (length sets ≡ length sets₀) × (length records ≡ length records₀)
  indexed_lengths numbers₀ sets₀ records₀ z =
      let s = indexed_size version journal n numbers sets records t in
      let r = indexed_size version journal 0 numbers₀ sets₀ records₀ (indexed_none version journal numbers₀ sets₀ records₀ z) in
      (s.0 ∙ sym r.0, s.1 ∙ sym r.1, s.2 ∙ sym r.2)

  pub indexed_all : (m : ℕ) → n ≤ m → m ≤ n → Indexed version journal m numbers sets records
  indexed_all m l h = let e : m ≡ n = omega arith in rw e t

  pub indexed_next : (a : Job) (numbers' sets' records' : List ℕ) → HasRecord version journal n → a ≡ slot_job version journal n
      → Entries (slot_job version journal) (8 * (n + 1)) numbers' sets' → records' ≡ records_with records (sum_of a) n → Indexed version journal
      (n + 1) numbers' sets' records'
  unfolding records_of
  indexed_next a numbers' sets' records' h ea e r = record {
    few = omega (arith, h.few);
    inside = omega (arith, h.inside, place_next version n);
    numbers_are = e.numbers_are;
    sets_are = e.sets_are;
    records_are = r ∙ rw (add-one n, ea, t.records_are);
  }

  -- a record put in place n leaves the index of those before
  pub indexed_put : (bytes : List ℕ) → length bytes ≡ record_size version → place_of version n + record_size version ≤ length journal
      → Indexed version (put_at version journal n bytes) n numbers sets records
  unfolding slot_job
  indexed_put bytes size room =
      let same : (k : ℕ) → k < n → slot_job version journal k ≡ slot_job version (put_at version journal n bytes) k = λ k l. ap job_of
      (sym (slot_before version n journal bytes size room k l)) in
      record {
        few = t.few;
        inside = omega (arith, t.inside, put_length version n journal bytes size room);
        numbers_are = t.numbers_are ∙ numbers_alike (slot_job version journal) (slot_job version (put_at version journal n bytes)) n same (8 * n)
            (le_refl (8 * n));
        sets_are = t.sets_are ∙ sets_alike (slot_job version journal) (slot_job version (put_at version journal n bytes)) n same (8 * n) (le_refl (8 * n));
        records_are = t.records_are ∙ records_alike (slot_job version journal) (slot_job version (put_at version journal n bytes)) n same n (le_refl n);
      }
