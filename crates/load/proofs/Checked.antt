-- Every record of a load passes checks 6 to 9, whatever its first draw.
use mathlib.Core.Bool.{cond, true, true≢false}
use mathlib.Core.List.{[], ◌∷◌}
use mathlib.Core.Logic.{inr}
use mathlib.Core.Path.{◌∙◌, ◌≡◌, refl, sym}
use Prim.Native.Nat.{◌%◌, ◌*◌, ◌+◌, ◌-◌, ◌/◌, ◌<◌, ◌^◌, ◌≤◌, suc, zero, ℕ}
use native.Mathlib.Omega.{arith}
use lib.Dec.{eqb, lit<}
use borrow.Author.Tests.{eq-eqb, le-leb}
use Rattle.base.proofs.Reflect.{by_cases}
use Rattle.base.proofs.Search.{all_at}
use Rattle.base.specs.Search.{all_below, any_below, first_below, sum_from}
use Rattle.checks.specs.Checks.{
  balanced,
  check_of,
  counts_formed,
  entry_formed,
  trimmed_formed,
  examined,
  has_label_of,
  inputs_formed,
  is_blank,
  is_filled,
  is_written,
  repeated_at,
  unsupported_at,
  well_formed,
}
use Rattle.codec.proofs.Jobs.{length_bytes_of}
use Rattle.codec.proofs.RoundTrip.{job_record_job, said_same}
use Rattle.codec.specs.Codec.{EntriesFit, JobFits, bytes_of, job_of, le_at, record_size, says_trimmed}
use Rattle.outcome.specs.Figures.{Verdict}
use Rattle.std.specs.Prelude.{Ok, Err}
use Rattle.drives.specs.Drives.{is_drive, supports}
use Rattle.record.specs.Entries.{frames_of, is_used, label_of, no_entry, used_frames}
use Rattle.record.specs.Labels.{char_at, is_alphanumeric, is_between, is_label, medium_of}
use Rattle.record.specs.declared.Entry.{Entry}
use Rattle.load.proofs.Writes.{eight, untrimmed}
use Rattle.load.specs.Records.{A, B, accession, job_for, label_for, lower_frames, main_job, migration, rival_job, side_job, tape, upper_frames}
use Rattle.load.specs.Visits.{is_pass}

abbrev Fits : Entry → Type 0
Fits e = (e.label < 2 ^ 64) × (e.frames < 2 ^ 32)

-- ---- each kind of job, by computation; frames are known to be at least 1, and what is read to be what is written
check_main : (f g r : ℕ) → r < 4 → 1 ≤ f → 1 ≤ g → check_of (main_job f g r) ≡ Ok (tt {0})
unfolding main_job label_for le_at check_of well_formed is_drive counts_formed inputs_formed trimmed_formed entry_formed is_filled is_blank is_used is_label medium_of char_at
    is_alphanumeric is_between frames_of label_of used_frames repeated_at has_label_of unsupported_at is_written supports balanced all_below any_below first_below sum_from
check_main f g zero h p q = simp (le-leb 1 f p, le-leb 1 g q)
check_main f g (suc zero) h p q = simp (le-leb 1 f p, le-leb 1 g q, eq-eqb (f + (g + 0)) (f + (g + 0) + 0) (omega arith))
check_main f g (suc (suc zero)) h p q = simp (le-leb 1 f p, le-leb 1 g q, eq-eqb (f + (g + 0)) (f + (g + 0) + 0) (omega arith))
check_main f g (suc (suc (suc zero))) h p q = simp (le-leb 1 f p, le-leb 1 g q, eq-eqb (f + (g + 0)) (f + (g + 0) + 0) (omega arith))
check_main f g (suc (suc (suc (suc r)))) h p q = absurd (omega arith)

check_rival : (f r : ℕ) → r < 4 → 1 ≤ f → check_of (rival_job f r) ≡ Ok (tt {0})
unfolding rival_job label_for le_at check_of well_formed is_drive counts_formed inputs_formed trimmed_formed entry_formed is_filled is_blank is_used is_label medium_of char_at
    is_alphanumeric is_between frames_of label_of used_frames repeated_at has_label_of unsupported_at is_written supports balanced all_below any_below first_below sum_from
check_rival f zero h p = simp (le-leb 1 f p)
check_rival f (suc zero) h p = simp (le-leb 1 f p, eq-eqb (f + 0) (f + 0 + 0) (omega arith))
check_rival f (suc (suc zero)) h p = simp (le-leb 1 f p, eq-eqb (f + 0) (f + 0 + 0) (omega arith))
check_rival f (suc (suc (suc zero))) h p = simp (le-leb 1 f p, eq-eqb (f + 0) (f + 0 + 0) (omega arith))
check_rival f (suc (suc (suc (suc r)))) h p = absurd (omega arith)

pass_is : (v : Verdict) → is_pass v ≡ true → v ≡ Ok (tt {0})
pass_is (Ok _) e = refl
pass_is (Err why) e = absurd (true≢false (sym e))

side_checked : all_below 40 (λ j. is_pass (check_of (side_job j))) ≡ true
unfolding side_job label_for le_at check_of well_formed is_drive counts_formed inputs_formed trimmed_formed entry_formed is_filled is_blank is_used is_label medium_of char_at
    is_alphanumeric is_between frames_of label_of used_frames repeated_at has_label_of unsupported_at is_written supports balanced all_below any_below first_below sum_from
side_checked = refl

check_side : (j : ℕ) → j < 40 → check_of (side_job j) ≡ Ok (tt {0})
check_side j h = pass_is (check_of (side_job j)) (all_at (λ i. is_pass (check_of (side_job i))) 40 side_checked j h)

check_job : (first j : ℕ) → j < 40 → check_of (job_for first j) ≡ Ok (tt {0})
unfolding job_for
check_job first j h =
    by_cases (λ b. check_of (cond b (main_job (lower_frames first) (upper_frames first) (j / 10)) (cond (eqb (j % 10) 1) (rival_job (lower_frames first)
    (j / 10)) (side_job j))) ≡ Ok (tt {0})) (eqb (j % 10) 0)
    (λ e. check_main (lower_frames first) (upper_frames first) (j / 10) (omega arith) (omega arith) (omega arith))
    (λ e. by_cases (λ b. check_of (cond b (rival_job (lower_frames first) (j / 10)) (side_job j)) ≡ Ok (tt {0})) (eqb (j % 10) 1)
    (λ f. check_rival (lower_frames first) (j / 10) (omega arith) (omega arith))
    (λ f. check_side j h))

-- ---- its record says the job
fits_tape : (letter j medium frames : ℕ) → letter < 256 → j < 100 → medium < 100 → frames < 2 ^ 32 → Fits (tape letter j medium frames)
unfolding label_for le_at
fits_tape letter j medium frames a b c d = (omega arith, d)

fits_none : Fits no_entry
fits_none = (lit< tt, lit< tt)

fits_eight : {a b c d e f g h : Entry} → Fits a → Fits b → Fits c → Fits d → Fits e → Fits f → Fits g → Fits h → EntriesFit (a ∷ b ∷ c ∷ d ∷ e ∷ f ∷ g ∷ h ∷ [])
unfolding EntriesFit
fits_eight a b c d e f g h =
    (a.0, a.1, (b.0, b.1, (c.0, c.1, (d.0, d.1, (e.0, e.1, (f.0, f.1, (g.0, g.1, (h.0, h.1, tt))))))))

fits_accession : (drive outputs : ℕ) (a b : Entry) → Fits a → Fits b → EntriesFit (accession drive outputs a b).entries
fits_accession drive outputs a b p q = fits_eight fits_none fits_none fits_none fits_none p q fits_none fits_none

fits_migration : (drive count : ℕ) (a b c d : Entry) → Fits a → Fits b → Fits c → Fits d → EntriesFit (migration drive count a b c d).entries
fits_migration drive count a b c d p q r s = fits_eight p q fits_none fits_none r s fits_none fits_none

fits_main : (f g r : ℕ) → r < 4 → f < 2 ^ 32 → g < 2 ^ 32 → EntriesFit (main_job f g r).entries
unfolding main_job
fits_main f g r h p q =
    by_cases (λ b. EntriesFit (cond b (accession 5 2 (tape A 0 5 f) (tape B 0 5 g))
    (migration (5 + r) 2 (tape A (10 * r - 10) (4 + r) f) (tape B (10 * r - 10) (4 + r) g) (tape A (10 * r) (5 + r) f) (tape B (10 * r)
    (5 + r) g))).entries) (eqb r 0)
    (λ e. fits_accession 5 2 _ _ (fits_tape _ _ _ _ (lit< tt) (lit< tt) (lit< tt) p) (fits_tape _ _ _ _ (lit< tt) (lit< tt) (lit< tt) q))
    (λ e. fits_migration (5 + r) 2 _ _ _ _
    (fits_tape _ _ _ _ (lit< tt) (omega arith) (omega arith) p)
    (fits_tape _ _ _ _ (lit< tt) (omega arith) (omega arith) q)
    (fits_tape _ _ _ _ (lit< tt) (omega arith) (omega arith) p)
    (fits_tape _ _ _ _ (lit< tt) (omega arith) (omega arith) q))

fits_rival : (f r : ℕ) → r < 4 → f < 2 ^ 32 → EntriesFit (rival_job f r).entries
unfolding rival_job
fits_rival f r h p =
    by_cases (λ b. EntriesFit (cond b (accession 5 2 (tape A 1 5 f) (tape A 0 5 f))
    (migration (5 + r) 1 (tape A (10 * r - 10) (4 + r) f) no_entry (tape A (10 * r + 1) (5 + r) f) no_entry)).entries) (eqb r 0)
    (λ e. fits_accession 5 2 _ _ (fits_tape _ _ _ _ (lit< tt) (lit< tt) (lit< tt) p) (fits_tape _ _ _ _ (lit< tt) (lit< tt) (lit< tt) p))
    (λ e. fits_migration (5 + r) 1 _ _ _ _ (fits_tape _ _ _ _ (lit< tt) (omega arith) (omega arith) p) fits_none
    (fits_tape _ _ _ _ (lit< tt) (omega arith) (omega arith) p) fits_none)

fits_side : (j : ℕ) → j < 40 → EntriesFit (side_job j).entries
unfolding side_job
fits_side j h = fits_accession (5 + j % 5) 1 _ _ (fits_tape _ _ _ _ (lit< tt) (omega arith) (omega arith) (omega arith)) fits_none

pub fits_job : (first j : ℕ) → first < 2 ^ 32 → j < 40 → JobFits (job_for first j)
unfolding job_for
fits_job first j b h = record {
  eight = eight first j;
  fit =
      by_cases (λ b. EntriesFit (cond b (main_job (lower_frames first) (upper_frames first) (j / 10)) (cond (eqb (j % 10) 1) (rival_job (lower_frames first)
      (j / 10)) (side_job j))).entries) (eqb (j % 10) 0)
      (λ e. fits_main (lower_frames first) (upper_frames first) (j / 10) (omega arith) (omega arith) (omega arith))
      (λ e. by_cases (λ b. EntriesFit (cond b (rival_job (lower_frames first) (j / 10)) (side_job j)).entries) (eqb (j % 10) 1)
      (λ f. fits_rival (lower_frames first) (j / 10) (omega arith) (omega arith))
      (λ f. fits_side j h));
  trimmed = rw (untrimmed first j) (lit< tt);
}

pub record_reads : (first j : ℕ) → first < 2 ^ 32 → j < 40 → job_of (bytes_of 1 (job_for first j)) ≡ job_for first j
record_reads first j b h = job_record_job 1 (job_for first j) (fits_job first j b h) ∙ said_same 1 (job_for first j) (inr (untrimmed first j))

-- "Every record written passes checks 6 to 9"
pub record_passes : (first j : ℕ) → first < 2 ^ 32 → j < 40 → examined 1 (bytes_of 1 (job_for first j)) ≡ Ok (tt {0})
unfolding examined record_size says_trimmed
record_passes first j b h = simp (length_bytes_of 1 (job_for first j) (eight first j), record_reads first j b h, check_job first j h)
