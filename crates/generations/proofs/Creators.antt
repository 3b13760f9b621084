-- The set that the index has at an input of a booked job is that of the jobs that make its tape, so the first position in it is
-- the creator's. A job that is not booked has no inputs and makes no tape.
use mathlib.Core.Bool.{◌&&◌, false}
use mathlib.Core.List.{List, []}
use mathlib.Core.Logic.{⊎_elim}
use mathlib.Core.Path.{◌∙◌, ◌≡◌, ap, refl, sym}
use Prim.Native.Nat.{◌*◌, ◌+◌, ◌-◌, ◌<◌, ◌≤◌, ℕ}
use native.Mathlib.Omega.{arith}
use lib.Dec.{ltb}
use lib.ListN.{get_or, length}
use borrow.Author.Tests.{le-ltb, lt-ltb}
use Rattle.base.proofs.Reflect.{and_false}
use Rattle.base.proofs.Search.{first_least, first_same, none_any}
use Rattle.base.specs.Search.{first_below}
use Rattle.job_sets.proofs.Jobs.{job_beyond}
use Rattle.job_sets.specs.Jobs.{job_has}
use Rattle.job_sets.specs.declared.job_set.JobSet.{JobSet}
use Rattle.codec.specs.Codec.{job_of, place_of}
use Rattle.conflicts.specs.Conflicts.{is_label_at, is_tape_at, makes_tape}
use Rattle.record.specs.Entries.{is_used}
use Rattle.record.specs.declared.Job.{Job}
use Rattle.journal.specs.Journal.{is_booked, job_at, record_at}
use Rattle.index.proofs.Books.{entered_booked}
use Rattle.index.proofs.Numbers.{tables, tape_has}
use Rattle.index.specs.Sets.{Tables, set_of}
use Rattle.index.specs.Places.{Entered, places, slot_job}
use Rattle.generations.proofs.Ages.{lt_or_le, none_from}
use Rattle.generations.specs.Generations.{along, created_at, creator_of, generation_at}
use Rattle.generations.specs.Memo.{FirstAt, Input, inputs_of, is_maker}

-- ---- a job that is not booked
module _ (version : ℕ) (journal : List ℕ) (booked k : ℕ) (past : booked ≤ k) where
  empty : job_at version journal booked k ≡ job_of []
  unfolding job_at record_at is_booked
  empty = rw (le-ltb k booked past, and_false) refl

  pub past_unused : (i : ℕ) → i < 4 → is_used (job_at version journal booked k) i ≡ false
  unfolding is_used job_of
  past_unused i l = rw empty (simp (lt-ltb i 4 l) (le-ltb i 0 (omega arith)))

  past_makes : (label frames : ℕ) → makes_tape (job_at version journal booked k) label frames ≡ false
  unfolding makes_tape is_tape_at is_label_at is_used job_of
  past_makes label frames =
      rw empty (none_any _ 4 (λ i l. simp (le-ltb (4 + i) 4 (omega arith), le-ltb (4 + i - 4) 0 (omega arith))))

-- so its generations are 0
pub past_none : (version : ℕ) (journal : List ℕ) (booked : ℕ) (order : List ℕ) (p k : ℕ) → k ≡ get_or order p 0 → booked ≤ k
    → 0 ≡ generation_at (job_at version journal booked) (along order) p
past_none version journal booked order p k e past =
    sym (none_from (job_at version journal booked) (along order) p (past_unused version journal booked (get_or order p 0) (rw e at past)))

-- ---- a booked job
pub inputs_le : (j : Job) → inputs_of j ≤ 4
unfolding inputs_of
inputs_le j = omega arith

module _ (version : ℕ) (journal : List ℕ) (booked : ℕ) (numbers sets order : List ℕ) (few : booked ≤ 128) (inside : place_of version booked ≤ length journal)
    (entered : Entered (slot_job version journal) (8 * booked) numbers sets) where
  here : Entered (job_at version journal booked) (8 * booked) numbers sets
  here = entered_booked version journal booked inside numbers sets entered

  pub tables_here : Tables numbers sets
  tables_here = tables (job_at version journal booked) booked numbers sets here few

  -- a set of the booked jobs that make the tape has each job that makes it
  has_maker : (set : JobSet) (label frames j : ℕ) → (j < 128 → job_has set j ≡ (ltb j booked && makes_tape (job_at version journal booked j) label frames))
      → job_has set j ≡ makes_tape (job_at version journal booked j) label frames
  has_maker set label frames j has =
      ⊎_elim
      (λ l. has (omega arith) ∙ simp (lt-ltb j booked l))
      (λ past.
      let none : job_has set j ≡ false = ⊎_elim (λ l. has l ∙ simp (le-ltb j booked past)) (job_beyond set j) (lt_or_le j 128) in
      none ∙ sym (past_makes version journal booked j past label frames))
      (lt_or_le j booked)

  -- the first position in the set at an input is the creator's
  pub creator_is : (makers : JobSet) (p k i q : ℕ) → Input version journal booked order p k i → makers ≡ set_of numbers sets (places + 8 * k + i) 2
      → q ≡ first_below p (is_maker order makers) → q ≡ creator_of (job_at version journal booked) (along order) p i
  unfolding creator_of created_at is_maker
  creator_is makers p k i q t m e =
      let four = t.four in
      let has = tape_has (job_at version journal booked) booked numbers sets here few k i t.below (omega arith) t.used in
      e ∙ first_same _ _ p (λ r l. rw (m, t.at) (has_maker _ _ _ (get_or order r 0) (has (get_or order r 0))))

-- an earlier position of the same job would be in the set too
pub creator_first : (order : List ℕ) (makers : JobSet) (n p q : ℕ) → q ≡ first_below p (is_maker order makers) → q < p → p ≤ n
    → FirstAt order n (get_or order q 0) q
unfolding is_maker
creator_first order makers n p q e l h =
    let s = rw (sym e) at (first_least (is_maker order makers) p (rw e at l)) in
    record { below = omega arith; has = refl; none_before = λ r m same. s.none_before r m (ap (job_has makers) same ∙ s.has) }
