-- The missing jobs by the index are those of the definition: the set at an input's number has the makers of its tape, and it meets the held jobs exactly where
-- check 11 passes.
use mathlib.Core.Bool.{Bool, ◌&&◌, cond, false, not, true}
use mathlib.Core.List.{List}
use mathlib.Core.Path.{◌∙◌, ◌≡◌, ap, ap₂, refl, sym}
use Prim.Native.Nat.{◌*◌, ◌+◌, ◌<◌, ◌≤◌, suc, zero, ℕ}
use native.Mathlib.Omega.{arith}
use lib.Dec.{ltb}
use borrow.Author.Tests.{lt-ltb}
use Rattle.base.proofs.Reflect.{and_false, by_cases}
use Rattle.base.specs.Search.{any_below}
use Rattle.codec.specs.Codec.{job_of}
use Rattle.conflicts.specs.Conflicts.{makes_tape}
use Rattle.record.specs.Entries.{frames_of, is_used, label_of}
use Rattle.record.specs.declared.Job.{Job}
use Rattle.job_sets.proofs.Jobs.{common_words, has_jobs_below, has_no_jobs, job_union_has, jobs_below_words, jobs_common_has, jobs_same, no_jobs_words}
use Rattle.job_sets.proofs.Jobs.{union_words}
use Rattle.job_sets.specs.Jobs.{InWords, job_has, job_union, jobs_common, jobs_meet, no_jobs}
use Rattle.job_sets.specs.declared.job_set.JobSet.{JobSet}
use Rattle.journal.specs.Journal.{capacity, job_at, record_at}
use Rattle.queries.proofs.Admits.{spread, used_input}
use Rattle.index.proofs.Numbers.{tape_has}
use Rattle.queries.proofs.Meets.{makers_meet}
use Rattle.index.proofs.Tables.{indexed_booked}
use Rattle.queries.specs.Admission.{made_by, not_created_at}
use Rattle.index.specs.Sets.{set_of}
use Rattle.supplies.specs.Suppliers.{missing_by, suppliers_by}
use Rattle.index.specs.Index.{IndexedEntries}
use Rattle.supplies.specs.Missing.{is_missing, missing_jobs, supplies_at}
use Rattle.index.specs.Places.{Entered, places}

turn : (a b c : Bool) → ((a && b) && c) ≡ (a && (c && b))
turn true true true = refl
turn true true false = refl
turn true false true = refl
turn true false false = refl
turn false b c = refl

module _ (job : ℕ → Job) (n : ℕ) (numbers sets : List ℕ) (t : Entered job (8 * n) numbers sets) (few : n ≤ capacity) (k : ℕ) (lk : k < n)
    (held elsewhere : JobSet) (hw : InWords held) (ew : InWords elsewhere) where
  abbrev suppliers : ℕ → JobSet
  suppliers = suppliers_by numbers sets (job k).inputs (places + 8 * k) held elsewhere

  abbrev makers : ℕ → JobSet
  makers e = set_of numbers sets (places + 8 * k + e) 2

  module _ (m e : ℕ) (lm : m < capacity) (le : e < 4) where
    abbrev makes : Bool
    makes = makes_tape (job m) (label_of (job k) e) (frames_of (job k) e)

    abbrev made : Bool
    made = made_by job n held (label_of (job k) e) (frames_of (job k) e)

    by_made : is_used (job k) e ≡ true → (b : Bool) → made ≡ b
        → job_has (cond b no_jobs (jobs_common (makers e) elsewhere)) m ≡ (ltb m n && (job_has elsewhere m && (not b && makes)))
    by_made u true q = has_no_jobs m ∙ sym (ap (λ (x : Bool). ltb m n && x) (and_false (job_has elsewhere m)) ∙ and_false (ltb m n))
    by_made u false q =
        jobs_common_has (makers e) elsewhere m
        ∙ (ap (λ (x : Bool). x && job_has elsewhere m) (tape_has job n numbers sets t few k e lk (omega arith) u m lm)
        ∙ turn (ltb m n) makes (job_has elsewhere m))

    by_used : (b : Bool) → ltb e (job k).inputs ≡ b
        → job_has (cond b (cond (jobs_meet (makers e) held) no_jobs (jobs_common (makers e) elsewhere)) no_jobs) m
        ≡ (ltb m n && (job_has elsewhere m && ((b && not made) && makes)))
    by_used false q = has_no_jobs m ∙ sym (ap (λ (x : Bool). ltb m n && x) (and_false (job_has elsewhere m)) ∙ and_false (ltb m n))
    by_used true q =
        let u = used_input (job k) e le ∙ q in
        ap (λ (b : Bool). job_has (cond b no_jobs (jobs_common (makers e) elsewhere)) m)
        (makers_meet job n numbers sets t few k e lk (omega arith) u held hw)
        ∙ by_made u made refl

    supplier_has : job_has (suppliers e) m ≡ (ltb m n && (job_has elsewhere m && supplies_at job n held (job k) m e))
    unfolding suppliers_by supplies_at not_created_at
    supplier_has = by_used (ltb e (job k).inputs) refl ∙ sym (simp (lt-ltb e 4 le, used_input (job k) e le))

  abbrev missing : ℕ → JobSet
  missing = missing_by numbers sets (job k).inputs (places + 8 * k) held elsewhere

  missing_has : (m : ℕ) → m < capacity → (c : ℕ) → c ≤ 4
      → job_has (missing c) m ≡ (ltb m n && (job_has elsewhere m && any_below c (supplies_at job n held (job k) m)))
  unfolding missing_by any_below
  missing_has m lm zero l = has_no_jobs m ∙ sym (ap (λ (x : Bool). ltb m n && x) (and_false (job_has elsewhere m)) ∙ and_false (ltb m n))
  missing_has m lm (suc c) l =
      job_union_has (suppliers c) (missing c) m
      ∙ (rw (supplier_has m c lm (omega arith), missing_has m lm c (omega arith)) (sym (spread (ltb m n) (job_has elsewhere m) _ _)))

  supplier_words : (e : ℕ) → InWords (suppliers e)
  unfolding suppliers_by
  supplier_words e =
      by_cases (λ b. InWords (cond b (cond (jobs_meet (makers e) held) no_jobs (jobs_common (makers e) elsewhere)) no_jobs)) (ltb e (job k).inputs)
      (λ _. by_cases (λ b. InWords (cond b no_jobs (jobs_common (makers e) elsewhere))) (jobs_meet (makers e) held)
      (λ _. no_jobs_words) (λ _. common_words (makers e) elsewhere ew))
      (λ _. no_jobs_words)

  missing_words : (c : ℕ) → InWords (missing c)
  unfolding missing_by
  missing_words zero = no_jobs_words
  missing_words (suc c) = union_words (suppliers c) (missing c) (supplier_words c) (missing_words c)

  by_index : missing 4 ≡ missing_jobs job n held elsewhere (job k)
  unfolding missing_jobs is_missing
  by_index =
      let p = is_missing job n held elsewhere (job k) in
      jobs_same (missing 4) _ (missing_words 4) (jobs_below_words n p) (λ m l. missing_has m l 4 (omega arith) ∙ sym (has_jobs_below n p m l))

-- of a booked job, by the count of its record
pub missing_booked : (version : ℕ) (journal : List ℕ) (n : ℕ) (numbers sets : List ℕ) → IndexedEntries version journal n numbers sets
    → (held elsewhere : JobSet) → InWords held → InWords elsewhere → (job inputs : ℕ) (part : List ℕ) (r : JobSet) → job < n
    → part ≡ record_at version journal n job → inputs ≡ (job_of part).inputs → r ≡ missing_by numbers sets inputs (places + 8 * job) held elsewhere 4
    → r ≡ missing_jobs (job_at version journal n) n held elsewhere (job_at version journal n job)
unfolding job_at
missing_booked version journal n numbers sets t held elsewhere hw ew job inputs part r l ep ei er =
    er ∙ rw (ei, ep) (by_index (job_at version journal n) n numbers sets (indexed_booked version journal n numbers sets t) t.few job l held elsewhere hw ew)

-- the first inputs, one after another
module _ (numbers sets : List ℕ) (count at : ℕ) (held elsewhere : JobSet) where
  pub missing_start : (s : JobSet) → s ≡ no_jobs → s ≡ missing_by numbers sets count at held elsewhere 0
  unfolding missing_by
  missing_start s e = e

  pub missing_more : (e : ℕ) (a c r : JobSet) → a ≡ suppliers_by numbers sets count at held elsewhere e
      → c ≡ missing_by numbers sets count at held elsewhere e → r ≡ job_union a c → r ≡ missing_by numbers sets count at held elsewhere (e + 1)
  unfolding missing_by
  missing_more e a c r ea ec er = let q : e + 1 ≡ suc e = omega arith in rw q (er ∙ ap₂ job_union ea ec)

  pub missing_end : (e : ℕ) (r : JobSet) → r ≡ missing_by numbers sets count at held elsewhere e → e ≤ 4 → 4 ≤ e
      → r ≡ missing_by numbers sets count at held elsewhere 4
  missing_end e r er l h = let q : e ≡ 4 = omega arith in er ∙ ap (missing_by numbers sets count at held elsewhere) q

pub ruleset collecting = (missing_start, missing_more, missing_end)
