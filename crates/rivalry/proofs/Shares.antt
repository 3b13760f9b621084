-- A conflict by the index is that of the two jobs: against the set of the other job alone, an input offends where the other job has its label as an
-- input, and an output where it has its label as an output.
use mathlib.Core.Bool.{Bool, ◌&&◌, ◌||◌, true}
use mathlib.Core.List.{List}
use mathlib.Core.Path.{◌∙◌, ◌≡◌, ap₂, subst, sym}
use Prim.Native.Nat.{◌*◌, ◌+◌, ◌<◌, ◌≤◌, ℕ}
use native.Mathlib.Nat.{zero-add}
use native.Mathlib.Omega.{arith}
use lib.Dec.{ltb}
use borrow.Author.Tests.{lt-ltb}
use Rattle.base.proofs.Reflect.{and_true, by_test, same_truth}
use Rattle.base.proofs.Search.{any_elim, any_intro, any_same, first_any, first_none, found_none}
use Rattle.base.specs.Search.{any_below, first_below}
use Rattle.codec.specs.Codec.{job_of}
use Rattle.conflicts.specs.Conflicts.{conflicting, label_in, shares_at, shares_in}
use Rattle.record.specs.Entries.{label_of}
use Rattle.record.specs.declared.Job.{Job}
use Rattle.job_sets.proofs.Few.{one, one_is, one_words}
use Rattle.job_sets.proofs.Jobs.{job_with_same}
use Rattle.job_sets.specs.Jobs.{job_has, job_with, no_jobs}
use Rattle.job_sets.specs.declared.job_set.JobSet.{JobSet}
use Rattle.journal.specs.Journal.{capacity, job_at, record_at}
use Rattle.queries.proofs.Admits.{used_input, used_output, where_used}
use Rattle.queries.proofs.Meets.{listers_meet}
use Rattle.index.proofs.Tables.{indexed_booked}
use Rattle.queries.specs.Admission.{listed_by, lists_at}
use Rattle.queries.specs.Checks.{first_offending, offends_at}
use Rattle.rivalry.specs.Rivals.{conflicts_by}
use Rattle.index.specs.Index.{IndexedEntries}
use Rattle.index.specs.Places.{Entered}

-- a search ends before n exactly where some number below n passes
found_any : (p : ℕ → Bool) (n : ℕ) → ltb (first_below n p) n ≡ any_below n p
found_any p n = by_test (any_below n p) (λ e. lt-ltb (first_below n p) n (first_any p n e) ∙ sym e) (λ e. found_none p n (first_none p n e) ∙ sym e)

module _ (job : ℕ → Job) (n : ℕ) (few : n ≤ capacity) (m : ℕ) (lm : m < n) where
  listed_one : (half label : ℕ) → listed_by job n half (one m) label ≡ label_in half (job m) label
  unfolding listed_by lists_at
  listed_one half label = same_truth _ _
      (λ e.
      let s = any_elim (λ (k : ℕ). job_has (one m) k && label_in half (job k) label) n e in
      let c = and_true (job_has (one m) s.which) _ s.has in
      subst (λ (k : ℕ). label_in half (job k) label ≡ true) (one_is m s.which c.0) c.1)
      (λ e. any_intro _ n m lm (simp (job_with_same no_jobs m (omega arith), e)))

  module _ (numbers sets : List ℕ) (t : Entered job (8 * n) numbers sets) (k : ℕ) (lk : k < n) where
    inputs_share : (e : ℕ) → e < 4 → offends_at numbers sets (job k).inputs (8 * k) 0 (one m) e ≡ shares_at 0 (job k) (job m) e
    unfolding offends_at shares_at
    inputs_share e l =
        simp (zero-add, used_input (job k) e l)
        (where_used (ltb e (job k).inputs) _ _ (λ u.
        listers_meet job n numbers sets t few k e lk (omega arith) (used_input (job k) e l ∙ u) (one m) (one_words m) 0 (omega arith)
        ∙ listed_one 0 (label_of (job k) e)))

    outputs_share : (e : ℕ) → e < 4 → offends_at numbers sets (job k).outputs (8 * k + 4) 1 (one m) e ≡ shares_at 4 (job k) (job m) e
    unfolding offends_at shares_at
    outputs_share e l =
        let z : 8 * k + 4 + e ≡ 8 * k + (4 + e) = omega arith in
        simp (used_output (job k) e, z)
        (where_used (ltb e (job k).outputs) _ _ (λ u.
        listers_meet job n numbers sets t few k (4 + e) lk (omega arith) (used_output (job k) e ∙ u) (one m) (one_words m) 1 (omega arith)
        ∙ listed_one 4 (label_of (job k) (4 + e))))

    by_index : conflicts_by numbers sets (job k).inputs (job k).outputs (one m) k ≡ conflicting (job k) (job m)
    unfolding conflicts_by conflicting first_offending shares_in
    by_index = ap₂ ◌||◌
        (found_any (offends_at numbers sets (job k).inputs (8 * k) 0 (one m)) 4 ∙ any_same _ _ 4 inputs_share)
        (found_any (offends_at numbers sets (job k).outputs (8 * k + 4) 1 (one m)) 4 ∙ any_same _ _ 4 outputs_share)

-- of two booked jobs, by the counts of the one's record
pub conflict_booked : (version : ℕ) (journal : List ℕ) (n : ℕ) (numbers sets : List ℕ) → IndexedEntries version journal n numbers sets
    → (job other inputs outputs : ℕ) (part : List ℕ) (s : JobSet) (r : Bool) → job < n → other < n → part ≡ record_at version journal n job
    → inputs ≡ (job_of part).inputs → outputs ≡ (job_of part).outputs → s ≡ job_with no_jobs other → r ≡ conflicts_by numbers sets inputs outputs s job
    → r ≡ conflicting (job_at version journal n job) (job_at version journal n other)
unfolding job_at
conflict_booked version journal n numbers sets t job other inputs outputs part s r l lo ep ei eo es er =
    er ∙ rw (ei, eo, ep, es) (by_index (job_at version journal n) n t.few other lo numbers sets (indexed_booked version journal n numbers sets t) job l)
