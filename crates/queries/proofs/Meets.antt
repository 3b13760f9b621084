-- The sets at the numbers of a booked job's entries meet a set of jobs where the ledger's checks say so.
use mathlib.Core.Bool.{Bool, ◌&&◌, true}
use mathlib.Core.List.{List}
use mathlib.Core.Path.{◌∙◌, ◌≡◌, sym}
use Prim.Native.Nat.{◌*◌, ◌+◌, ◌<◌, ◌≤◌, ℕ}
use native.Mathlib.Omega.{arith}
use lib.Dec.{ltb}
use borrow.Author.Tests.{lt-ltb, ltb-true}
use Rattle.base.proofs.Reflect.{and_true, same_truth}
use Rattle.base.proofs.Search.{any_elim, any_intro}
use Rattle.base.specs.Search.{any_below}
use Rattle.conflicts.specs.Conflicts.{label_in, makes_tape}
use Rattle.record.specs.Entries.{frames_of, is_used, label_of}
use Rattle.record.specs.declared.Job.{Job}
use Rattle.job_sets.proofs.Jobs.{meets_any}
use Rattle.job_sets.specs.Jobs.{InWords, job_has, jobs_meet}
use Rattle.job_sets.specs.declared.job_set.JobSet.{JobSet}
use Rattle.journal.specs.Journal.{capacity}
use Rattle.index.proofs.Numbers.{label_has, tape_has}
use Rattle.index.specs.Places.{Entered, places}
use Rattle.index.specs.Sets.{set_of}
use Rattle.queries.specs.Admission.{listed_by, lists_at, made_by, makes_at}

-- a set of booked jobs that pass meets another where one of that passes
set_meets : (set s : JobSet) (n : ℕ) (p : ℕ → Bool) → n ≤ capacity → InWords s → ((j : ℕ) → j < capacity → job_has set j ≡ (ltb j n && p j))
    → jobs_meet set s ≡ any_below n (λ j. job_has s j && p j)
set_meets set s n p few w has =
    meets_any set s w
    ∙ same_truth _ _
    (λ e.
    let m = any_elim (λ (j : ℕ). job_has set j && job_has s j) capacity e in
    let b = and_true (job_has set m.which) _ m.has in
    let c = and_true (ltb m.which n) _ (sym (has m.which m.below) ∙ b.0) in
    any_intro _ n m.which (ltb-true m.which n c.0) (simp (b.1, c.1)))
    (λ e.
    let m = any_elim (λ (j : ℕ). job_has s j && p j) n e in
    let b = and_true (job_has s m.which) _ m.has in
    let l : m.which < capacity = omega (arith, m.below) in
    any_intro _ capacity m.which l (simp (has m.which l, lt-ltb m.which n m.below, b.0, b.1)))

-- what stands at an entry's numbers, against a set of jobs, as the ledger asks
module _ (job : ℕ → Job) (n : ℕ) (numbers sets : List ℕ) (t : Entered job (8 * n) numbers sets) (few : n ≤ capacity) (k e : ℕ) (lk : k < n) (le : e < 8)
    (used : is_used (job k) e ≡ true) (s : JobSet) (w : InWords s) where
  pub listers_meet : (kind : ℕ) → kind < 2 → jobs_meet (set_of numbers sets (8 * k + e) kind) s ≡ listed_by job n (4 * kind) s (label_of (job k) e)
  unfolding listed_by lists_at
  listers_meet kind l =
      set_meets _ s n (λ j. label_in (4 * kind) (job j) (label_of (job k) e)) few w
      (λ j. label_has job n numbers sets t few k e lk le used kind j l)

  pub makers_meet : jobs_meet (set_of numbers sets (places + 8 * k + e) 2) s ≡ made_by job n s (label_of (job k) e) (frames_of (job k) e)
  unfolding made_by makes_at
  makers_meet = set_meets _ s n (λ j. makes_tape (job j) (label_of (job k) e) (frames_of (job k) e)) few w (tape_has job n numbers sets t few k e lk le used)
