-- At the numbers of a booked job's entries stand the jobs that have its label on the same side, and those that make its tape.
use mathlib.Core.Bool.{Bool, ◌&&◌, false, true}
use mathlib.Core.List.{List}
use mathlib.Core.Path.{◌∙◌, ◌≡◌, ap, refl}
use Prim.Native.Nat.{◌*◌, ◌+◌, ◌<◌, ◌≤◌, ℕ}
use native.Mathlib.Omega.{arith}
use lib.Dec.{ltb}
use lib.ListN.{get_or}
use Rattle.base.specs.Search.{any_below}
use Rattle.conflicts.specs.Conflicts.{label_in, makes_tape}
use Rattle.record.specs.Entries.{frames_of, is_used, label_of}
use Rattle.record.specs.declared.Job.{Job}
use Rattle.job_sets.specs.Jobs.{job_has}
use Rattle.journal.specs.Journal.{capacity}
use Rattle.index.proofs.Enters.{place_frames, place_label, place_used}
use Rattle.index.proofs.Finds.{label_set, tape_set}
use Rattle.index.proofs.Marks.{set_bit}
use Rattle.index.specs.Places.{Entered, bit_of, links_at, marks, number_at, numbers_at, places, used_at}
use Rattle.index.specs.Sets.{Tables, set_of}
use Rattle.index.specs.Words.{bit_at}

module _ (job : ℕ → Job) (n : ℕ) (numbers sets : List ℕ) (t : Entered job (8 * n) numbers sets) (few : n ≤ capacity) where
  pub tables : Tables numbers sets
  tables = record { numbers_sized = t.numbered.size; sets_sized = t.marked.size; small = t.numbered.small }

  module _ (k e : ℕ) (lk : k < n) (le : e < 8) (used : is_used (job k) e ≡ true) where
    here : used_at job (8 * k + e) ≡ true
    here = place_used job k e le (job k) refl ∙ used

    -- the bits at its number
    at_number : (exact : Bool) (at kind j : ℕ) → at ≡ numbers_at exact + (8 * k + e) → at < links_at → kind < 3 → j < capacity
        → job_has (set_of numbers sets at kind) j ≡ any_below (8 * n) (marks job (bit_of kind (number_at job exact (8 * k + e)) j))
    unfolding set_of
    at_number exact at kind j ea la lx lj =
        let v : get_or numbers at 0 ≡ number_at job exact (8 * k + e) =
        ap (λ (i : ℕ). get_or numbers i 0) ea ∙ t.numbered.named exact (8 * k + e) (omega arith) here in
        let b : 64 * (6 * get_or numbers at 0 + 2 * kind) + j ≡ bit_of kind (number_at job exact (8 * k + e)) j = omega (arith, v) in
        set_bit sets (6 * get_or numbers at 0 + 2 * kind) j lj ∙ ap (bit_at sets) b ∙ t.marked.bits _ (omega (arith, v, t.numbered.small at la))

    pub label_has : (kind j : ℕ) → kind < 2 → j < capacity
        → job_has (set_of numbers sets (8 * k + e) kind) j ≡ (ltb j n && label_in (4 * kind) (job j) (label_of (job k) e))
    label_has kind j lx lj =
        at_number false (8 * k + e) kind j (omega arith) (omega arith) (omega arith) lj
        ∙ label_set job n few (8 * k + e) here j lj kind lx
        ∙ ap (λ (l : ℕ). ltb j n && label_in (4 * kind) (job j) l) (place_label job k e le (job k) refl)

    pub tape_has : (j : ℕ) → j < capacity
        → job_has (set_of numbers sets (places + 8 * k + e) 2) j ≡ (ltb j n && makes_tape (job j) (label_of (job k) e) (frames_of (job k) e))
    tape_has j lj =
        at_number true (places + 8 * k + e) 2 j (omega arith) (omega arith) (omega arith) lj
        ∙ tape_set job n few (8 * k + e) here j lj
        ∙ rw (place_label job k e le (job k) refl, place_frames job k e le (job k) refl)
