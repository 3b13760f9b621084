-- The rivals of a booked job by the index: a job stands at one of its input labels exactly where it shares an input label with it, and so for outputs.
use mathlib.Core.Bool.{Bool, ◌&&◌, ◌||◌, cond, false, not, true}
use mathlib.Core.List.{List}
use mathlib.Core.Path.{◌∙◌, ◌≡◌, ap, ap₂, refl, sym}
use Prim.Native.Nat.{◌*◌, ◌+◌, ◌<◌, ◌≤◌, suc, zero, ℕ}
use native.Mathlib.Nat.{zero-add}
use native.Mathlib.Numerals.{add-one}
use native.Mathlib.Omega.{arith}
use lib.Dec.{eqb, ltb}
use borrow.Author.Tests.{eqb-false, eqb-true}
use Rattle.base.proofs.Reflect.{and_false, by_cases}
use Rattle.base.proofs.Search.{any_and, any_same}
use Rattle.base.specs.Search.{any_below}
use Rattle.codec.specs.Codec.{job_of}
use Rattle.conflicts.specs.Conflicts.{conflicting, is_rival, shares_at, shares_in}
use Rattle.record.specs.declared.Job.{Job}
use Rattle.job_sets.proofs.Jobs.{has_jobs_below, has_no_jobs, job_union_has, job_without_other, job_without_same, jobs_below_words, jobs_same, no_jobs_words}
use Rattle.job_sets.specs.Jobs.{InWords, job_has, job_union, job_without, no_jobs}
use Rattle.job_sets.specs.declared.job_set.JobSet.{JobSet}
use Rattle.journal.specs.Journal.{capacity, job_at, record_at}
use Rattle.queries.proofs.Admits.{used_input, used_output}
use Rattle.index.proofs.Numbers.{label_has}
use Rattle.index.proofs.Tables.{indexed_booked}
use Rattle.index.specs.Sets.{set_of}
use Rattle.index.specs.Index.{IndexedEntries}
use Rattle.index.specs.Places.{Entered}
use Rattle.rivalry.specs.Rivals.{rivals_by, rivals_of, sharers_by, sharers_with}

-- a job is at one of the labels
sharers_has : (numbers sets : List ℕ) (count at kind n j : ℕ)
    → job_has (sharers_by numbers sets count at kind n) j ≡ any_below n (λ e. ltb e count && job_has (set_of numbers sets (at + e) kind) j)
unfolding sharers_by sharers_with any_below
sharers_has numbers sets count at kind zero j = has_no_jobs j
sharers_has numbers sets count at kind (suc n) j =
    let found = sharers_by numbers sets count at kind n in
    let here = set_of numbers sets (at + n) kind in
    let rest = sharers_has numbers sets count at kind n j in
    by_cases (λ b. job_has (cond b (job_union here found) found) j
    ≡ ((b && job_has here j) || any_below n (λ e. ltb e count && job_has (set_of numbers sets (at + e) kind) j)))
    (ltb n count) (λ _. job_union_has here found j ∙ ap (λ (b : Bool). job_has here j || b) rest) (λ _. rest)

module _ (job : ℕ → Job) (n : ℕ) (few : n ≤ capacity) (numbers sets : List ℕ) (t : Entered job (8 * n) numbers sets) (k : ℕ) (lk : k < n) (j : ℕ)
    (lj : j < capacity) where
  -- u is the test that the entry is used, which comes first on one side and second on the other
  swap : (u a b x : Bool) → (u ≡ true → x ≡ (a && b)) → (u && x) ≡ (a && (u && b))
  swap true a b x h = h refl
  swap false true b x h = refl
  swap false false b x h = refl

  inputs_at : (e : ℕ) → e < 4 → (ltb e (job k).inputs && job_has (set_of numbers sets (8 * k + e) 0) j) ≡ (ltb j n && shares_at 0 (job k) (job j) e)
  unfolding shares_at
  inputs_at e l =
      simp (zero-add, used_input (job k) e l)
      (swap (ltb e (job k).inputs) (ltb j n) _ _ (λ u.
      label_has job n numbers sets t few k e lk (omega arith) (used_input (job k) e l ∙ u) 0 j (omega arith) lj))

  outputs_at : (e : ℕ) → e < 4 → (ltb e (job k).outputs && job_has (set_of numbers sets (8 * k + 4 + e) 1) j) ≡ (ltb j n && shares_at 4 (job k) (job j) e)
  unfolding shares_at
  outputs_at e l =
      let z : 8 * k + 4 + e ≡ 8 * k + (4 + e) = omega arith in
      simp (used_output (job k) e, z)
      (swap (ltb e (job k).outputs) (ltb j n) _ _ (λ u.
      label_has job n numbers sets t few k (4 + e) lk (omega arith) (used_output (job k) e ∙ u) 1 j (omega arith) lj))

  abbrev readers : JobSet
  readers = sharers_by numbers sets (job k).inputs (8 * k) 0 4

  abbrev writers : JobSet
  writers = sharers_by numbers sets (job k).outputs (8 * k + 4) 1 4

  readers_has : job_has readers j ≡ (ltb j n && shares_in 0 (job k) (job j))
  unfolding shares_in
  readers_has = sharers_has numbers sets (job k).inputs (8 * k) 0 4 j ∙ (any_same _ _ 4 inputs_at ∙ any_and (ltb j n) (shares_at 0 (job k) (job j)) 4)

  writers_has : job_has writers j ≡ (ltb j n && shares_in 4 (job k) (job j))
  unfolding shares_in
  writers_has = sharers_has numbers sets (job k).outputs (8 * k + 4) 1 4 j ∙ (any_same _ _ 4 outputs_at ∙ any_and (ltb j n) (shares_at 4 (job k) (job j)) 4)

  either : (a x y : Bool) → ((a && x) || (a && y)) ≡ (a && (x || y))
  either true x y = refl
  either false x y = refl

  conflicts_has : job_has (job_union readers writers) j ≡ (ltb j n && conflicting (job k) (job j))
  unfolding conflicting
  conflicts_has =
      job_union_has readers writers j
      ∙ (ap₂ ◌||◌ readers_has writers_has ∙ either (ltb j n) (shares_in 0 (job k) (job j)) (shares_in 4 (job k) (job j)))

  rivals_has : job_has (rivals_by numbers sets (job k).inputs (job k).outputs k) j ≡ (ltb j n && is_rival job k j)
  unfolding rivals_by is_rival
  rivals_has = by_cases (λ b. eqb k j ≡ b → job_has (job_without (job_union readers writers) k) j ≡ (ltb j n && (not b && conflicting (job k) (job j)))) (eqb k j)
      (λ _ e. rw (← eqb-true k j e) (job_without_same (job_union readers writers) k) ∙ sym (and_false (ltb j n)))
      (λ _ e. job_without_other (job_union readers writers) k j (λ q. eqb-false k j e (sym q)) ∙ conflicts_has) refl

-- of a booked job, by the counts of its record
pub rivals_booked : (version : ℕ) (journal : List ℕ) (n : ℕ) (numbers sets : List ℕ) → IndexedEntries version journal n numbers sets
    → (job inputs outputs : ℕ) (part : List ℕ) (r : JobSet) → job < n → part ≡ record_at version journal n job
    → inputs ≡ (job_of part).inputs → outputs ≡ (job_of part).outputs → (r ≡ rivals_by numbers sets inputs outputs job) × InWords r
    → r ≡ rivals_of (job_at version journal n) n job
unfolding job_at rivals_of
rivals_booked version journal n numbers sets t job inputs outputs part r l ep ei eo er =
    jobs_same r (rivals_of (job_at version journal n) n job) er.1 (jobs_below_words n _) (λ j lj.
    ap (λ (s : JobSet). job_has s j) (er.0 ∙ rw (ei, eo, ep))
    ∙ (rivals_has (job_at version journal n) n t.few numbers sets (indexed_booked version journal n numbers sets t) job l j lj
    ∙ sym (has_jobs_below n (is_rival (job_at version journal n) job) j lj)))

-- ---- the loop over the entries of one side
module _ (numbers sets : List ℕ) (count at kind : ℕ) where
  pub sharers_start : (s : JobSet) → s ≡ no_jobs → s ≡ sharers_by numbers sets count at kind 0
  unfolding sharers_by
  sharers_start s e = e

  pub start_words : (s : JobSet) → s ≡ no_jobs → InWords s
  start_words s e = rw e no_jobs_words

  pub sharers_more : (e : ℕ) (found r : JobSet) → found ≡ sharers_by numbers sets count at kind e
      → r ≡ sharers_with numbers sets count at kind e found → r ≡ sharers_by numbers sets count at kind (e + 1)
  unfolding sharers_by
  sharers_more e found r h p = rw add-one (p ∙ ap (sharers_with numbers sets count at kind e) h)

  pub sharers_end : (e : ℕ) (found : JobSet) → found ≡ sharers_by numbers sets count at kind e → e ≤ 4 → 4 ≤ e → found ≡ sharers_by numbers sets count at kind 4
  sharers_end e found h a b = let q : e ≡ 4 = omega arith in h ∙ ap (sharers_by numbers sets count at kind) q

pub ruleset gathering = (sharers_start, start_words, sharers_more, sharers_end)
