-- The tapes of the jobs one after another; and there is room, since each job frees four at most.
use mathlib.Core.Bool.{Bool, cond, false, true}
use mathlib.Core.List.{List, [], ◌++◌, append_assoc, append-nil}
use mathlib.Core.Path.{◌∙◌, ◌≡◌, ap, subst, sym}
use Prim.Native.Nat.{◌*◌, ◌+◌, ◌≤◌, suc, zero, ℕ}
use native.Mathlib.Nat.{add-zero, le_refl, zero-add}
use native.Mathlib.Omega.{arith}
use lib.Count.{ones}
use lib.Dec.{leb}
use lib.ListN.{drop, length, length-append, take}
use lib.Seq.{take-nil, take-take}
use Rattle.base.proofs.Reflect.{by_cases}
use Rattle.conflicts.specs.Tapes.{used_from}
use Rattle.codec.specs.Codec.{front_job, job_of, place_of, record_size}
use Rattle.federation.specs.Federation.{threshold_of}
use Rattle.federation.specs.declared.Settings.{Settings}
use Rattle.journal.specs.Journal.{is_booked, job_at, record_at, slot_at}
use Rattle.record.specs.declared.Job.{Job}
use Rattle.consequences.specs.Freed.{Freed, freed_by, freed_from, is_finished}
use Rattle.ledger.specs.State.{votes_at, votes_in}
use Rattle.ledger.specs.declared.Ledger.{Ledger}
use Rattle.vaults.specs.declared.Votes.{Votes}
use Rattle.release_lines.proofs.Lines.{job_few, listed_none, listed_on}
use Rattle.release_lines.specs.Tapes.{Listed, of_job}
use Rattle.release_lines.specs.declared.Cursor.{Cursor}
use Rattle.release_jobs.specs.Freeing.{freed_with}

freed_append : (l : Ledger) (job : ℕ → Job) (k n m : ℕ) → freed_from l job k (n + m) ≡ freed_from l job k n ++ freed_from l job (k + n) m
unfolding freed_from
freed_append l job k zero m = rw (zero-add, add-zero)
freed_append l job k (suc n) m =
    let a : suc n + m ≡ suc (n + m) = omega arith in
    let b : suc k + n ≡ k + suc n = omega arith in
    let part = cond (is_finished l k) (freed_by job k) [] in
    rw a
    (ap (λ (xs : List Freed). part ++ xs) (freed_append l job (suc k) n m ∙ rw b)
    ∙ sym (append_assoc part (freed_from l job (suc k) n) (freed_from l job (k + suc n) m)))

pub freed_on : (l : Ledger) (job : ℕ → Job) (n : ℕ) → freed_from l job 0 (n + 1) ≡ freed_from l job 0 n ++ freed_from l job n 1
freed_on l job n = freed_append l job 0 n 1 ∙ rw zero-add

pub freed_few : (l : Ledger) (job : ℕ → Job) (k n : ℕ) → length (freed_from l job k n) ≤ 4 * n
unfolding freed_from
freed_few l job k zero = omega arith
freed_few l job k (suc n) =
    let rest = freed_few l job (suc k) n in
    let tail = freed_from l job (suc k) n in
    by_cases (λ b. length (cond b (freed_by job k) [] ++ tail) ≤ 4 * suc n) (is_finished l k)
    (λ e. omega (arith, rest, length-append (freed_by job k) tail, job_few k (job k) 0 4)) (λ e. omega (arith, rest))

pub jobs_first : (o : List ℕ) (c : Cursor) (l : Ledger) (job : ℕ → Job) → Listed o c (freed_from l job 0 0) o c
unfolding freed_from
jobs_first o c l job = listed_none o c

-- a job by its votes
job_freed : (l : Ledger) (job : ℕ → Job) (k : ℕ) → freed_from l job k 1 ≡ freed_with l.settings (votes_at l k) (job k) k
unfolding freed_from freed_with is_finished votes_in
job_freed l job k = append-nil (cond (is_finished l k) (freed_by job k) [])

-- the job that was read of a booked record is the booked one
record_job : (version : ℕ) (journal part : List ℕ) (booked k : ℕ) (j : Job) → part ≡ record_at version journal booked k → j ≡ front_job version part
    → j ≡ job_at version journal booked k
unfolding front_job job_at record_at slot_at
record_job version journal part booked k j p e =
    e ∙ ap (λ (x : List ℕ). job_of (take (record_size version) x)) p
    ∙ by_cases (λ b. job_of (take (record_size version) (cond b (take (record_size version) (drop (place_of version k) journal)) []))
    ≡ job_of (cond b (take (record_size version) (drop (place_of version k) journal)) [])) (is_booked version journal booked k)
    (λ q. ap job_of (take-take (record_size version) (record_size version) (drop (place_of version k) journal) (le_refl (record_size version))))
    (λ q. ap job_of (take-nil (record_size version)))

pub job_listed : {o p : List ℕ} {c d : Cursor} (s : Settings) (votes : Votes) (journal part : List ℕ) (booked k : ℕ) (j : Job) (b : Bool)
    → b ≡ leb (threshold_of s) (ones votes.acknowledgements) → b ≡ true → part ≡ record_at s.version journal booked k → j ≡ front_job s.version part
    → Listed o c (of_job k (used_from j 0 4)) p d → Listed o c (freed_with s votes (job_at s.version journal booked k) k) p d
unfolding freed_with
job_listed {o} {p} {c} {d} s votes journal part booked k j b q t r f h =
    rw (sym q ∙ t) (subst (λ (x : Job). Listed o c (of_job k (used_from x 0 4)) p d) (record_job s.version journal part booked k j r f) h)

pub job_skipped : (o : List ℕ) (c : Cursor) (s : Settings) (votes : Votes) (j : Job) (k : ℕ) (b : Bool)
    → b ≡ leb (threshold_of s) (ones votes.acknowledgements) → b ≡ false → Listed o c (freed_with s votes j k) o c
unfolding freed_with
job_skipped o c s votes j k b q f = rw (sym q ∙ f) (listed_none o c)

module _ {o p : List ℕ} {c d : Cursor} (l : Ledger) (job : ℕ → Job) (k : ℕ) (a : Listed o c (freed_from l job 0 k) p d) where
  pub jobs_on : {q : List ℕ} {f : Cursor} → Listed p d (freed_with l.settings (votes_at l k) (job k) k) q f → Listed o c (freed_from l job 0 (k + 1)) q f
  jobs_on {q} {f} b =
      subst (λ (xs : List Freed). Listed o c xs q f) (sym (freed_on l job k))
      (listed_on (freed_from l job 0 k) (freed_from l job k 1) a (subst (λ (xs : List Freed). Listed p d xs q f) (sym (job_freed l job k)) b))

  pub jobs_room : (d.at ≤ c.at + 100 * k) × (d.count ≤ c.count + 4 * k)
  jobs_room = let few = freed_few l job 0 k in (omega (arith, few, a.short), omega (arith, few, a.counted))
