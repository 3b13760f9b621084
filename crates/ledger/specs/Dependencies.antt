-- Kind 11 (document 02, "Which papers must a vault see first"): wherever a list of steps has led, what is answered is the smallest set of jobs, each held by a
-- correct vault, with which preflight accepts; and the refusal is given exactly where no set works. The sets are compared by their members alone.
use Rattle.std.specs.Prelude.{true, List, ◌↔◌, ◌≡◌, ◌≤◌, ℕ, Err}
use Rattle.outcome.specs.declared.Refusal.TheVariants.{NoSetWorks}
use Rattle.job_sets.specs.Jobs.{InWords, job_count, job_has, no_jobs}
use Rattle.job_sets.specs.declared.job_set.JobSet.{JobSet}
use Rattle.federation.specs.Federation.{Lawful}
use Rattle.ledger.specs.Decisions.{listing, receiving_all}
use Rattle.ledger.specs.Demand2.{InPlace, accepts}
use Rattle.ledger.specs.Demand3.{Held, booked_job}
use Rattle.ledger.specs.State.{vault_at, with_vault}
use Rattle.ledger.specs.Steps.{dependencies_of}
use Rattle.ledger.specs.Worlds.{Event, World, after_all, lend, preflight, start}
use Rattle.ledger.specs.declared.Listing.{Listing}

-- "once held by this vault too"
abbrev pub holding_too : World → ℕ → JobSet → World
holding_too w v jobs = record { ledger = with_vault w.ledger v (receiving_all (vault_at w.ledger v) jobs); booked = w.booked }

module _ (w : World) (size : ℕ) (beyond : List ℕ) (v k : ℕ) where
  -- a set of jobs that correct vaults hold, with which the ledger's own preflight accepts job k at vault v
  pub record Works (jobs : JobSet) : Type 0 where
    pub fits : InWords jobs
    pub somewhere : (m : ℕ) → job_has jobs m ≡ true → Held w.ledger m
    pub accepted : accepts (holding_too w v jobs) size beyond (preflight v k) ≡ true

  pub record Smallest (answer : Listing) : Type 0 where
    -- where some set works, the jobs listed work, and are among those of the set
    pub works : (jobs : JobSet) → Works jobs → Works answer.members
    pub least : (jobs : JobSet) → Works jobs → (m : ℕ) → job_has answer.members m ≡ true → job_has jobs m ≡ true
    -- "No smaller set works, and none other of that size."
    pub smallest : (jobs : JobSet) → Works jobs → job_count answer.members ≤ job_count jobs
    pub only : (jobs : JobSet) → Works jobs → job_count jobs ≤ job_count answer.members → jobs ≡ answer.members
    -- then the size is answered; "21 exactly if no set works"
    pub found : (jobs : JobSet) → Works jobs → answer ≡ listing answer.members
    pub none : (answer.outcome ≡ Err NoSetWorks) ↔ ((jobs : JobSet) → Works jobs → ⊥)
    -- "A job already signed there needs the empty set."
    pub signed : job_has (vault_at w.ledger v).signed k ≡ true → answer ≡ listing no_jobs
    pub few : job_count answer.members ≤ (booked_job w k).inputs

abbrev pub SmallestSet : Type 0
SmallestSet =
    (n b faulty version : ℕ) → Lawful (record { n = n; b = b; faulty = faulty; version = version }) → (es : List Event) (size : ℕ) (beyond : List ℕ) (v k : ℕ)
    → let w = after_all (start n b faulty version) es in InPlace w size beyond v k
    → Smallest w size beyond v k (dependencies_of w.ledger (lend w.booked size beyond) v k)
