-- The release list, from which the archives order blanks: the tapes that are free to be overwritten. They are the input tapes of finished jobs.
use Rattle.std.specs.Prelude.{Bool, cond, List, [], ◌++◌, map, ◌≢◌, ◌⊎◌, ◌<◌, ◌≤◌, suc, zero, ℕ, leb}
use Rattle.std.specs.Int.Count.{ones}
use Rattle.base.specs.Lists.{Distinct, In}
use Rattle.conflicts.specs.Tapes.{input_tapes, labels, output_tapes}
use Rattle.federation.specs.Federation.{Lawful, threshold_of}
use Rattle.record.specs.declared.Entry.{Entry}
use Rattle.record.specs.declared.Job.{Job}
use Rattle.ledger.specs.Demand3.{booked_job}
use Rattle.ledger.specs.Register.{Register, feed_all, log, new_register}
use Rattle.ledger.specs.State.{acknowledgers_of}
use Rattle.ledger.specs.Worlds.{Event, World, after_all, start}
use Rattle.ledger.specs.declared.Ledger.{Ledger}

-- a tape, and the job that retired it
pub record Freed : Type 0 where
  pub tape : Entry
  pub job : ℕ

-- "finished": as many vaults as must sign a job have acknowledged it
unfoldable pub is_finished : Ledger → ℕ → Bool
is_finished l k = leb (threshold_of l.settings) (ones (acknowledgers_of l k))

-- the same, said without a test
pub record Finished (l : Ledger) (k : ℕ) : Type 0 where
  pub booked : k < l.booked
  pub acknowledged : threshold_of l.settings ≤ ones (acknowledgers_of l k)

abbrev pub freed_by : (ℕ → Job) → ℕ → List Freed
freed_by job k = map (λ (t : Entry). record { tape = t; job = k }) (input_tapes (job k))

-- of the n jobs from k on, by job and then by entry
unfoldable pub freed_from : Ledger → (ℕ → Job) → ℕ → ℕ → List Freed
freed_from l job k zero = []
freed_from l job k (suc n) = cond (is_finished l k) (freed_by job k) [] ++ freed_from l job (suc k) n

-- the list: of a ledger, and the jobs that its booked records say
abbrev pub freed_tapes : Ledger → (ℕ → Job) → List Freed
freed_tapes l job = freed_from l job 0 l.booked

abbrev pub freed_in : World → List Freed
freed_in w = freed_tapes w.ledger (booked_job w)

-- another job that the register has taken has the tape as an input
pub record Retired (job : ℕ → Job) (r : Register) (k : ℕ) (t : Entry) : Type 0 where
  pub by : ℕ
  pub taken : In by r.taken
  pub other : by ≢ k
  pub input : In t (input_tapes (job by))

-- what the list says, of a world and its register
pub record Free (w : World) (r : Register) : Type 0 where
  -- a tape is listed exactly if a finished job has it as an input
  pub listed : (k : ℕ) (t : Entry) → Finished w.ledger k → In t (input_tapes (booked_job w k)) → In (record { tape = t; job = k }) (freed_in w)
  pub only : (x : Freed) → In x (freed_in w) → Finished w.ledger x.job × In x.tape (input_tapes (booked_job w x.job))
  -- a finished job is one that the register has taken, so the job of a listed tape is
  pub taken : (k : ℕ) → Finished w.ledger k → In k r.taken
  -- no tape with its label stands
  pub gone : (x : Freed) → In x (freed_in w) → In x.tape.label (labels r.standing) → ⊥
  -- no label is listed twice
  pub once : Distinct (map (λ (x : Freed). x.tape.label) (freed_in w))
  -- no frame is left on a listed tape alone: each output of a taken job stands, or another taken job has it as an input
  pub copied : (k : ℕ) (t : Entry) → In k r.taken → In t (output_tapes (booked_job w k)) → In t r.standing ⊎ Retired (booked_job w) r k t

-- after any list of steps the list says this, and after any further steps too; what is listed stays listed, so no tape with a listed label ever stands again
abbrev pub FreeForGood : Type 0
FreeForGood =
    (n b faulty version : ℕ) → Lawful (record { n = n; b = b; faulty = faulty; version = version }) → (es fs : List Event)
    → let w = after_all (start n b faulty version) es in
    let r = feed_all (new_register version) (log (start n b faulty version) es) in
    let later = after_all w fs in
    let register = feed_all r (log w fs) in
    Free w r × Free later register
    × ((x : Freed) → In x (freed_in w) → In x (freed_in later) × (In x.tape.label (labels register.standing) → ⊥))
