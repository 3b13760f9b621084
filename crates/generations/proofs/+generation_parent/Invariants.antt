-- The position falls from one of the two to the other. The loop keeps the largest of what the inputs before the present one
-- bring, and a memo that is right.
use Rattle.std.proofs.Common.{List, ◌≡◌, ◌+◌, ◌*◌, ◌≤◌, ℕ, length}
use Rattle.record.specs.declared.Job.{Job}
use Rattle.journal.specs.Journal.{job_at}
use Rattle.generations.specs.Generations.{along, highest}
use Rattle.generations.specs.Memo.{Memo, from_input, inputs_of}
use Rattle.generations.proofs.+generation_parent.Given as goal

abbrev pub decreases-generation : goal.decreases-generation
decreases-generation l = 2 * l.p + 1

abbrev pub decreases-parent : goal.decreases-parent
decreases-parent l = 2 * l.p

-- what holds at the loop's head
pub record Turn (job : ℕ → Job) (order : List ℕ) (len p k count : ℕ) (memo : List ℕ) (most i : ℕ) : Type 0 where
  pub upto : i ≤ count
  pub counted : count ≡ inputs_of (job k)
  pub same : length memo ≡ len
  pub right : Memo job order (length order) memo
  pub is : most ≡ highest i (from_input job (along order) p)

abbrev pub invariant-generation-loop-i : goal.invariant-generation-loop-i
invariant-generation-loop-i l =
    Turn (job_at l.version l.journal l.booked) l.order (length l.fn.memo) l.p l.job l.count l.memo l.most l.i
