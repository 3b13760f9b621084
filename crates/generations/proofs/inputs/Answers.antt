-- The part that is read is the record, and its count of inputs is cut at four.
use Rattle.generations.specs.Memo.{inputs_of}
use Rattle.index.proofs.Inside.{part_job}
use Rattle.record.specs.declared.Job.{Job}
use mathlib.Core.List.{List}
use mathlib.Core.Path.{◌∙◌, ◌≡◌, ap}
use Prim.Native.Nat.{ℕ}
use Rattle.codec.specs.Codec.{job_of}
use Rattle.index.specs.Places.{slot_job}
use Rattle.journal.specs.Journal.{slot_at}
use native.Mathlib.Omega.{arith}
use Rattle.generations.proofs.inputs.Goals as goal

-- by the record that stands there
counted : (version : ℕ) (journal part : List ℕ) (k count : ℕ) → part ≡ slot_at version journal k → count ≡ (job_of part).inputs
    → count ≡ (slot_job version journal k).inputs
counted version journal part k count p e = e ∙ ap (λ (x : Job). x.inputs) (part_job version journal part k p)

pub returns : goal.returns
unfolding inputs_of
returns c = omega (arith, c.min.ensures, c.from.ensures, counted _ _ _ _ _ c.slot.ensures c.inputs_of.ensures)
