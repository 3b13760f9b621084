-- The part is the record's bytes.
use native.Mathlib.Nat.{add-sub_cancel_left}
use Rattle.journal.specs.Journal.{slot_at}
use Rattle.journal.proofs.slot.Goals as goal

pub returns : goal.returns
unfolding slot_at
returns c = simp (add-sub_cancel_left, c.place-at.ensures, c.record_size.ensures.0)
