-- The entry is read from the part of the journal that is its record.
use Rattle.index.proofs.Inside.{place_read}
use Rattle.index.proofs.seeking.entry_at.Goals as goal

pub returns : goal.returns
returns c = place_read _ _ _ _ _ c.slot.ensures c.entry_of.ensures
