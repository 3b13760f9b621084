-- The bytes copied into the part are the part, and what stands around it is left.
use Rattle.journal.proofs.Slots.{copied}
use Rattle.journal.specs.Journal.{put_at}
use Rattle.journal.proofs.put_at.Goals as goal

pub returns : goal.returns
unfolding put_at
returns c =
    let at = c.place-from in
    let size = c.record_size in
    rw (← at.ensures, ← size.ensures.0) (copied c.args.journal.now c.args.bytes.now _ at.result size.result c.copy_from_slice.ensures.after)
