-- What is copied into the part is put there.
use mathlib.Core.Path.{refl}
use Rattle.words.proofs.Copies.{copied}
use Rattle.words.proofs.put.Goals as goal

pub returns : goal.returns
returns c = (record { moved = refl; wrote = copied _ _ _ _ c.requires c.copy_from_slice.ensures.after }, refl)
