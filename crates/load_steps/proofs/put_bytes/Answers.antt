-- What is copied into the part is put there.
use mathlib.Core.List.{List, append_assoc}
use mathlib.Core.Path.{◌≡◌, refl}
use Prim.Native.Nat.{◌+◌, ◌-◌, ◌≤◌, ℕ}
use native.Mathlib.Nat.{add-sub_cancel_left}
use borrow.Rule.Slice.PartMut.{put_mid}
use lib.ListN.{length}
use lib.Seq.{drop-drop, sets, sets-eq}
use Rattle.load_steps.proofs.put_bytes.Goals as goal

copied : (out s now : List ℕ) (at : ℕ) → at + length s ≤ length out → now ≡ s → put_mid at (at + length s - at) out now ≡ sets out at s
copied out s now at room e = rw (e, add-sub_cancel_left, sets-eq s out at room, drop-drop, append_assoc)

pub returns : goal.returns
returns c = (record { moved = refl; wrote = copied _ _ _ _ c.requires c.copy_from_slice.ensures.after }, refl)
