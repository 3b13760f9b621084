-- The byte that was read is the one at the place.
use mathlib.Core.Path.{ap}
use Prim.Native.Nat.{ℕ}
use Rattle.scripts.specs.Lines.{is_comment}
use Rattle.scripts.proofs.is_comment.Goals as goal

pub returns : goal.returns
returns c = ap (λ (b : ℕ). is_comment b) c.byte_at.ensures
