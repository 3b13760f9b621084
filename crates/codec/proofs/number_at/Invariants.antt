-- The bytes are taken from the highest down, so what is gathered is always the number of those above k.
use mathlib.Core.Path.{◌≡◌}
use Prim.Native.Nat.{◌*◌, ◌+◌, ◌-◌, ◌<◌, ◌^◌, ◌≤◌}
use Rattle.codec.specs.Codec.{le_at}
use Rattle.codec.proofs.number_at.Given as goal

abbrev pub invariant-loop-k : goal.invariant-loop-k
invariant-loop-k l = (l.k ≤ l.count) × ((l.acc ≡ le_at l.s (l.at + l.k) (l.count - l.k)) × (l.acc < 2 ^ (8 * (l.count - l.k))))
