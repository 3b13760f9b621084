-- Each turn stores the lowest byte of what remains, and what is stored with what remains is the whole number.
use mathlib.Core.Path.{◌≡◌}
use Prim.Native.Nat.{◌+◌, ◌-◌, ◌≤◌}
use lib.ListN.{length}
use lib.Seq.{sets}
use Rattle.codec.specs.Codec.{le_bytes}
use Rattle.codec.proofs.put_number.Given as goal

abbrev pub invariant-loop-k : goal.invariant-loop-k
invariant-loop-k l =
    (l.k ≤ l.count) × ((length l.out ≡ length l.initial.out) × (sets l.out (l.at + l.k) (le_bytes (l.count - l.k) l.v) ≡ sets l.initial.out l.at (le_bytes l.count l.value)))

abbrev pub decreases-loop-k : goal.decreases-loop-k
decreases-loop-k l = l.count - l.k
