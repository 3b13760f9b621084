-- Each turn takes a line.
use Rattle.assembly.proofs.Making.{Making}
use lib.ListN.{length}
use mathlib.Core.Path.{◌≡◌}
use Prim.Native.Nat.{◌+◌, ◌-◌}
use Rattle.assembly.proofs.make.Given as goal

abbrev pub invariant-loop-passed : goal.invariant-loop-passed
invariant-loop-passed l =
    Making l.text (length l.text - l.passed) l.at l.end (l.passed + 1) l.initial.out l.out × (length l.buffer ≡ length l.initial.buffer) × (length l.bytes ≡ length l.initial.bytes) × (length l.out ≡ length l.initial.out)
