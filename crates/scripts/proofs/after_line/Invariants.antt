-- The place goes on through the text, from the line's first character.
use Prim.Native.Nat.{◌≤◌}
use lib.ListN.{length}
use Rattle.scripts.proofs.after_line.Given as goal

abbrev pub invariant-loop-at : goal.invariant-loop-at
invariant-loop-at l = (l.from ≤ l.at) × (l.at ≤ length l.text)
