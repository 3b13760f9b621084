-- What is sought is still what is sought from here on.
use mathlib.Core.Path.{◌≡◌}
use Prim.Native.Nat.{◌+◌, ◌-◌, ◌≤◌}
use lib.ListN.{length}
use Rattle.release_file.specs.Releases.{unread_in, unread_next}
use Rattle.runfile.specs.Run.{longest}
use Rattle.release_file.proofs.unread.first.Given as goal

abbrev pub invariant-loop-pos : goal.invariant-loop-pos
invariant-loop-pos l =
    (l.count + 9 ≤ l.pos) × ((l.pos ≤ length l.input) × ((length l.input ≤ longest) × (unread_in l.input ≡ unread_next (length l.input - l.count) l.version l.input l.pos l.count)))

abbrev pub decreases-loop-pos : goal.decreases-loop-pos
decreases-loop-pos l = length l.input - l.pos
