-- What is written so far, and the members that are left, of which the number is the first.
use mathlib.Core.Path.{◌≡◌}
use Prim.Native.Nat.{◌+◌, ◌≤◌}
use lib.ListN.{length}
use Rattle.base.specs.Search.{first_below}
use Rattle.job_sets.specs.Jobs.{job_count, job_has}
use Rattle.text.proofs.Members.{Listed}
use Rattle.text.specs.Text.{longest_lines}
use Rattle.text.proofs.listing.write_list.Given as goal

abbrev pub invariant-loop-number : goal.invariant-loop-number
invariant-loop-number l =
    Listed l.initial.out l.at l.initial.rest l.out l.end l.rest
    × ((l.number ≡ first_below 128 (job_has l.rest)) × ((l.number ≤ 128) × ((length l.out ≡ length l.initial.out) × (l.at + longest_lines ≤ length l.initial.out))))

abbrev pub decreases-loop-number : goal.decreases-loop-number
decreases-loop-number l = job_count l.rest
