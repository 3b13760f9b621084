-- The sum so far with that of the entries that remain is the sum of all; four numbers of 32 bits fit 64.
use mathlib.Core.Path.{◌≡◌}
use Prim.Native.Nat.{◌*◌, ◌+◌, ◌-◌, ◌≤◌}
use Rattle.base.specs.Search.{sum_from}
use Rattle.record.specs.Entries.{used_frames}
use Rattle.balances.proofs.total.Given as goal

abbrev pub invariant-loop-i : goal.invariant-loop-i
invariant-loop-i l =
    (l.i ≤ 4) × ((l.half ≤ 4) × ((l.sum ≤ l.i * 4294967295) × (l.sum + sum_from (used_frames l.job) (l.half + l.i) (4 - l.i) ≡ sum_from (used_frames l.job) l.half 4)))
