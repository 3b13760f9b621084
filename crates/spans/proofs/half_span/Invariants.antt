-- Each sum so far with that of the entries that remain is the sum of all; five numbers of 32 bits fit 64.
use mathlib.Core.Path.{◌≡◌}
use Prim.Native.Nat.{◌*◌, ◌+◌, ◌-◌, ◌≤◌}
use Rattle.base.specs.Search.{sum_from}
use Rattle.ranges.specs.Ranges.{high, low}
use Rattle.spans.proofs.half_span.Given as goal

abbrev pub invariant-loop-i : goal.invariant-loop-i
invariant-loop-i l =
    (l.i ≤ 4)
    × ((l.half ≤ 4)
    × (((l.least ≤ (l.i + 1) * 4294967295) × (l.most ≤ (l.i + 1) * 4294967295))
    × ((l.least + sum_from (low l.e) (l.half + l.i) (4 - l.i) ≡ l.extra + sum_from (low l.e) l.half 4)
    × (l.most + sum_from (high l.e) (l.half + l.i) (4 - l.i) ≡ l.extra + sum_from (high l.e) l.half 4))))
