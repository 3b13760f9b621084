-- What the vaults so far hold, the faulty ones left out.
use mathlib.Core.Path.{◌≡◌}
use Prim.Native.Nat.{◌-◌, ◌≤◌}
use Rattle.ledger.specs.Holders.{held_below}
use Rattle.dependencies.proofs.missing.held_somewhere.Given as goal

abbrev pub invariant-loop-v : goal.invariant-loop-v
invariant-loop-v l = (l.v ≤ l.settings.n) × (l.jobs ≡ held_below l.settings l.vaults l.v)

abbrev pub decreases-loop-v : goal.decreases-loop-v
decreases-loop-v l = l.settings.n - l.v
