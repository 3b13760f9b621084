-- The vaults so far are those below the present one that have not signed.
use mathlib.Core.Path.{◌≡◌}
use Prim.Native.Nat.{◌≤◌}
use Rattle.job_sets.specs.Jobs.{jobs_below}
use Rattle.sheet.proofs.Unsigned.{unsigned}
use Rattle.sheet.proofs.to_sign.Given as goal

abbrev pub invariant-loop-v : goal.invariant-loop-v
invariant-loop-v l = (l.v ≤ l.n) × (l.found ≡ jobs_below l.v (unsigned l.signers))
