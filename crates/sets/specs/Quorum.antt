-- What it means that a set has so many members, and quorum intersection, the statement: any two quorums share a correct vault. A quorum is
-- a set of n - b vaults out of n, and at most b vaults are faulty. `proofs/Size` and `proofs/Quorum` prove it.
use Rattle.std.specs.Prelude.{List, ◌≡◌, true, false, ℕ, ◌-◌, ◌*◌, ◌^◌, ◌≤◌, ◌<◌, length}
use Rattle.std.specs.Int.Count.{ones}
use Rattle.base.specs.Lists.{Distinct, In}
use Rattle.sets.specs.Bits.{has_bit}

-- so many different members can be listed
pub record AtLeast (m s : ℕ) : Type 0 where
  pub members : List ℕ
  pub once : Distinct members
  pub each : (i : ℕ) → In i members → has_bit s i ≡ true
  pub enough : m ≤ length members

-- a correct vault below n that is in both sets
pub record SharedCorrect (n first second faulty : ℕ) : Type 0 where
  pub vault : ℕ
  pub below : vault < n
  pub in_first : has_bit first vault ≡ true
  pub in_second : has_bit second vault ≡ true
  pub correct : has_bit faulty vault ≡ false

abbrev pub QuorumsMeet : Type 0
QuorumsMeet =
    (n b x y f : ℕ)
    → 3 * b < n
    → x < 2 ^ n
    → y < 2 ^ n
    → f < 2 ^ n
    → n - b ≤ ones x
    → n - b ≤ ones y
    → ones f ≤ b
    → SharedCorrect n x y f
