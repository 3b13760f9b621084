-- Quorum intersection: two sets of n - b out of n vaults, of which at most b are faulty, share a correct vault where
-- 3b < n. The two have 2n - 2b members between them, so that at least n - 2b vaults stand in both; that is more than b,
-- and no more than b of those can be faulty. The proof goes through the bits, the lowest first: where the lowest
-- vault is not the one that is looked for, the rest of the vaults still have members enough.
use mathlib.Core.Path.{ap, ◌∙◌}
use Prim.Native.Nat.{ℕ, zero, suc, ◌+◌, ◌-◌, ◌/◌, ◌%◌, ◌^◌, ◌<◌}
use native.Mathlib.Omega.{arith}
use lib.Dec.{eqb}
use lib.Count.{ones, ones_step, ones-ones}
use lib.Arith.{lt-one}
use borrow.Author.Tests.{eqb-true, eqb-false}
use Rattle.base.proofs.Reflect.{by_test}
use Rattle.sets.specs.Quorum.{SharedCorrect, QuorumsMeet}
use Rattle.sets.proofs.Bits.{bit_zero, reflect_has, absent_of_bit, has_suc}

-- sets with more members between them than there are vaults and faulty vaults share a correct one
pub overlap : (n x y f : ℕ) → x < 2 ^ n → y < 2 ^ n → f < 2 ^ n → n + ones f < ones x + ones y → SharedCorrect n x y f
overlap zero x y f hx hy hf h =
    absurd (omega (arith, ap ones (lt-one hx), ap ones (lt-one hy), ap ones (lt-one hf), ones-ones 0))
overlap (suc n) x y f hx hy hf h =
    -- vault 0 is in both and correct, or the rest has members enough
    by_test (eqb (x % 2 + y % 2 + (1 - f % 2)) 3)
    (λ e.
    let d = eqb-true (x % 2 + y % 2 + (1 - f % 2)) 3 e in
    record {
      vault = zero;
      below = omega arith;
      in_first = (reflect_has x 0).complete (bit_zero x ∙ omega arith);
      in_second = (reflect_has y 0).complete (bit_zero y ∙ omega arith);
      correct = absent_of_bit f 0 (bit_zero f ∙ omega arith);
    })
    (λ e.
    let more = eqb-false (x % 2 + y % 2 + (1 - f % 2)) 3 e in
    further (overlap n (x / 2) (y / 2) (f / 2) (omega arith) (omega arith) (omega arith) (omega (arith, more, ones_step x, ones_step y, ones_step f))))
  where
    -- a vault that the halves share is one higher in the whole sets
    further : SharedCorrect n (x / 2) (y / 2) (f / 2) → SharedCorrect (suc n) x y f
    further r =
        let v = r.vault in
        record {
          vault = suc v;
          below = omega (arith, r.below);
          in_first = has_suc x v ∙ r.in_first;
          in_second = has_suc y v ∙ r.in_second;
          correct = has_suc f v ∙ r.correct;
        }

pub quorums_meet : QuorumsMeet
quorums_meet n b x y f most hx hy hf qx qy qf = overlap n x y f hx hy hf (omega arith)
