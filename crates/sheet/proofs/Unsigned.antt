-- The vaults that have not signed, found one after another.
use mathlib.Core.Bool.{Bool, false, not, true}
use mathlib.Core.Path.{◌∙◌, ◌≡◌, ap, sym}
use Prim.Native.Nat.{◌+◌, ◌≤◌, ℕ}
use native.Mathlib.Numerals.{add-one}
use native.Mathlib.Omega.{arith}
use Rattle.explanations.specs.Answers.{to_sign}
use Rattle.sets.specs.Bits.{has_bit}
use Rattle.job_sets.specs.Jobs.{job_with, jobs_below, no_jobs}
use Rattle.job_sets.specs.declared.job_set.JobSet.{JobSet}

abbrev pub unsigned : ℕ → ℕ → Bool
unsigned signers v = not (has_bit signers v)

module _ (signers : ℕ) where
  pub sign_begun : (found : JobSet) → found ≡ no_jobs → found ≡ jobs_below 0 (unsigned signers)
  unfolding jobs_below
  sign_begun found e = e

  module _ (v : ℕ) (found : JobSet) (e : found ≡ jobs_below v (unsigned signers)) (b : Bool) (is : b ≡ has_bit signers v) where
    pub sign_pass : b ≡ true → found ≡ jobs_below (v + 1) (unsigned signers)
    unfolding jobs_below
    sign_pass t = rw add-one (rw (sym is ∙ t) e)

    pub sign_more : (r : JobSet) → b ≡ false → r ≡ job_with found v → r ≡ jobs_below (v + 1) (unsigned signers)
    unfolding jobs_below
    sign_more r t q = rw add-one (rw (sym is ∙ t) (q ∙ ap (λ (x : JobSet). job_with x v) e))

  pub sign_end : (n v : ℕ) (found : JobSet) → found ≡ jobs_below v (unsigned signers) → v ≤ n → n ≤ v → found ≡ to_sign n signers
  unfolding to_sign
  sign_end n v found e a b = let q : v ≡ n = omega arith in e ∙ ap (λ (m : ℕ). jobs_below m (unsigned signers)) q

pub ruleset signs = (sign_begun, sign_pass, sign_more, sign_end)
