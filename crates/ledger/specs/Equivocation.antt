-- Which vaults equivocate (document 02, M-113; its word is two-faced): "each vault whose recorded signatures include two rival jobs neither of which has a
-- certified rival outside that pair". "The outside clause is there because a sound vault that released a superseded job may sign again for the tapes it freed."
use Rattle.std.specs.Prelude.{Bool, ◌&&◌, not, true, ◌≢◌, ◌≡◌, ◌<◌, ◌≤◌, ℕ, eqb, leb}
use Rattle.std.specs.Int.Count.{ones}
use Rattle.base.specs.Search.{any_below}
use Rattle.conflicts.specs.Conflicts.{is_rival}
use Rattle.conflicts.specs.Meaning.{Rivals}
use Rattle.federation.specs.Federation.{threshold_of}
use Rattle.federation.specs.declared.Settings.{Settings}
use Rattle.record.specs.declared.Job.{Job}
use Rattle.sets.specs.Bits.{has_bit}
use Rattle.job_sets.specs.Jobs.{jobs_below}
use Rattle.job_sets.specs.declared.job_set.JobSet.{JobSet}

-- "A job is certified with n − b signatures": of the vaults whose signature of it is recorded
unfoldable pub is_certified : Settings → (ℕ → ℕ) → ℕ → Bool
is_certified s signers k = leb (threshold_of s) (ones (signers k))

-- ---- the rule, as it is tested: over the settings, the recorded signatures and the booked jobs
module _ (s : Settings) (signers : ℕ → ℕ) (job : ℕ → Job) (booked : ℕ) where
  -- m is a certified rival of i, and not k
  unfoldable pub excuses : ℕ → ℕ → ℕ → Bool
  excuses i k m = not (eqb m k) && (is_certified s signers m && is_rival job i m)

  -- i has a certified rival other than k
  unfoldable pub is_excused : ℕ → ℕ → Bool
  is_excused i k = any_below booked (excuses i k)

  -- "two rival jobs neither of which has a certified rival outside that pair"; no job is its own rival
  unfoldable pub is_unexcused : ℕ → ℕ → Bool
  is_unexcused i k = is_rival job i k && (not (is_excused i k) && not (is_excused k i))

  -- the vault's recorded signatures include both
  unfoldable pub signed_both : ℕ → ℕ → ℕ → Bool
  signed_both v i k = has_bit (signers i) v && (has_bit (signers k) v && is_unexcused i k)

  unfoldable pub is_equivocating : ℕ → Bool
  is_equivocating v = any_below booked (λ i. any_below booked (signed_both v i))

  -- all of them, as a set: a vault is a number below n
  unfoldable pub equivocators : JobSet
  equivocators = jobs_below s.n is_equivocating

  -- ---- the same without a search

  -- a certified job outside the pair
  pub record Outside (i k m : ℕ) : Type 0 where
    pub known : m < booked
    pub not_first : m ≢ i
    pub not_second : m ≢ k
    pub certified : threshold_of s ≤ ones (signers m)

  -- none of them is a rival of either
  abbrev pub Unexcused : ℕ → ℕ → Type 0
  Unexcused i k = (m : ℕ) → Outside i k m → (Rivals job i m → ⊥) × (Rivals job k m → ⊥)

  pub record Equivocates (v : ℕ) : Type 0 where
    pub first : ℕ
    pub second : ℕ
    pub first_known : first < booked
    pub second_known : second < booked
    pub first_signed : has_bit (signers first) v ≡ true
    pub second_signed : has_bit (signers second) v ≡ true
    pub rivals : Rivals job first second
    pub unexcused : Unexcused first second
