-- What each answer means, for choices of counts (document 02, M-110). No formula of the answer stands here.
use Rattle.std.specs.Prelude.{List, ◌≡◌, ℕ, ◌+◌, ◌≤◌, ◌<◌, length, Ok}
use Rattle.base.specs.Search.{Every, Least, sum_from}
use Rattle.outcome.specs.declared.Refusal.TheVariants.{Malformed, Repeated, Unsupported, Reversed, NoneBalances}
use Rattle.record.specs.Meaning.{Label, Used}
use Rattle.checks.specs.Meaning.{Nowhere, RepeatedAt, UnsupportedAt, WellFormed, takes}
use Rattle.ranges.specs.declared.Estimate.{Estimate}
use Rattle.ranges.specs.declared.Range.{Range}
use Rattle.ranges.specs.declared.Tightened.{Tightened}
use Rattle.ranges.specs.Form.{lowest_job}
use Rattle.ranges.specs.Ranges.{low, high, range_at}
use Rattle.ranges.specs.Tighten.{refuse}

-- 6
pub record Formed (e : Estimate) : Type 0 where
  pub job : WellFormed Label (lowest_job e)
  pub unused : Every 8 (λ i. (Used (lowest_job e) i → ⊥) → high e i ≡ 0)

-- 6 to 8 pass
pub record Fit (e : Estimate) : Type 0 where
  pub formed : Formed e
  pub apart : Nowhere (RepeatedAt (lowest_job e))
  pub supported : Nowhere (UnsupportedAt takes (lowest_job e))

-- 24, at entry i
abbrev pub ReversedAt : Estimate → ℕ → Type 0
ReversedAt e i = high e i < low e i

-- x gives each entry a count within its range, and in a migration what goes in is what comes out and what is trimmed
pub record Balancing (e : Estimate) (x : ℕ → ℕ) : Type 0 where
  pub within : Every 8 (λ i. (low e i ≤ x i) × (x i ≤ high e i))
  pub balances : e.kind ≡ 1 → sum_from x 0 4 ≡ sum_from x 4 4 + e.trimmed

-- some balancing choice gives entry i the count v
abbrev pub Possible : Estimate → ℕ → ℕ → Type 0
Possible e i v = (x : ℕ → ℕ) × Balancing e x × (x i ≡ v)

-- "both ends occur in a balancing choice, so does every number between, and none outside does"
pub record Tightest (e : Estimate) (ranges : List Range) : Type 0 where
  pub eight : length ranges ≡ 8
  pub lowest : Every 8 (λ i. Possible e i (range_at ranges i).lowest)
  pub highest : Every 8 (λ i. Possible e i (range_at ranges i).highest)
  pub between : Every 8 (λ i. (v : ℕ) → (range_at ranges i).lowest ≤ v → v ≤ (range_at ranges i).highest → Possible e i v)
  pub none_outside : Every 8 (λ i. (v : ℕ) → Possible e i v → ((range_at ranges i).lowest ≤ v) × (v ≤ (range_at ranges i).highest))

-- what each answer says: the first check that fails, at the first entry that offends, else the tightest ranges
pub data Told (e : Estimate) : Tightened → Type 0 where
  malformed : (Formed e → ⊥) → Told e (refuse Malformed e)
  repeated : (i : ℕ) → Formed e → Least 8 (RepeatedAt (lowest_job e)) i → Told e (refuse (Repeated i) e)
  unsupported : (i : ℕ) → Formed e → Nowhere (RepeatedAt (lowest_job e)) → Least 8 (UnsupportedAt takes (lowest_job e)) i → Told e (refuse (Unsupported i) e)
  reversed : (i : ℕ) → Fit e → Least 8 (ReversedAt e) i → Told e (refuse (Reversed i) e)
  none_balances : Fit e → Nowhere (ReversedAt e) → ((x : ℕ → ℕ) → Balancing e x → ⊥) → Told e (refuse NoneBalances e)
  tightened : Fit e → Nowhere (ReversedAt e) → (ranges : List Range) → Tightest e ranges → Told e (record { outcome = Ok 0; ranges = ranges })
