-- The federation ("The ledger and its words"): n vaults, of which b may be faulty, and the set of those that are; and the version of its
-- records, which "a book and its sequence of steps have" once (M-102).
use Rattle.std.specs.Prelude.{Bool, ◌&&◌, ℕ, ◌-◌, ◌*◌, ◌^◌, ◌<◌, ◌≤◌, leb, ltb}
use Rattle.std.specs.Int.Count.{ones}
use Rattle.federation.specs.declared.Settings.{Settings}

-- the highest version there is
abbrev pub latest : ℕ
latest = 2

-- a reader that knows the versions up to the highest knows this one
unfoldable pub is_known : ℕ → ℕ → Bool
is_known highest version = leb 1 version && leb version highest

-- "1 ≤ n ≤ 16, and a bound b with 3b < n"; the faulty set "names at most b, all below n". That n is at least 1 follows.
unfoldable pub is_federation : Settings → Bool
is_federation s =
    leb s.n 16 && (ltb (3 * s.b) s.n && (ltb s.faulty (2 ^ s.n) && leb (ones s.faulty) s.b))

-- as a reader allows them that knows the versions up to the highest
unfoldable pub is_lawful_up_to : ℕ → Settings → Bool
is_lawful_up_to highest s = is_known highest s.version && is_federation s

abbrev pub is_lawful : Settings → Bool
is_lawful s = is_lawful_up_to latest s

-- "Threshold and quorum are both n − b"
unfoldable pub threshold_of : Settings → ℕ
threshold_of s = s.n - s.b

-- settings that document 01 allows, said without a test
pub record Lawful (s : Settings) : Type 0 where
  pub vaults : s.n ≤ 16
  pub few : 3 * s.b < s.n
  pub below : s.faulty < 2 ^ s.n
  pub bound : ones s.faulty ≤ s.b
  pub version : (1 ≤ s.version) × (s.version ≤ latest)
