-- A record has 100 bytes or 104, and records stand one after the other. Products of two numbers stay inside this file: a law about the size is
-- shown for either number, and what is said of places is said by `place_of` and `whole_in`.
use mathlib.Core.Bool.{cond, true}
use mathlib.Core.Path.{◌≡◌}
use Prim.Native.Nat.{◌*◌, ◌+◌, ◌/◌, ◌<◌, ◌≤◌, suc, ℕ}
use native.Mathlib.Omega.{arith}
use Rattle.base.proofs.Reflect.{by_cases}
use Rattle.codec.specs.Codec.{place_of, record_size, says_trimmed, whole_in}

-- what holds of 100 and of 104 holds of a record's size
pub sized : (P : ℕ → Type 0) (version : ℕ) → P 100 → P 104 → P (record_size version)
unfolding record_size
sized P version a b = by_cases (λ t. P (cond t 104 100)) (says_trimmed version) (λ _. b) (λ _. a)

pub trimmed_size : (version : ℕ) → says_trimmed version ≡ true → record_size version ≡ 104
unfolding record_size
trimmed_size version e = simp e

module _ (version : ℕ) where
  pub size_least : 100 ≤ record_size version
  size_least = sized (λ m. 100 ≤ m) version (omega arith) (omega arith)

  pub size_most : record_size version ≤ 104
  size_most = sized (λ m. m ≤ 104) version (omega arith) (omega arith)

  pub place_first : place_of version 0 ≡ 0
  unfolding place_of
  place_first = sized (λ m. m * 0 ≡ 0) version (omega arith) (omega arith)

  -- the next record begins where one ends
  pub place_next : (k : ℕ) → place_of version (k + 1) ≡ place_of version k + record_size version
  unfolding place_of
  place_next k = sized (λ m. m * (k + 1) ≡ m * k + m) version (omega arith) (omega arith)

  pub place_suc : (k : ℕ) → place_of version (suc k) ≡ place_of version k + record_size version
  unfolding place_of
  place_suc k = sized (λ m. m * suc k ≡ m * k + m) version (omega arith) (omega arith)

  -- a record ends before a later one begins
  pub place_before : (k n : ℕ) → k < n → place_of version k + record_size version ≤ place_of version n
  unfolding place_of
  place_before k n h = sized (λ m. m * k + m ≤ m * n) version (omega arith) (omega arith)

  pub place_mono : (k n : ℕ) → k ≤ n → place_of version k ≤ place_of version n
  unfolding place_of
  place_mono k n h = sized (λ m. m * k ≤ m * n) version (omega arith) (omega arith)

  pub place_most : (k : ℕ) → place_of version k ≤ 104 * k
  unfolding place_of
  place_most k = sized (λ m. m * k ≤ 104 * k) version (omega arith) (omega arith)

  -- n bytes hold k whole records exactly if record k begins within them
  pub whole_place : (k n : ℕ) → k ≤ whole_in version n → place_of version k ≤ n
  unfolding place_of whole_in
  whole_place k n = sized (λ m. k ≤ n / m → m * k ≤ n) version (λ h. omega (arith, h)) (λ h. omega (arith, h))

  pub place_whole : (k n : ℕ) → place_of version k ≤ n → k ≤ whole_in version n
  unfolding place_of whole_in
  place_whole k n = sized (λ m. m * k ≤ n → k ≤ n / m) version (λ h. omega (arith, h)) (λ h. omega (arith, h))

  -- and one more, if record k ends within them
  pub whole_room : (k n : ℕ) → k < whole_in version n → place_of version k + record_size version ≤ n
  unfolding place_of whole_in
  whole_room k n = sized (λ m. k < n / m → m * k + m ≤ n) version (λ h. omega (arith, h)) (λ h. omega (arith, h))

  pub room_whole : (k n : ℕ) → place_of version k + record_size version ≤ n → k < whole_in version n
  unfolding place_of whole_in
  room_whole k n = sized (λ m. m * k + m ≤ n → k < n / m) version (λ h. omega (arith, h)) (λ h. omega (arith, h))

  pub whole_short : (k n : ℕ) → whole_in version n ≤ k → n < place_of version k + record_size version
  unfolding place_of whole_in
  whole_short k n = sized (λ m. n / m ≤ k → n < m * k + m) version (λ h. omega (arith, h)) (λ h. omega (arith, h))
