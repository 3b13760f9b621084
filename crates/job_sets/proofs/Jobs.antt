-- The laws of sets of jobs. A job is a bit of one of the two words, or of none from 128 on; in each case the law is the
-- one that `Bits` has for a word, and the other word is as it was.
use mathlib.Core.Bool.{Bool, ◌&&◌, ◌||◌, cond, false, not, true, true≢false}
use mathlib.Core.Logic.{◌≢◌, ◌⊎◌, inl, inr, ⊎_elim}
use mathlib.Core.Path.{◌∙◌, ◌≡◌, ap, ap₂, refl, sym}
use Prim.Native.Nat.{◌+◌, ◌-◌, ◌<◌, ◌^◌, ◌≤◌, suc, zero, zero-le, ℕ}
use native.Mathlib.Omega.{arith}
use lib.Bits.{and_le_r, bit_and, or_lt}
use lib.Count.{ones}
use lib.Dec.{eqb, ltb}
use borrow.Author.Tests.{eqb-false, eqb-true, le-ltb, lt-ltb, ltb-false, ltb-true}
use Rattle.base.proofs.Reflect.{by_cases, by_test, reflect_as, reflect_or, reflect_true, reflects_same}
use Rattle.base.proofs.Search.{reflect_any, sum_append, sum_from_lem, sum_same}
use Rattle.base.specs.Reflect.{Reflects}
use Rattle.base.specs.Search.{Every, Some, any_below, sum_from}
use Rattle.sets.proofs.Bits.{bit_of_has, has_common, has_none, has_union, has_with_other, has_with_same, has_without_other, has_without_same}
use Rattle.sets.proofs.Bits.{members_same, ones_counts, ones_with, reflect_some, with_again, with_lt, without_absent, without_lt}
use Rattle.sets.specs.Bits.{bit, has_bit, with_bit, without_bit}
use Rattle.job_sets.specs.Jobs.{InWords, change_at, job_count, job_has, job_union, job_with, job_without, jobs_below, jobs_common, jobs_meet, no_jobs}
use Rattle.job_sets.specs.declared.job_set.JobSet.{JobSet}

-- ---- the word of a job

pub in_low : (s : JobSet) (i : ℕ) → i < 64 → job_has s i ≡ has_bit s.low i
unfolding job_has
in_low s i h = simp (lt-ltb i 64 h)

pub in_high : (s : JobSet) (i : ℕ) → i < 64 → job_has s (64 + i) ≡ has_bit s.high i
unfolding job_has
in_high s i h =
    let e : 64 + i - 64 ≡ i = omega arith in
    simp (le-ltb (64 + i) 64 (omega arith), lt-ltb (64 + i) 128 (omega arith), e)

-- no job of 128 or more is a member
pub job_beyond : (s : JobSet) (i : ℕ) → 128 ≤ i → job_has s i ≡ false
unfolding job_has
job_beyond s i h = simp (le-ltb i 64 (omega arith), le-ltb i 128 h)

pub job_below : (s : JobSet) (i : ℕ) → job_has s i ≡ true → i < 128
job_below s i h = by_test (ltb i 128) (ltb-true i 128) (λ e. absurd (true≢false (sym h ∙ job_beyond s i (ltb-false i 128 e))))

-- it is in the low word, in the high one, or in none
word_cases : {P : Type 0} (i : ℕ)
    → (ltb i 64 ≡ true → P) → (ltb i 64 ≡ false → ltb i 128 ≡ true → P) → (ltb i 64 ≡ false → ltb i 128 ≡ false → P) → P
word_cases i low high none = by_test (ltb i 64) low (λ a. by_test (ltb i 128) (high a) (none a))

-- ---- a change of one bit

-- the ways through it: one word is changed, the other is as it was
module _ (change : ℕ → ℕ → ℕ) (s : JobSet) (i x : ℕ) where
  pub change_low : i < 64 → x ≡ change s.low i → record { low = x; high = s.high } ≡ change_at change s i
  change_low h e = simp (lt-ltb i 64 h, e)

  pub change_high : 64 ≤ i → i < 128 → x ≡ change s.high (i - 64) → record { low = s.low; high = x } ≡ change_at change s i
  change_high l h e = simp (le-ltb i 64 l, lt-ltb i 128 h, e)

  pub change_none : 64 ≤ i → 128 ≤ i → s ≡ change_at change s i
  change_none l h = simp (le-ltb i 64 l, le-ltb i 128 h)

pub ruleset changes = (change_low, change_high, change_none)

-- a change that leaves the other bits of a word leaves the other jobs
change_other : (change : ℕ → ℕ → ℕ) → ((s i j : ℕ) → j ≢ i → has_bit (change s i) j ≡ has_bit s j)
    → (s : JobSet) (i j : ℕ) → j ≢ i → job_has (change_at change s i) j ≡ job_has s j
unfolding job_has
change_other change other s i j ne = go (ltb i 64) (ltb i 128) (ltb j 64) refl refl refl
  where
    go : (a b c : Bool) → ltb i 64 ≡ a → ltb i 128 ≡ b → ltb j 64 ≡ c → job_has (change_at change s i) j ≡ job_has s j
    go true b true ea eb ec = simp (ea, ec, other s.low i j ne)
    go true b false ea eb ec = simp (ea, ec)
    go false true true ea eb ec = simp (ea, eb, ec)
    go false true false ea eb ec =
        let apart : j - 64 ≢ i - 64 = λ e. ne (omega (arith, ltb-false i 64 ea, ltb-false j 64 ec)) in
        simp (ea, eb, ec, other s.high (i - 64) (j - 64) apart)
    go false false c ea eb ec = simp (ea, eb)

-- a change that keeps a word within 64 bits keeps both
change_words : (change : ℕ → ℕ → ℕ) → ((s i : ℕ) → s < 2 ^ 64 → i < 64 → change s i < 2 ^ 64)
    → (s : JobSet) (i : ℕ) → InWords s → InWords (change_at change s i)
change_words change fits s i w =
    word_cases i
    (λ a. simp a (record { low_fits = fits s.low i w.low_fits (ltb-true i 64 a); high_fits = w.high_fits }))
    (λ a b.
    let l : i - 64 < 64 = omega (arith, ltb-false i 64 a, ltb-true i 128 b) in
    simp (a, b) (record { low_fits = w.low_fits; high_fits = fits s.high (i - 64) w.high_fits l }))
    (λ a b. simp (a, b) w)

-- ---- members

pub has_no_jobs : (i : ℕ) → job_has no_jobs i ≡ false
unfolding job_has no_jobs
has_no_jobs i = word_cases i (λ a. simp (a, has_none)) (λ a b. simp (a, b, has_none)) (λ a b. simp (a, b))

pub job_with_same : (s : JobSet) (i : ℕ) → i < 128 → job_has (job_with s i) i ≡ true
unfolding job_has job_with
job_with_same s i h = by_test (ltb i 64) (λ a. simp (a, has_with_same)) (λ a. simp (a, lt-ltb i 128 h, has_with_same))

pub job_with_other : (s : JobSet) (i j : ℕ) → j ≢ i → job_has (job_with s i) j ≡ job_has s j
unfolding job_with
job_with_other = change_other with_bit has_with_other

pub job_without_same : (s : JobSet) (i : ℕ) → job_has (job_without s i) i ≡ false
unfolding job_has job_without
job_without_same s i = word_cases i (λ a. simp (a, has_without_same)) (λ a b. simp (a, b, has_without_same)) (λ a b. simp (a, b))

pub job_without_other : (s : JobSet) (i j : ℕ) → j ≢ i → job_has (job_without s i) j ≡ job_has s j
unfolding job_without
job_without_other = change_other without_bit has_without_other

-- a job that is no member is not taken away
pub job_without_absent : (s : JobSet) (i : ℕ) → job_has s i ≡ false → job_without s i ≡ s
unfolding job_has job_without
job_without_absent s i h =
    word_cases i
    (λ a. simp (a, without_absent s.low i (simp a at h)))
    (λ a b. simp (a, b, without_absent s.high (i - 64) (simp (a, b) at h)))
    (λ a b. simp (a, b))

pub job_union_has : (a b : JobSet) (i : ℕ) → job_has (job_union a b) i ≡ (job_has a i || job_has b i)
unfolding job_has job_union
job_union_has a b i = word_cases i (λ l. simp (l, has_union)) (λ l h. simp (l, h, has_union)) (λ l h. simp (l, h))

pub jobs_common_has : (a b : JobSet) (i : ℕ) → job_has (jobs_common a b) i ≡ (job_has a i && job_has b i)
unfolding job_has jobs_common
jobs_common_has a b i = word_cases i (λ l. simp (l, has_common)) (λ l h. simp (l, h, has_common)) (λ l h. simp (l, h))

-- words have a bit in common
abbrev Common : ℕ → ℕ → Type 0
Common x y = Some 64 (λ i. has_bit (bit_and x y) i ≡ true)

-- the words have a bit in common where the sets have a member in common
pub meets_any : (a b : JobSet) → InWords b → jobs_meet a b ≡ any_below 128 (λ i. job_has a i && job_has b i)
unfolding jobs_meet
meets_any a b w =
    reflects_same (reflect_or (word a.low b.low w.low_fits) (word a.high b.high w.high_fits))
    (reflect_as (reflect_any 128 (λ i l. reflect_true (job_has a i && job_has b i))) into out)
  where
    word : (x y : ℕ) → y < 2 ^ 64 → Reflects (not (eqb (bit_and x y) 0)) (Common x y)
    word x y h = reflect_some 64 (bit_and x y) (omega (arith, and_le_r x y))

    low : (i : ℕ) → i < 64 → (job_has a i && job_has b i) ≡ has_bit (bit_and a.low b.low) i
    low i h = rw (in_low a i h, in_low b i h) (sym (has_common a.low b.low i))

    high : (i : ℕ) → i < 64 → (job_has a (64 + i) && job_has b (64 + i)) ≡ has_bit (bit_and a.high b.high) i
    high i h = rw (in_high a i h, in_high b i h) (sym (has_common a.high b.high i))

    into : Some 128 (λ i. (job_has a i && job_has b i) ≡ true) → Common a.low b.low ⊎ Common a.high b.high
    into m =
        by_test (ltb m.which 64)
        (λ e. let h = ltb-true m.which 64 e in inl (record { which = m.which; below = h; has = sym (low m.which h) ∙ m.has }))
        (λ e.
        let h : m.which - 64 < 64 = omega (arith, ltb-false m.which 64 e, m.below) in
        let q : 64 + (m.which - 64) ≡ m.which = omega (arith, ltb-false m.which 64 e) in
        inr (record { which = m.which - 64; below = h; has = sym (high (m.which - 64) h) ∙ rw q m.has }))

    out : Common a.low b.low ⊎ Common a.high b.high → Some 128 (λ i. (job_has a i && job_has b i) ≡ true)
    out m = ⊎_elim
        (λ s. record { which = s.which; below = omega (arith, s.below); has = low s.which s.below ∙ s.has })
        (λ s. record { which = 64 + s.which; below = omega (arith, s.below); has = high s.which s.below ∙ s.has })
        m

-- to add a member changes nothing
pub job_with_again : (s : JobSet) (i : ℕ) → job_has s i ≡ true → job_with s i ≡ s
unfolding job_has job_with
job_with_again s i h =
    word_cases i
    (λ a. simp (a, with_again s.low i (simp a at h)))
    (λ a b. simp (a, b, with_again s.high (i - 64) (simp (a, b) at h)))
    (λ a b. simp (a, b))

-- members stay
pub job_with_keeps : (s : JobSet) (i j : ℕ) → job_has s j ≡ true → job_has (job_with s i) j ≡ true
job_with_keeps s i j h =
    by_test (eqb j i)
    (λ e. ap (λ (k : ℕ). job_has (job_with s k) j) (sym (eqb-true j i e)) ∙ job_with_same s j (job_below s j h))
    (λ e. job_with_other s i j (eqb-false j i e) ∙ h)

-- ---- how many

-- a new job is one more
pub job_count_with : (s : JobSet) (i : ℕ) → i < 128 → job_has s i ≡ false → job_count (job_with s i) ≡ suc (job_count s)
unfolding job_has job_with job_count
job_count_with s i l h =
    let b = lt-ltb i 128 l in
    by_test (ltb i 64)
    (λ a. simp (a, ones_with s.low i (simp a at h)) (omega arith))
    (λ a. simp (a, b, ones_with s.high (i - 64) (simp (a, b) at h)) (omega arith))

-- ---- the words

pub no_jobs_words : InWords no_jobs
unfolding no_jobs
no_jobs_words = record { low_fits = omega arith; high_fits = omega arith }

pub with_words : (s : JobSet) (i : ℕ) → InWords s → InWords (job_with s i)
unfolding job_with
with_words = change_words with_bit (with_lt 64)

pub without_words : (s : JobSet) (i : ℕ) → InWords s → InWords (job_without s i)
unfolding job_without
without_words = change_words without_bit (λ s i h l. without_lt 64 s i h)

pub union_words : (a b : JobSet) → InWords a → InWords b → InWords (job_union a b)
unfolding job_union
union_words a b u v = record {
  low_fits = or_lt 64 a.low b.low u.low_fits v.low_fits;
  high_fits = or_lt 64 a.high b.high u.high_fits v.high_fits;
}

pub common_words : (a b : JobSet) → InWords b → InWords (jobs_common a b)
unfolding jobs_common
common_words a b w = record {
  low_fits = omega (arith, and_le_r a.low b.low, w.low_fits);
  high_fits = omega (arith, and_le_r a.high b.high, w.high_fits);
}

-- ---- the jobs below n that pass

pub jobs_below_words : (n : ℕ) (p : ℕ → Bool) → InWords (jobs_below n p)
unfolding jobs_below
jobs_below_words zero p = no_jobs_words
jobs_below_words (suc n) p =
    by_cases (λ b. InWords (cond b (job_with (jobs_below n p) n) (jobs_below n p))) (p n) (λ _. with_words _ n (jobs_below_words n p)) (λ _. jobs_below_words n p)

one_more : (n : ℕ) (p : ℕ → Bool) (s : JobSet) (i : ℕ) → i < 128 → job_has s i ≡ (ltb i n && p i)
    → job_has (cond (p n) (job_with s n) s) i ≡ (ltb i (suc n) && p i)
one_more n p s i h r = by_test (eqb i n) last other
  where
    last : eqb i n ≡ true → job_has (cond (p n) (job_with s n) s) i ≡ (ltb i (suc n) && p i)
    last e =
        let at : n ≡ i = sym (eqb-true i n e) in
        let r' : job_has s i ≡ false = r ∙ simp (le-ltb i n (omega arith)) in
        rw at (by_cases (λ b. p i ≡ b → job_has (cond b (job_with s i) s) i ≡ (ltb i (suc i) && b)) (p i)
        (λ _ q. job_with_same s i h ∙ sym (simp (lt-ltb i (suc i) (omega arith)))) (λ _ q. r' ∙ sym (simp (lt-ltb i (suc i) (omega arith)))) refl)

    other : eqb i n ≡ false → job_has (cond (p n) (job_with s n) s) i ≡ (ltb i (suc n) && p i)
    other e =
        let ne = eqb-false i n e in
        let past : (ltb i n && p i) ≡ (ltb i (suc n) && p i) = by_test (ltb i n)
        (λ a. simp (a, lt-ltb i (suc n) (omega (arith, ltb-true i n a))))
        (λ a. simp (a, le-ltb i (suc n) (omega (arith, ltb-false i n a)))) in
        by_cases (λ b. job_has (cond b (job_with s n) s) i ≡ (ltb i (suc n) && p i)) (p n) (λ _. job_with_other s n i ne ∙ (r ∙ past)) (λ _. r ∙ past)

pub has_jobs_below : (n : ℕ) (p : ℕ → Bool) (i : ℕ) → i < 128 → job_has (jobs_below n p) i ≡ (ltb i n && p i)
unfolding jobs_below
has_jobs_below zero p i h = has_no_jobs i ∙ simp (le-ltb i 0 (omega arith))
has_jobs_below (suc n) p i h = one_more n p (jobs_below n p) i h (has_jobs_below n p i h)

-- sets with the same members are equal
pub jobs_same : (a b : JobSet) → InWords a → InWords b → Every 128 (λ i. job_has a i ≡ job_has b i) → a ≡ b
jobs_same a b u v h = ap₂ (λ (x y : ℕ). record { low = x; high = y }) low high
  where
    low : a.low ≡ b.low
    low =
        members_same 64 a.low b.low u.low_fits v.low_fits
        (λ i l. sym (in_low a i l) ∙ h i (omega arith) ∙ in_low b i l)

    high : a.high ≡ b.high
    high =
        members_same 64 a.high b.high u.high_fits v.high_fits
        (λ i l. sym (in_high a i l) ∙ h (64 + i) (omega arith) ∙ in_high b i l)

-- 1 for a member
abbrev member : JobSet → ℕ → ℕ
member s i = cond (job_has s i) 1 0

-- the count is the number of members below 128
pub job_count_counts : (s : JobSet) → InWords s → job_count s ≡ sum_from (λ i. cond (job_has s i) 1 0) 0 128
unfolding job_count
job_count_counts s w = ap₂ (λ (x y : ℕ). x + y) low high ∙ sym (sum_append (member s) 0 64 64)
  where
    at : (word i j : ℕ) → job_has s j ≡ has_bit word i → bit word i ≡ member s j
    at word i j e = bit_of_has word i ∙ ap (λ (t : Bool). cond t 1 0) (sym e)

    low : ones s.low ≡ sum_from (member s) 0 64
    low =
        ones_counts 64 s.low w.low_fits
        ∙ sum_same (λ i. bit s.low i) (member s) 0 64 (λ i _ l. at s.low i i (in_low s i (omega arith)))

    high : ones s.high ≡ sum_from (member s) (0 + 64) 64
    high =
        ones_counts 64 s.high w.high_fits
        ∙ sum_same (λ i. bit s.high i) (λ i. member s (64 + i)) 0 64
        (λ i _ l. at s.high i (64 + i) (in_high s i (omega arith)))
        ∙ sym (sum_from_lem (member s) 64 0 64)

-- ---- a set within another

-- each member of a is one of b
abbrev pub Within : JobSet → JobSet → Type 0
Within a b = (i : ℕ) → job_has a i ≡ true → job_has b i ≡ true

member_le : (a b : JobSet) → Within a b → (i : ℕ) → member a i ≤ member b i
member_le a b h i =
    by_cases (λ x. job_has a i ≡ x → cond x 1 0 ≤ member b i) (job_has a i) (λ _ e. simp (h i e) (omega arith)) (λ _ e. zero-le) refl

sums_le : (f g : ℕ → ℕ) → ((i : ℕ) → f i ≤ g i) → (n k : ℕ) → sum_from f n k ≤ sum_from g n k
unfolding sum_from
sums_le f g h n zero = zero-le
sums_le f g h n (suc k) = omega (arith, h n, sums_le f g h (suc n) k)

-- sums that are the same, of terms that are not larger
sums_tight : (f g : ℕ → ℕ) → ((i : ℕ) → f i ≤ g i) → (n k : ℕ) → sum_from g n k ≤ sum_from f n k → (i : ℕ) → n ≤ i → i < n + k → g i ≡ f i
unfolding sum_from
sums_tight f g h n zero q i a b = absurd (omega arith)
sums_tight f g h n (suc k) q i a b =
    by_test (eqb i n)
    (λ e. rw (eqb-true i n e) (omega (arith, h n, sums_le f g h (suc n) k)))
    (λ e.
    let past : suc n ≤ i = omega (arith, eqb-false i n e) in
    sums_tight f g h (suc n) k (omega (arith, h n, q)) i past (omega arith))

pub count_within : (a b : JobSet) → InWords a → InWords b → Within a b → job_count a ≤ job_count b
count_within a b u v h =
    omega (arith, job_count_counts a u, job_count_counts b v, sums_le (member a) (member b) (member_le a b h) 0 128)

-- a set that is within another of no more members is that set
pub within_same : (a b : JobSet) → InWords a → InWords b → Within a b → job_count b ≤ job_count a → b ≡ a
within_same a b u v h q = jobs_same b a v u (λ i l. same i (job_has b i) (job_has a i) refl refl
    (sums_tight (member a) (member b) (member_le a b h) 0 128 (omega (arith, job_count_counts a u, job_count_counts b v, q)) i zero-le (omega arith)))
  where
    same : (i : ℕ) (x y : Bool) → job_has b i ≡ x → job_has a i ≡ y → member b i ≡ member a i → x ≡ y
    same i true true ex ey e = refl
    same i false false ex ey e = refl
    same i true false ex ey e = let z : ◌≡◌ {A = ℕ} 1 0 = simp (ex, ey) at e in absurd (omega arith)
    same i false true ex ey e = let z : ◌≡◌ {A = ℕ} 0 1 = simp (ex, ey) at e in absurd (omega arith)

-- one member more at most
pub count_with : (s : JobSet) (i : ℕ) → i < 128 → job_count (job_with s i) ≤ suc (job_count s)
count_with s i h =
    by_test (job_has s i)
    (λ e. let q : job_count (job_with s i) ≡ job_count s = ap job_count (job_with_again s i e) in omega (arith, q))
    (λ e. omega (arith, job_count_with s i h e))
