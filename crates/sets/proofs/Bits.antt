-- The laws of sets as numbers, stated once over the width: the sets of vaults are the case of 16 bits, and the two words
-- of a set of jobs that of 64. Bit i + 1 of s is bit i of s / 2, so each law on bits is an induction on the bit or on
-- the width with arithmetic on halves and remainders; each law on members is one on bits.
use mathlib.Core.Bool.{Bool, ◌&&◌, ◌||◌, cond, false, not, true, true≢false}
use mathlib.Core.Logic.{◌≢◌}
use mathlib.Core.Path.{◌∙◌, ◌≡◌, ap, refl, sym}
use Prim.Native.Nat.{◌%◌, ◌*◌, ◌+◌, ◌-◌, ◌/◌, ◌<◌, ◌^◌, ◌≤◌, max, min, suc, zero, ℕ}
use native.Mathlib.Nat.{add_comm, div-div-eq-div-mul, div-eq_of_lt, div-mul-le_self, div-one, le_refl, le_trans, mod-le, mul_assoc, mul_comm}
use native.Mathlib.Nat.{mul-le-mul_right, one-mul, pow-suc, sub-zero, zero-mul}
use native.Mathlib.Numerals.{add-one}
use native.Mathlib.Omega.{arith}
use lib.Arith.{lt-one}
use lib.Bits.{and_le_l, and_shr, and_step, bit_and, bit_or, or_lt, or_shr, or_step, or_zero_r}
use lib.Count.{ones, ones-ones, ones_step}
use lib.Dec.{eqb, lit<, ltb}
use lib.Pow.{pow-lt, pow_mono, pow_pos, shl_exact}
use borrow.Author.Tests.{eq-eqb, eqb-false, eqb-true, le-ltb, lt-ltb, ltb-false, ltb-true, not-false, not-true}
use Rattle.base.proofs.Reflect.{by_cases, by_test, not_false_true}
use Rattle.base.proofs.Search.{any_elim, any_none, sum_from_lem, sum_same}
use Rattle.base.specs.Reflect.{Reflects}
use Rattle.base.specs.Search.{Every, Some, any_below, sum_from}
use Rattle.sets.specs.Bits.{bit, has_bit, subset_of, with_bit, with_member, without_bit}

-- ---- bits

-- bit i + 1 of s is bit i of s / 2
pub bit_suc : (s i : ℕ) → bit s (suc i) ≡ bit (s / 2) i
bit_suc s i =
    ap (λ (d : ℕ). s / d % 2) (pow-suc 2 i ∙ mul_comm (2 ^ i) 2)
    ∙ ap (λ (d : ℕ). d % 2) (sym (div-div-eq-div-mul s 2 (2 ^ i)))

pub bit_zero : (s : ℕ) → bit s 0 ≡ s % 2
bit_zero s = rw div-one

pub bit_lt : (s i : ℕ) → bit s i < 2
bit_lt s i = omega arith

pub bit_or_lem : (a b i : ℕ) → bit (bit_or a b) i ≡ max (bit a i) (bit b i)
bit_or_lem a b i = omega (arith, or_shr a b i, or_step (a / 2 ^ i) (b / 2 ^ i))

pub bit_and_lem : (a b i : ℕ) → bit (bit_and a b) i ≡ min (bit a i) (bit b i)
bit_and_lem a b i = omega (arith, and_shr a b i, and_step (a / 2 ^ i) (b / 2 ^ i))

pub bit_of_zero : (i : ℕ) → bit 0 i ≡ 0
bit_of_zero zero = refl
bit_of_zero (suc i) = bit_suc 0 i ∙ bit_of_zero i

-- the bits of a power
pub bit_pow_same : (i : ℕ) → bit (2 ^ i) i ≡ 1
bit_pow_same zero = refl
bit_pow_same (suc i) = bit_suc (2 ^ suc i) i ∙ ap (λ (x : ℕ). bit x i) (omega arith) ∙ bit_pow_same i

pub bit_pow_other : (i j : ℕ) → j ≢ i → bit (2 ^ i) j ≡ 0
bit_pow_other zero zero ne = absurd (ne refl)
bit_pow_other zero (suc j) ne = bit_suc 1 j ∙ bit_of_zero j
bit_pow_other (suc i) zero ne = bit_zero (2 ^ suc i) ∙ omega arith
bit_pow_other (suc i) (suc j) ne =
    bit_suc (2 ^ suc i) j ∙ ap (λ (x : ℕ). bit x j) (omega arith) ∙ bit_pow_other i j (λ e. ne (ap suc e))

-- numbers of k bits are equal where their bits are
pub bits_same : (k a b : ℕ) → a < 2 ^ k → b < 2 ^ k → Every k (λ i. bit a i ≡ bit b i) → a ≡ b
bits_same zero a b ha hb h = omega arith
bits_same (suc k) a b ha hb h =
    let low : a % 2 ≡ b % 2 = sym (bit_zero a) ∙ h zero (omega arith) ∙ bit_zero b in
    let rest : a / 2 ≡ b / 2 =
    bits_same k (a / 2) (b / 2) (omega arith) (omega arith)
    (λ i l. sym (bit_suc a i) ∙ h (suc i) (omega arith) ∙ bit_suc b i) in
    omega arith

-- ---- shifts, as the code makes them in words of w bits

-- 1 << i
pub one_shl : (w i : ℕ) → i < w → (1 * 2 ^ i) % 2 ^ w ≡ 2 ^ i
one_shl w i h = shl_exact 1 i w (lit< tt) (omega arith) ∙ one-mul (2 ^ i)

-- (s >> i) % 2 << i, and that it can be taken from s
pub bit_shl : (w s i : ℕ) → i < w → (bit s i * 2 ^ i) % 2 ^ w ≡ bit s i * 2 ^ i
bit_shl w s i h = shl_exact 1 i w (bit_lt s i) (omega arith)

pub bit_le : (s i : ℕ) → bit s i * 2 ^ i ≤ s
bit_le s i = le_trans (mul-le-mul_right (2 ^ i) (mod-le (s / 2 ^ i) 2)) (div-mul-le_self s (2 ^ i))

-- s | (1 << i)
pub or_shl : (w s i : ℕ) → i < w → bit_or s ((1 * 2 ^ i) % 2 ^ w) ≡ with_bit s i
unfolding with_bit
or_shl w s i h = ap (bit_or s) (one_shl w i h)

-- ---- members and bits

pub reflect_has : (s i : ℕ) → Reflects (has_bit s i) (bit s i ≡ 1)
unfolding has_bit
reflect_has s i = record { sound = eqb-true (bit s i) 1; complete = eq-eqb (bit s i) 1 }

pub bit_absent : (s i : ℕ) → has_bit s i ≡ false → bit s i ≡ 0
unfolding has_bit
bit_absent s i h = omega (arith, eqb-false (bit s i) 1 h, bit_lt s i)

-- equal bits are equal memberships, and the reverse
pub has_of_bit : (s t i j : ℕ) → bit s i ≡ bit t j → has_bit s i ≡ has_bit t j
unfolding has_bit
has_of_bit s t i j e = ap (λ (m : ℕ). eqb m 1) e

pub absent_of_bit : (s i : ℕ) → bit s i ≡ 0 → has_bit s i ≡ false
unfolding has_bit
absent_of_bit s i e = ap (λ (m : ℕ). eqb m 1) e

pub bit_of_has : (s i : ℕ) → bit s i ≡ cond (has_bit s i) 1 0
bit_of_has s i = by_cases (λ t. bit s i ≡ cond t 1 0) (has_bit s i) (reflect_has s i).sound (bit_absent s i)

pub has_suc : (s i : ℕ) → has_bit s (suc i) ≡ has_bit (s / 2) i
has_suc s i = has_of_bit s (s / 2) (suc i) i (bit_suc s i)

-- the empty set has no member
pub has_none : (i : ℕ) → has_bit 0 i ≡ false
has_none i = absent_of_bit 0 i (bit_of_zero i)

-- a set of k bits has no member at or above k
pub has_beyond : (k s i : ℕ) → s < 2 ^ k → k ≤ i → has_bit s i ≡ false
has_beyond k s i hs l =
    let small : s < 2 ^ i = omega (arith, pow_mono l) in
    absent_of_bit s i (omega (arith, div-eq_of_lt small))

pub has_below : (k s i : ℕ) → s < 2 ^ k → has_bit s i ≡ true → i < k
has_below k s i hs h =
    by_test (ltb i k) (ltb-true i k)
    (λ e. absurd (omega (arith, (reflect_has s i).sound h, bit_absent s i (has_beyond k s i hs (ltb-false i k e)))))

-- sets of k bits with the same members are equal
pub members_same : (k a b : ℕ) → a < 2 ^ k → b < 2 ^ k → Every k (λ i. has_bit a i ≡ has_bit b i) → a ≡ b
members_same k a b ha hb h =
    bits_same k a b ha hb (λ i l. bit_of_has a i ∙ ap (λ (t : Bool). cond t 1 0) (h i l) ∙ sym (bit_of_has b i))

-- ---- with

pub has_with_same : (s i : ℕ) → has_bit (with_bit s i) i ≡ true
unfolding with_bit
has_with_same s i =
    let e : bit (bit_or s (2 ^ i)) i ≡ 1 = omega (arith, bit_or_lem s (2 ^ i) i, bit_pow_same i, bit_lt s i) in
    (reflect_has (bit_or s (2 ^ i)) i).complete e

pub has_with_other : (s i j : ℕ) → j ≢ i → has_bit (with_bit s i) j ≡ has_bit s j
unfolding with_bit
has_with_other s i j ne =
    has_of_bit (bit_or s (2 ^ i)) s j j (omega (arith, bit_or_lem s (2 ^ i) j, bit_pow_other i j ne))

-- members stay
pub with_keeps : (s i j : ℕ) → has_bit s j ≡ true → has_bit (with_bit s i) j ≡ true
unfolding with_bit
with_keeps s i j h =
    let e : bit (bit_or s (2 ^ i)) j ≡ 1 =
    omega (arith, bit_or_lem s (2 ^ i) j, (reflect_has s j).sound h, bit_lt (2 ^ i) j) in
    (reflect_has (bit_or s (2 ^ i)) j).complete e

pub with_lt : (k s i : ℕ) → s < 2 ^ k → i < k → with_bit s i < 2 ^ k
unfolding with_bit
with_lt k s i hs hi = or_lt k s (2 ^ i) hs (pow-lt hi)

or_again : (s i : ℕ) → bit s i ≡ 1 → bit_or s (2 ^ i) ≡ s
or_again s zero h = omega (arith, or_step s 1, or_zero_r (s / 2), bit_zero s)
or_again s (suc i) h =
    let e : 2 ^ suc i / 2 ≡ 2 ^ i = omega arith in
    omega (arith, or_step s (2 ^ suc i), ap (bit_or (s / 2)) e, or_again (s / 2) i (sym (bit_suc s i) ∙ h))

-- to add a member changes nothing
pub with_again : (s i : ℕ) → has_bit s i ≡ true → with_bit s i ≡ s
unfolding with_bit
with_again s i h = or_again s i ((reflect_has s i).sound h)

-- ---- with, in a set of w bits: the same for what is below w, and nothing for the rest

pub member_below : (w s i : ℕ) → i < w → with_member w s i ≡ with_bit s i
unfolding with_member
member_below w s i h = simp (lt-ltb i w h)

pub member_beyond : (w s i : ℕ) → w ≤ i → with_member w s i ≡ s
unfolding with_member
member_beyond w s i h = simp (le-ltb i w h)

-- so what holds of both holds of it
member_cases : (P : ℕ → Type 0) (w s i : ℕ) → (i < w → P (with_bit s i)) → (w ≤ i → P s) → P (with_member w s i)
member_cases P w s i inside outside =
    by_test (ltb i w)
    (λ e. rw (member_below w s i (ltb-true i w e)) (inside (ltb-true i w e)))
    (λ e. rw (member_beyond w s i (ltb-false i w e)) (outside (ltb-false i w e)))

pub has_member_same : (w s i : ℕ) → i < w → has_bit (with_member w s i) i ≡ true
has_member_same w s i h = rw (member_below w s i h) (has_with_same s i)

pub has_member_other : (w s i j : ℕ) → j ≢ i → has_bit (with_member w s i) j ≡ has_bit s j
has_member_other w s i j ne =
    member_cases (λ m. has_bit m j ≡ has_bit s j) w s i (λ l. has_with_other s i j ne) (λ l. refl)

pub member_keeps : (w s i j : ℕ) → has_bit s j ≡ true → has_bit (with_member w s i) j ≡ true
member_keeps w s i j h = member_cases (λ m. has_bit m j ≡ true) w s i (λ l. with_keeps s i j h) (λ l. h)

pub member_lt : (w s i : ℕ) → s < 2 ^ w → with_member w s i < 2 ^ w
member_lt w s i hs = member_cases (λ m. m < 2 ^ w) w s i (λ l. with_lt w s i hs l) (λ l. hs)

pub member_again : (w s i : ℕ) → has_bit s i ≡ true → with_member w s i ≡ s
member_again w s i h = member_cases (λ m. m ≡ s) w s i (λ l. with_again s i h) (λ l. refl)

-- ---- without

without_zero : (s : ℕ) → without_bit s 0 ≡ s - s % 2
unfolding without_bit
without_zero s = omega (arith, bit_zero s)

without_suc : (s i : ℕ) → without_bit s (suc i) ≡ without_bit (s / 2) i * 2 + s % 2
unfolding without_bit
without_suc s i =
    let e : bit s (suc i) * 2 ^ suc i ≡ bit (s / 2) i * 2 ^ i * 2 =
    rw bit_suc (ap (λ (m : ℕ). bit (s / 2) i * m) (pow-suc 2 i) ∙ sym (mul_assoc (bit (s / 2) i) (2 ^ i) 2)) in
    omega (arith, bit_le (s / 2) i)

without_half : (s i : ℕ) → without_bit s (suc i) / 2 ≡ without_bit (s / 2) i
without_half s i = omega (arith, without_suc s i)

bit_without_same : (s i : ℕ) → bit (without_bit s i) i ≡ 0
bit_without_same s zero = omega (arith, without_zero s, bit_zero (without_bit s 0))
bit_without_same s (suc i) =
    bit_suc (without_bit s (suc i)) i ∙ ap (λ (m : ℕ). bit m i) (without_half s i) ∙ bit_without_same (s / 2) i

bit_without_other : (s i j : ℕ) → j ≢ i → bit (without_bit s i) j ≡ bit s j
bit_without_other s zero zero ne = absurd (ne refl)
bit_without_other s zero (suc j) ne =
    let e : without_bit s 0 / 2 ≡ s / 2 = omega (arith, without_zero s) in
    bit_suc (without_bit s 0) j ∙ ap (λ (m : ℕ). bit m j) e ∙ sym (bit_suc s j)
bit_without_other s (suc i) zero ne =
    omega (arith, without_suc s i, bit_zero (without_bit s (suc i)), bit_zero s)
bit_without_other s (suc i) (suc j) ne =
    bit_suc (without_bit s (suc i)) j
    ∙ ap (λ (m : ℕ). bit m j) (without_half s i)
    ∙ bit_without_other (s / 2) i j (λ p. ne (ap suc p))
    ∙ sym (bit_suc s j)

pub has_without_same : (s i : ℕ) → has_bit (without_bit s i) i ≡ false
has_without_same s i = absent_of_bit (without_bit s i) i (bit_without_same s i)

pub has_without_other : (s i j : ℕ) → j ≢ i → has_bit (without_bit s i) j ≡ has_bit s j
has_without_other s i j ne = has_of_bit (without_bit s i) s j j (bit_without_other s i j ne)

pub without_absent : (s i : ℕ) → has_bit s i ≡ false → without_bit s i ≡ s
unfolding without_bit
without_absent s i h = simp (bit_absent s i h, zero-mul, sub-zero)

pub without_lt : (k s i : ℕ) → s < 2 ^ k → without_bit s i < 2 ^ k
unfolding without_bit
without_lt k s i hs = omega arith

-- ---- union

pub has_union : (a b i : ℕ) → has_bit (bit_or a b) i ≡ (has_bit a i || has_bit b i)
has_union a b i =
    by_cases (λ t. has_bit (bit_or a b) i ≡ (t || has_bit b i)) (has_bit a i)
    (λ h. (reflect_has (bit_or a b) i).complete (omega (arith, bit_or_lem a b i, (reflect_has a i).sound h, bit_lt b i)))
    (λ h. has_of_bit (bit_or a b) b i i (omega (arith, bit_or_lem a b i, bit_absent a i h)))

-- ---- common members

pub has_common : (a b i : ℕ) → has_bit (bit_and a b) i ≡ (has_bit a i && has_bit b i)
has_common a b i =
    by_cases (λ t. has_bit (bit_and a b) i ≡ (t && has_bit b i)) (has_bit a i)
    (λ h. has_of_bit (bit_and a b) b i i (omega (arith, bit_and_lem a b i, (reflect_has a i).sound h, bit_lt b i)))
    (λ h. absent_of_bit (bit_and a b) i (omega (arith, bit_and_lem a b i, bit_absent a i h)))

-- a set of k bits that is not 0 has a member
pub reflect_some : (k s : ℕ) → s < 2 ^ k → Reflects (not (eqb s 0)) (Some k (λ i. has_bit s i ≡ true))
reflect_some k s hs = record {
  sound = λ e. by_test (any_below k (has_bit s)) (any_elim (has_bit s) k)
      (λ none. absurd (eqb-false s 0 (not-true (eqb s 0) e) (members_same k s 0 hs (pow_pos k) (λ i l. any_none (has_bit s) k none i l ∙ sym (has_none i)))));
  complete = λ m. not_false_true (not (eqb s 0)) (λ e. true≢false (sym m.has ∙ ap (λ (t : ℕ). has_bit t m.which) (zero e) ∙ has_none m.which));
}
  where
    zero : not (eqb s 0) ≡ false → s ≡ 0
    zero e = eqb-true s 0 (not-false (eqb s 0) e)

-- ---- subsets

-- what a subset has, the set has
pub subset_has : (a b i : ℕ) → subset_of a b ≡ true → has_bit a i ≡ true → has_bit b i ≡ true
unfolding subset_of
subset_has a b i s h =
    let same = ap (λ (x : ℕ). bit x i) (eqb-true (bit_and a b) a s) in
    (reflect_has b i).complete (omega (arith, bit_and_lem a b i, same, (reflect_has a i).sound h, bit_lt b i))

-- and the test says no more
pub reflect_subset : (k a b : ℕ) → a < 2 ^ k → Reflects (subset_of a b) (Every k (λ i. has_bit a i ≡ true → has_bit b i ≡ true))
unfolding subset_of
reflect_subset k a b ha = record { sound = λ e i l. subset_has a b i e; complete = λ h. eq-eqb (bit_and a b) a (common h) }
  where
    common : Every k (λ i. has_bit a i ≡ true → has_bit b i ≡ true) → bit_and a b ≡ a
    common h = bits_same k (bit_and a b) a (omega (arith, and_le_l a b)) ha (λ i l.
        by_test (has_bit a i)
        (λ e. omega (arith, bit_and_lem a b i, (reflect_has a i).sound e, (reflect_has b i).sound (h i l e)))
        (λ e. omega (arith, bit_and_lem a b i, bit_absent a i e)))

-- ---- all members below n

-- a set whose highest bit is clear needs it not
top_clear : (k s : ℕ) → s < 2 ^ suc k → has_bit s k ≡ false → s < 2 ^ k
top_clear zero s hs h = omega (arith, bit_absent s 0 h, bit_zero s)
top_clear (suc k) s hs h =
    let half : s / 2 < 2 ^ k = top_clear k (s / 2) (omega arith) (sym (has_suc s k) ∙ h) in
    omega arith

members_lt : (k s n : ℕ) → s < 2 ^ k → Every k (λ i. has_bit s i ≡ true → i < n) → s < 2 ^ n
members_lt zero s n hs h = omega (arith, pow_pos n)
members_lt (suc k) s n hs h =
    by_test (has_bit s k)
    (λ e. omega (arith, pow_mono (h k (le_refl (suc k)) e)))
    (λ e. members_lt k s n (top_clear k s hs e) (λ i m. h i (omega arith)))

pub reflect_within : (k s n : ℕ) → s < 2 ^ k → Reflects (ltb s (2 ^ n)) (Every k (λ i. has_bit s i ≡ true → i < n))
reflect_within k s n hs = record {
  sound = λ e i l h. has_below n s i (ltb-true s (2 ^ n) e) h;
  complete = λ h. lt-ltb s (2 ^ n) (members_lt k s n hs h);
}

-- ---- how many members

ones_or : (s i : ℕ) → bit s i ≡ 0 → ones (bit_or s (2 ^ i)) ≡ suc (ones s)
ones_or s zero h =
    omega (arith, bit_zero s, ones_step s, ones_step (bit_or s 1), or_step s 1, ap ones half)
  where
    half : bit_or s 1 / 2 ≡ s / 2
    half = omega (arith, or_step s 1, or_zero_r (s / 2))
ones_or s (suc i) h =
    let rest = ones_or (s / 2) i (sym (bit_suc s i) ∙ h) in
    omega (arith, ones_step s, ones_step (bit_or s (2 ^ suc i)), or_step s (2 ^ suc i), ap ones half, rest)
  where
    half : bit_or s (2 ^ suc i) / 2 ≡ bit_or (s / 2) (2 ^ i)
    half =
        let e : 2 ^ suc i / 2 ≡ 2 ^ i = omega arith in
        omega (arith, or_step s (2 ^ suc i), ap (bit_or (s / 2)) e)

-- a new member is one more
pub ones_with : (s i : ℕ) → has_bit s i ≡ false → ones (with_bit s i) ≡ suc (ones s)
unfolding with_bit
ones_with s i h = ones_or s i (bit_absent s i h)

pub ones_member : (w s i : ℕ) → i < w → has_bit s i ≡ false → ones (with_member w s i) ≡ suc (ones s)
ones_member w s i l h = rw (member_below w s i l) (ones_with s i h)

ones_and : (k a b : ℕ) → a < 2 ^ k → bit_and a b ≡ a → ones a ≤ ones b
ones_and zero a b ha e = omega (arith, ap ones (lt-one ha), ones-ones 0)
ones_and (suc k) a b ha e =
    let half : bit_and (a / 2) (b / 2) ≡ a / 2 = omega (arith, and_step a b) in
    omega (arith, and_step a b, ones_step a, ones_step b, ones_and k (a / 2) (b / 2) (omega arith) half)

-- a subset has no more members
pub ones_subset : (k a b : ℕ) → a < 2 ^ k → subset_of a b ≡ true → ones a ≤ ones b
unfolding subset_of
ones_subset k a b ha s = ones_and k a b ha (eqb-true (bit_and a b) a s)

-- to count the ones is to count the members
pub ones_counts : (k s : ℕ) → s < 2 ^ k → ones s ≡ sum_from (λ i. bit s i) 0 k
unfolding sum_from
ones_counts zero s hs = ap ones (lt-one hs) ∙ ones-ones 0
ones_counts (suc k) s hs = omega (arith, ones_step s, bit_zero s, above, ones_counts k (s / 2) (omega arith))
  where
    next : (i : ℕ) → bit s (1 + i) ≡ bit (s / 2) i
    next i = ap (bit s) (add_comm 1 i ∙ add-one i) ∙ bit_suc s i

    above : sum_from (λ i. bit s i) 1 k ≡ sum_from (λ i. bit (s / 2) i) 0 k
    above =
        sum_from_lem (λ i. bit s i) 1 0 k
        ∙ sum_same (λ i. bit s (1 + i)) (λ i. bit (s / 2) i) 0 k (λ i l m. next i)
