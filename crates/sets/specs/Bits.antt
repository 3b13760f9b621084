-- Sets as numbers, of any width: member i is bit i. How many members a set has is `lib.Count.ones`, and the union of two
-- sets is `lib.Bits.bit_or`.
use Rattle.std.specs.Prelude.{Bool, cond, ℕ, ◌-◌, ◌*◌, ◌/◌, ◌%◌, ◌^◌, eqb, ltb}
use lib.Bits.{bit_and, bit_or}

-- bit i of s, 0 or 1
abbrev pub bit : ℕ → ℕ → ℕ
bit s i = s / 2 ^ i % 2

-- i is a member of s
unfoldable pub has_bit : ℕ → ℕ → Bool
has_bit s i = eqb (bit s i) 1

-- the members of s, and i
unfoldable pub with_bit : ℕ → ℕ → ℕ
with_bit s i = bit_or s (2 ^ i)

-- the same in a set of w bits: what is not below w can't be a member, and changes nothing
unfoldable pub with_member : ℕ → ℕ → ℕ → ℕ
with_member w s i = cond (ltb i w) (with_bit s i) s

-- the members of s but i
unfoldable pub without_bit : ℕ → ℕ → ℕ
without_bit s i = s - bit s i * 2 ^ i

-- each member of a is a member of b: what they have in common is a
unfoldable pub subset_of : ℕ → ℕ → Bool
subset_of a b = eqb (bit_and a b) a
