-- The lent slices are as long after a turn as before it.
use mathlib.Core.List.{List}
use mathlib.Core.Path.{◌∙◌, ◌≡◌}
use Prim.Native.Nat.{ℕ}
use lib.ListN.{length}

-- slices are as long as they were
pub record Same (memo₀ journal₀ numbers₀ sets₀ records₀ out₀ memo journal numbers sets records out : List ℕ) : Type 0 where
  pub same_memo : length memo ≡ length memo₀
  pub same_journal : length journal ≡ length journal₀
  pub same_numbers : length numbers ≡ length numbers₀
  pub same_sets : length sets ≡ length sets₀
  pub same_records : length records ≡ length records₀
  pub same_out : length out ≡ length out₀

-- and stay so where a step is carried out
pub still_same : {memo₀ journal₀ numbers₀ sets₀ records₀ out₀ memo journal numbers sets records out journal' numbers' sets' records' out' : List ℕ}
    → length numbers' ≡ length numbers → length sets' ≡ length sets → length records' ≡ length records → length journal' ≡ length journal
    → length out' ≡ length out → Same memo₀ journal₀ numbers₀ sets₀ records₀ out₀ memo journal numbers sets records out
    → Same memo₀ journal₀ numbers₀ sets₀ records₀ out₀ memo journal' numbers' sets' records' out'
still_same a b c d e s = record {
  same_memo = s.same_memo;
  same_journal = d ∙ s.same_journal;
  same_numbers = a ∙ s.same_numbers;
  same_sets = b ∙ s.same_sets;
  same_records = c ∙ s.same_records;
  same_out = e ∙ s.same_out;
}

pub still_surveyed : {memo₀ journal₀ numbers₀ sets₀ records₀ out₀ memo journal numbers sets records out memo' out' : List ℕ}
    → length memo' ≡ length memo → length out' ≡ length out → Same memo₀ journal₀ numbers₀ sets₀ records₀ out₀ memo journal numbers sets records out
    → Same memo₀ journal₀ numbers₀ sets₀ records₀ out₀ memo' journal numbers sets records out'
still_surveyed a e s = record {
  same_memo = a ∙ s.same_memo;
  same_journal = s.same_journal;
  same_numbers = s.same_numbers;
  same_sets = s.same_sets;
  same_records = s.same_records;
  same_out = e ∙ s.same_out;
}
