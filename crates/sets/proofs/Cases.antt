-- Worked values, computed: the number 11 is 1011 in binary, the set of the vaults 0, 1 and 3.
use mathlib.Core.Path.{◌≡◌, refl}
use mathlib.Core.Bool.{true, false}
use lib.Count.{ones}
use Rattle.sets.specs.Bits.{has_bit, with_bit, with_member, subset_of}

-- signers 11 name three vaults
pub eleven_names_three : ones 11 ≡ 3
unfolding ones
eleven_names_three = refl

pub eleven_has_3 : has_bit 11 3 ≡ true
unfolding has_bit
eleven_has_3 = refl

pub eleven_lacks_2 : has_bit 11 2 ≡ false
unfolding has_bit
eleven_lacks_2 = refl

pub three_in_eleven : subset_of 3 11 ≡ true
unfolding subset_of
three_in_eleven = refl

pub eleven_not_in_three : subset_of 11 3 ≡ false
unfolding subset_of
eleven_not_in_three = refl

-- vault 2 fills the gap, and vault 16 changes nothing
pub eleven_with_2 : with_member 16 11 2 ≡ 15
unfolding with_member with_bit
eleven_with_2 = refl

pub eleven_with_16 : with_member 16 11 16 ≡ 11
unfolding with_member
eleven_with_16 = refl
