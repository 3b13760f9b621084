-- What holds before each piece of a run that is written as a whole.
use mathlib.Core.Bool.{Bool}
use mathlib.Core.List.{List}
use mathlib.Core.Path.{◌≡◌}
use Prim.Native.Nat.{◌-◌, ◌<◌, ℕ}
use native.Mathlib.Omega.{arith}
use lib.ListN.{length}
use Rattle.progress.specs.Pieces.{Advanced, Going}
use Rattle.progress.specs.declared.Progress.{Progress}
use Rattle.exported.proofs.Counting.{Counting}

-- what holds before each piece
pub record Turn (input : List ℕ) (fits : Bool) (before : List ℕ) (progress : Progress) (memo journal numbers sets records piece out : List ℕ) (at : ℕ)
    : Type 0 where
  pub counting : Counting input fits before progress memo journal numbers sets records out at
  pub memo_size : length memo ≡ 128
  pub journal_sized : length journal ≡ 13312
  pub numbers_sized : length numbers ≡ 4093
  pub sets_sized : length sets ≡ 6144
  pub records_sized : length records ≡ 1149
  pub buffer : length piece ≡ 32768
  pub same_size : length out ≡ length before

-- a run that has more to read
pub to_advance : {input : List ℕ} {fits : Bool} {before : List ℕ} {progress : Progress} {memo journal numbers sets records piece out : List ℕ} {at : ℕ}
    → Turn input fits before progress memo journal numbers sets records piece out at → progress.pos < length input
    → Going input progress journal numbers sets records memo
to_advance t more = t.counting.going more

-- a piece reads on
pub reads_on : {input : List ℕ} {p q : Progress} {journal before journal' numbers sets records memo after : List ℕ}
    → Advanced input p journal before q journal' numbers sets records memo after → p.pos < length input → length before ≡ 32768
    → length input - q.pos < length input - p.pos
reads_on a more size = omega (arith, a.onward more (omega arith))
