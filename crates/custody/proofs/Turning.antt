-- What a turn of the run keeps, and that a piece reads on.
use Rattle.std.proofs.Common.{List, ℕ, ◌≡◌, ◌-◌, ◌<◌, length, arith}
use Rattle.progress.specs.Pieces.{Advanced, Going}
use Rattle.progress.specs.declared.Progress.{Progress}

pub record Turn (input : List ℕ) (progress : Progress) (memo journal numbers sets records out : List ℕ) : Type 0 where
  pub going : progress.pos < length input → Going input progress journal numbers sets records memo
  pub memo_size : length memo ≡ 128
  pub journal_sized : length journal ≡ 13312
  pub numbers_sized : length numbers ≡ 4093
  pub sets_sized : length sets ≡ 6144
  pub records_sized : length records ≡ 1149
  pub buffer : length out ≡ 32768

-- a run that has more to read
pub to_advance : {input : List ℕ} {progress : Progress} {memo journal numbers sets records out : List ℕ}
    → Turn input progress memo journal numbers sets records out → progress.pos < length input → Going input progress journal numbers sets records memo
to_advance t more = t.going more

-- a piece reads on
pub reads_on : {input : List ℕ} {p q : Progress} {journal before journal' numbers sets records memo after : List ℕ}
    → Advanced input p journal before q journal' numbers sets records memo after → p.pos < length input → length before ≡ 32768
    → length input - q.pos < length input - p.pos
reads_on a more size = omega (arith, a.onward more (omega arith))
