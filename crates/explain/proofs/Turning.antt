-- What a turn of the run keeps, and that a step is one more.
use Rattle.std.proofs.Common.{List, ℕ, ◌≡◌, ◌-◌, ◌<◌, length, arith}
use Rattle.explaining.proofs.Telling.{one_more}
use Rattle.explaining.specs.Told.{Told}
use Rattle.naming.specs.Kept.{Remembered}
use Rattle.progress.specs.Pieces.{Going}
use Rattle.progress.specs.Turns.{Holds}
use Rattle.progress.specs.declared.Progress.{Progress}
use Rattle.progress.specs.declared.Turned.{Turned}

pub record Turn (input : List ℕ) (progress : Progress) (named : Remembered) (memo journal numbers sets records out : List ℕ) : Type 0 where
  pub going : progress.pos < length input → Going input progress journal numbers sets records memo
  pub right : Holds progress.ledger journal named
  pub memo_size : length memo ≡ 128
  pub journal_sized : length journal ≡ 13312
  pub numbers_sized : length numbers ≡ 4093
  pub sets_sized : length sets ≡ 6144
  pub records_sized : length records ≡ 1149
  pub buffer : length out ≡ 8192

-- a run that has more to read
pub to_next : {input : List ℕ} {progress : Progress} {named : Remembered} {memo journal numbers sets records out : List ℕ}
    → Turn input progress named memo journal numbers sets records out → progress.pos < length input
    → Going input progress journal numbers sets records memo
to_next t more = t.going more

-- a step is one more
pub counts_on : {input : List ℕ} {p : Progress} {q : Turned} {named : Remembered} {memo₀ numbers₀ sets₀ records₀ out₀ : List ℕ}
    {journal before journal' numbers sets records memo after : List ℕ} → Turn input p named memo₀ journal numbers₀ sets₀ records₀ out₀
    → Told input p journal before q journal' numbers sets records memo after → p.pos < length input
    → length input - q.progress.count < length input - p.count
counts_on t a more = omega (arith, one_more a, (t.going more).steps, more)
