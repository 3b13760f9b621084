-- What is known of an estimate's entries ("a job with a lowest and a highest count in each used entry", M-110).
use Rattle.std.specs.Prelude.{List, [], ◌∷◌, ℕ, zero, suc, get_or}
use Rattle.ranges.specs.declared.Estimate.{Estimate}
use Rattle.ranges.specs.declared.Range.{Range}

abbrev pub no_range : Range
no_range = record { lowest = 0; highest = 0 }

-- entry i of a list of ranges
abbrev pub range_at : List Range → ℕ → Range
range_at ranges i = get_or ranges i no_range

-- the lowest and the highest count of entry i
abbrev pub low : Estimate → ℕ → ℕ
low e i = (range_at e.ranges i).lowest

abbrev pub high : Estimate → ℕ → ℕ
high e i = (range_at e.ranges i).highest

-- f n, f (n + 1), .. , k of them
unfoldable pub list_from : {A : Type 0} → (ℕ → A) → ℕ → ℕ → List A
list_from f n zero = []
list_from f n (suc k) = f n ∷ list_from f (suc n) k
