-- A search finds a number exactly where the first one that passes is below the bound.
use Rattle.std.specs.Prelude.{◌≡◌, Bool, ℕ, ltb, Option, Some, None}
use Rattle.std.specs.Option.{is_some}
use borrow.Author.Tests.{le-ltb, lt-ltb}
use native.Mathlib.Omega.{arith}
use Rattle.base.specs.Search.{FirstFound, first_below}

pub found_below : (n : ℕ) (p : ℕ → Bool) (r : Option ℕ) → FirstFound n p r → ltb (first_below n p) n ≡ is_some r
found_below n p None h = le-ltb _ _ (omega (arith, h))
found_below n p (Some i) h = lt-ltb _ _ (omega (arith, h.0, h.1))
