-- Binomials, by factorials: "C is 0 if the lower number exceeds the upper".
use Rattle.std.specs.Prelude.{cond, ◌*◌, ◌-◌, ◌/◌, suc, zero, ℕ, ltb}

unfoldable pub factorial : ℕ → ℕ
factorial zero = 1
factorial (suc n) = factorial n * suc n

-- how many sets of k there are among n
unfoldable pub choose : ℕ → ℕ → ℕ
choose n k = cond (ltb n k) 0 (factorial n / (factorial k * factorial (n - k)))
