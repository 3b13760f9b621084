-- What the first three draws choose (docs/LOADS.md, "Draws").
use Rattle.std.specs.Prelude.{cond, ◌%◌, ◌*◌, ◌+◌, ◌-◌, ◌<◌, ◌^◌, ◌≤◌, ℕ, leb, ltb}
use Rattle.generator.specs.Generator.{drawn, next}
use Rattle.load.specs.declared.Plan.{Plan}

-- "s is the draw modulo n − b + 1", "t is the draw modulo n"
unfoldable pub plan_with : ℕ → ℕ → ℕ → ℕ → ℕ → Plan
plan_with n b first second third = record { n = n; b = b; start = second % (n - b + 1); turn = third % n; first = first }

-- "The seed is the state before the first draw, and a draw comes from the new state."
unfoldable pub plan_of : ℕ → ℕ → ℕ → Plan
plan_of seed n b = plan_with n b (drawn (next seed)) (drawn (next (next seed))) (drawn (next (next (next seed))))

-- "They are b vaults in a row, from vault s on", as a set: member i is bit i
unfoldable pub faulty_of : Plan → ℕ
faulty_of p = 2 ^ (p.start + p.b) - 2 ^ p.start

-- all other vaults
unfoldable pub correct_of : Plan → ℕ
correct_of p = 2 ^ p.n - 1 - faulty_of p

-- "vault x modulo n, where that is correct; else the next one that is, which is s + b, or 0 where s + b is n"
unfoldable pub going_on : Plan → ℕ → ℕ
going_on p v = cond (ltb v p.start) v (cond (leb (p.start + p.b) v) v (cond (ltb (p.start + p.b) p.n) (p.start + p.b) 0))

unfoldable pub correct_from : Plan → ℕ → ℕ
correct_from p x = going_on p (x % p.n)

-- what every plan of lawful settings meets
pub record Fair (p : Plan) : Type 0 where
  pub vaults : p.n ≤ 16
  pub few : 3 * p.b < p.n
  pub row : p.start + p.b ≤ p.n
  pub turned : p.turn < p.n
