-- "Its generator is state × 6364136223846793005 + 1442695040888963407, modulo 2 to the 64th, the upper 32 bits drawn."
use Rattle.std.specs.Prelude.{ℕ, zero, suc, ◌+◌, ◌*◌, ◌/◌, ◌%◌, ◌^◌, List, [], ◌∷◌}

abbrev pub multiplier : ℕ
multiplier = 6364136223846793005

abbrev pub increment : ℕ
increment = 1442695040888963407

unfoldable pub next : ℕ → ℕ
next state = (state * multiplier + increment) % 2 ^ 64

unfoldable pub drawn : ℕ → ℕ
drawn state = state / 2 ^ 32

-- the first k draws: "The seed is the state before the first draw, and a draw comes from the new state."
unfoldable pub draws : ℕ → ℕ → List ℕ
draws zero state = []
draws (suc k) state = drawn (next state) ∷ draws k (next state)
