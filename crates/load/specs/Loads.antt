-- The whole load: the header and 200 steps, or refusal 1's line.
use Rattle.std.specs.Prelude.{Bool, ◌&&◌, cond, List, [], ◌++◌, ◌∷◌, suc, zero, ℕ, eqb, get_or, length, Err}
use Rattle.codec.specs.Codec.{le_at}
use Rattle.federation.specs.Federation.{is_lawful}
use Rattle.generator.specs.Generator.{drawn, next}
use Rattle.outcome.specs.declared.Refusal.TheVariants.{Settings as BadSettings}
use Rattle.text.specs.Text.{line_for}
use Rattle.load.specs.Plans.{faulty_of, plan_of}
use Rattle.load.specs.Steps.{header_bytes, step_bytes, step_for}
use Rattle.load.specs.declared.Plan.{Plan}
use Rattle.load.specs.declared.Step.{Step}

-- count steps from step i on, each with a draw of its own
unfoldable pub steps_from : Plan → ℕ → ℕ → ℕ → List Step
steps_from p zero i state = []
steps_from p (suc count) i state = step_for p i (drawn (next state)) ∷ steps_from p count (suc i) (next state)

-- steps one after the other
abbrev pub all_bytes : ℕ → List Step → List ℕ
all_bytes first [] = []
all_bytes first (s ∷ steps) = step_bytes first s ++ all_bytes first steps

unfoldable pub steps_bytes : Plan → ℕ → ℕ → ℕ → List ℕ
steps_bytes p count i state = all_bytes p.first (steps_from p count i state)

-- the steps of the load of a seed, n and b
unfoldable pub steps_of : ℕ → ℕ → ℕ → List Step
steps_of seed n b = steps_from (plan_of seed n b) 200 0 (next (next (next seed)))

unfoldable pub load_bytes : ℕ → ℕ → ℕ → List ℕ
load_bytes seed n b = header_bytes n b (faulty_of (plan_of seed n b)) ++ all_bytes (plan_of seed n b).first (steps_of seed n b)

-- ten bytes, "a 64-bit seed, n and b"; which faulty vaults there are is drawn, and none is lawful where some are
unfoldable pub is_request : List ℕ → Bool
is_request input = eqb (length input) 10 && is_lawful (record { n = get_or input 8 0; b = get_or input 9 0; faulty = 0; version = 1 })

-- "Settings that a run file may not have, or an input of another length, print `0 1 0` and no load."
unfoldable pub answer_of : List ℕ → List ℕ
answer_of input =
    cond (is_request input) (load_bytes (le_at input 0 8) (get_or input 8 0) (get_or input 9 0)) (line_for 0 (Err BadSettings))
