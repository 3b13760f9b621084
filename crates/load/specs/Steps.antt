-- The steps of a load (docs/LOADS.md, "Steps"), and how each is written in a run file.
use Rattle.std.specs.Prelude.{cond, List, [], ◌∷◌, ◌%◌, ◌*◌, ◌+◌, ◌-◌, ◌/◌, ℕ, ltb}
use Rattle.codec.specs.Codec.{bytes_of, le_bytes}
use Rattle.load.specs.Plans.{correct_from, correct_of}
use Rattle.load.specs.Records.{job_for}
use Rattle.load.specs.declared.Plan.{Plan}
use Rattle.load.specs.declared.Step.{Step}
use Rattle.load.specs.declared.Step.TheVariants.{Commit, Draw, FaultyAcknowledge, FaultySign, Generations, Preflight, Propose, Show}

-- the steps up to the preflight of the rival, step k of the round whose main job is `main`
unfoldable pub asking : Plan → ℕ → ℕ → ℕ → Step
asking p main k d =
    cond (ltb k 10) (Propose (main + k))
    (cond (ltb k 26) (Preflight (correct_from p (p.turn + k)) main)
    (cond (ltb k 28) (FaultySign p.start (main + (k - 26)))
    (Preflight (correct_from p d) (main + 1))))

-- the commits and what follows them
unfoldable pub delivering : Plan → ℕ → ℕ → ℕ → Step
delivering p main k d =
    cond (ltb k 30) (Commit (correct_from p d) main (d / 65536))
    (cond (ltb k 46) (Commit (correct_from p (p.turn + k)) main (correct_of p))
    (cond (ltb k 47) (FaultyAcknowledge (p.start + d % (p.b + 1)) main)
    (cond (ltb k 48) (Show (d % (main + 10)))
    (cond (ltb k 49) (Draw (d % (p.n + 2)))
    (Generations (10 * (d % (main / 10 + 1))))))))

-- "Step i, from 0, is step k = i modulo 50 of round r = i / 50"
unfoldable pub step_for : Plan → ℕ → ℕ → Step
step_for p i d = cond (ltb (i % 50) 29) (asking p (i / 50 * 10) (i % 50) d) (delivering p (i / 50 * 10) (i % 50) d)

-- a kind byte and its body
abbrev pub step_bytes : ℕ → Step → List ℕ
step_bytes first (Propose j) = 1 ∷ bytes_of 1 (job_for first j)
step_bytes first (Preflight v j) = 2 ∷ v ∷ j ∷ []
step_bytes first (Commit v j signers) = 3 ∷ v ∷ j ∷ le_bytes 2 signers
step_bytes first (FaultySign v j) = 4 ∷ v ∷ j ∷ []
step_bytes first (FaultyAcknowledge v j) = 5 ∷ v ∷ j ∷ []
step_bytes first (Show j) = 6 ∷ j ∷ []
step_bytes first (Draw u) = 7 ∷ u ∷ []
step_bytes first (Generations j) = 8 ∷ j ∷ []

-- "`VLT`, version 1 in 16 bits, n and b in a byte each, the faulty set in 16 bits"
unfoldable pub header_bytes : ℕ → ℕ → ℕ → List ℕ
header_bytes n b faulty = 86 ∷ 76 ∷ 84 ∷ 1 ∷ 0 ∷ n ∷ b ∷ le_bytes 2 faulty
