-- What is promised of every load (document 02, M-106): the statement.
use Rattle.std.specs.Prelude.{true, map, ◌≡◌, ◌*◌, ◌<◌, ◌≤◌, ℕ, length, Ok}
use Rattle.base.specs.Lists.{In, keep_if}
use Rattle.checks.specs.Checks.{examined}
use Rattle.codec.specs.Codec.{bytes_of}
use Rattle.federation.specs.Federation.{Lawful}
use Rattle.generator.specs.Generator.{drawn, next}
use Rattle.outcome.specs.Figures.{number_of, Outcome}
use Rattle.runfile.specs.History.{steps}
use Rattle.runfile.specs.Run.{begins, opens, run_text}
use Rattle.load.specs.Answers.{lines_after, outcomes_of}
use Rattle.load.specs.Commands.{command_for, commands_of}
use Rattle.load.specs.Loads.{load_bytes, steps_of}
use Rattle.load.specs.Plans.{faulty_of, plan_of}
use Rattle.load.specs.Records.{job_for}
use Rattle.load.specs.Visits.{preflights_well, runs_next}
use Rattle.load.specs.declared.Step.TheVariants.{Propose}

abbrev pub first_draw : ℕ → ℕ
first_draw seed = drawn (next seed)

pub record Promises (seed n b : ℕ) : Type 0 where
  -- "writes a version 1 run file": its faulty set is lawful, and check 1 lets it through
  pub lawful : Lawful (record { n = n; b = b; faulty = faulty_of (plan_of seed n b); version = 1 })
  pub opened : opens (load_bytes seed n b) ≡ true
  -- "of 200 steps": a run reads it as exactly these
  pub reads : commands_of (steps (load_bytes seed n b)) ≡ map (command_for (first_draw seed)) (steps_of seed n b)
  pub count : length (steps_of seed n b) ≡ 200
  -- "no step gets refusal 2": a run of it prints a line for each of the 200 and nothing else, and none of these lines says 2
  pub lines : run_text (load_bytes seed n b) ≡ lines_after 0 (outcomes_of (load_bytes seed n b))
  pub answered : length (outcomes_of (load_bytes seed n b)) ≡ 200
  pub readable : (o : Outcome) → In o (outcomes_of (load_bytes seed n b)) → number_of o ≡ 2 → ⊥
  -- "Every record written passes checks 6 to 9", and no other job's record is written
  pub passes : (j : ℕ) → j < 40 → examined 1 (bytes_of 1 (job_for (first_draw seed) j)) ≡ Ok tt
  pub forty : (j : ℕ) → In (Propose j) (steps_of seed n b) → j < 40
  -- "At least forty different records are proposed"
  pub proposed : (j : ℕ) → j < 40 → In (Propose j) (steps_of seed n b)
  pub different : (i j : ℕ) → i < 40 → j < 40 → bytes_of 1 (job_for (first_draw seed) i) ≡ bytes_of 1 (job_for (first_draw seed) j) → i ≡ j
  -- "at least forty steps are preflights of booked jobs at sound vaults"
  pub preflights : 40 ≤ length (keep_if (preflights_well (load_bytes seed n b)) (runs_next (length (load_bytes seed n b)) (load_bytes seed n b) (begins
      (load_bytes seed n b))))
  -- "with the same n and b, seeds whose first draws differ give different loads"
  pub apart : (other : ℕ) → load_bytes seed n b ≡ load_bytes other n b → first_draw seed ≡ first_draw other

abbrev pub EveryLoad : Type 0
EveryLoad = (seed n b : ℕ) → n ≤ 16 → 3 * b < n → Promises seed n b
