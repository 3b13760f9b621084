-- Every load keeps the promises.
use mathlib.Core.List.{map}
use mathlib.Core.Logic.{inl, inr}
use mathlib.Core.Path.{◌∙◌, ◌≡◌, ap, refl, sym}
use Prim.Native.Nat.{◌%◌, ◌*◌, ◌+◌, ◌-◌, ◌/◌, ◌<◌, ◌≤◌, suc, zero, ℕ}
use native.Mathlib.Nat.{zero-add}
use native.Mathlib.Omega.{arith}
use lib.ListN.{length}
use borrow.Author.Tests.{lt-ltb}
use Rattle.base.specs.Lists.{In}
use Rattle.generator.specs.Generator.{drawn, next}
use Rattle.runfile.specs.History.{steps}
use Rattle.runfile.specs.Run.{begins, run_text, text_from, text_up_to}
use Rattle.load.proofs.Answered.{Lines, all_lines}
use Rattle.load.proofs.Checked.{record_passes}
use Rattle.load.proofs.Different.{loads_differ, records_differ}
use Rattle.load.proofs.Preflights.{preflights_counted, proposed_below}
use Rattle.load.proofs.Whole.{commands_load, drawn_below, fair, lawful_load, long, opens_load, reads_load, two_hundred}
use Rattle.load.specs.Answers.{lines_after, outcomes_of}
use Rattle.load.specs.Commands.{command_for, commands_of}
use Rattle.load.specs.Loads.{load_bytes, steps_from, steps_of}
use Rattle.load.specs.Plans.{plan_of, plan_with}
use Rattle.load.specs.Promises.{EveryLoad}
use Rattle.load.specs.Steps.{asking, step_for}
use Rattle.load.specs.declared.Plan.{Plan}
use Rattle.load.specs.declared.Step.{Step}
use Rattle.load.specs.declared.Step.TheVariants.{Propose}

-- ---- each of the forty records is proposed, in its place
proposes_at : (p : Plan) (j d : ℕ) → j < 40 → step_for p (j / 10 * 50 + j % 10) d ≡ Propose j
unfolding step_for asking
proposes_at p j d h =
    let k : (j / 10 * 50 + j % 10) % 50 ≡ j % 10 = omega arith in
    let r : (j / 10 * 50 + j % 10) / 50 ≡ j / 10 = omega arith in
    let z : j / 10 * 10 + j % 10 ≡ j = omega arith in
    simp (k, r, lt-ltb (j % 10) 29 (omega arith), lt-ltb (j % 10) 10 (omega arith), z)

stands_at : (p : Plan) (s : Step) (count i state m : ℕ) → m < count → ((d : ℕ) → step_for p (i + m) d ≡ s) → In s (steps_from p count i state)
unfolding steps_from
stands_at p s zero i state m l h = absurd (omega arith)
stands_at p s (suc count) i state zero l h = let z : i + 0 ≡ i = omega arith in inl (sym (rw z at (h (drawn (next state)))))
stands_at p s (suc count) i state (suc m) l h =
    let z : i + suc m ≡ suc i + m = omega arith in inr (stands_at p s count (suc i) (next state) m (omega arith) (λ d. rw z at (h d)))

-- the plan's first draw is the seed's
commands : (seed n b : ℕ) → n ≤ 16 → 3 * b < n → commands_of (steps (load_bytes seed n b)) ≡ map (command_for (drawn (next seed))) (steps_of seed n b)
unfolding plan_of plan_with
commands seed n b h g = commands_load seed n b h g

-- a run of the load prints a line for each of its steps
lines_load : (seed n b : ℕ) → n ≤ 16 → 3 * b < n
    → Lines (plan_of seed n b).first (steps_of seed n b) (load_bytes seed n b) (begins (load_bytes seed n b)) (length (load_bytes seed n b))
lines_load seed n b h g =
    all_lines (plan_of seed n b).first (steps_of seed n b) (load_bytes seed n b) (begins (load_bytes seed n b)) (length (load_bytes seed n b))
    (omega (arith, two_hundred seed n b h g, long seed n b h g)) (reads_load seed n b h g)

printed : (seed n b : ℕ) → n ≤ 16 → 3 * b < n → run_text (load_bytes seed n b) ≡ lines_after 0 (outcomes_of (load_bytes seed n b))
unfolding text_up_to text_from
printed seed n b h g =
    let z : length (load_bytes seed n b) - 0 ≡ length (load_bytes seed n b) = omega arith in
    simp (opens_load seed n b h g) (rw z (lines_load seed n b h g).text)

-- the statement
pub every_load : EveryLoad
unfolding steps_of
every_load seed n b h g = record {
  lawful = lawful_load seed n b h g;
  opened = opens_load seed n b h g;
  reads = commands seed n b h g;
  count = two_hundred seed n b h g;
  lines = printed seed n b h g;
  answered = (lines_load seed n b h g).count ∙ two_hundred seed n b h g;
  readable = (lines_load seed n b h g).none;
  passes = λ j l. record_passes (drawn (next seed)) j (drawn_below seed) l;
  forty = λ j m. proposed_below (plan_of seed n b) (fair seed n b h g) 200 0 (next (next (next seed))) refl j m;
  proposed = λ j l. stands_at (plan_of seed n b) (Propose j) 200 0 (next (next (next seed))) (j / 10 * 50 + j % 10) (omega arith)
      (λ d. ap (λ (i : ℕ). step_for (plan_of seed n b) i d) (zero-add (j / 10 * 50 + j % 10)) ∙ proposes_at (plan_of seed n b) j d l);
  different = λ i j l m. records_differ (drawn (next seed)) i j (drawn_below seed) l m;
  preflights = omega (arith, preflights_counted seed n b h g);
  apart = λ other e. loads_differ seed other n b h g e;
}
