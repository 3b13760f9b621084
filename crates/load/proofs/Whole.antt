-- The run of a whole load: check 1 lets it through, and its steps are read.
use mathlib.Core.Bool.{Bool, cond, false, true}
use mathlib.Core.List.{List, [], ◌∷◌, map}
use mathlib.Core.Path.{◌∙◌, ◌≡◌, ap, refl}
use Prim.Native.Nat.{◌%◌, ◌*◌, ◌-◌, ◌<◌, ◌^◌, ◌≤◌, suc, zero, ℕ}
use native.Mathlib.Omega.{arith}
use lib.Dec.{ltb}
use lib.ListN.{length, length-append}
use lib.Pow.{pow_mono}
use borrow.Author.Tests.{le-leb}
use Rattle.codec.proofs.Jobs.{length_bytes_of}
use Rattle.codec.specs.Codec.{le_bytes}
use Rattle.federation.proofs.Lawful.{reflect_lawful}
use Rattle.federation.specs.Federation.{Lawful, is_lawful}
use Rattle.generator.specs.Generator.{drawn, next}
use Rattle.ledger.specs.State.{new_ledger}
use Rattle.runfile.specs.History.{steps}
use Rattle.runfile.specs.Run.{begins, is_header, opened, opens, opens_up_to}
use Rattle.runfile.specs.Steps.{word_at}
use Rattle.load.proofs.Reading.{Reads, all_commands, step_nonempty}
use Rattle.load.proofs.Vaults.{faulty_lawful, plan_fair}
use Rattle.load.proofs.Writes.{eight, size_one}
use Rattle.load.specs.Commands.{AllWritten, Written, command_for, commands_of}
use Rattle.load.specs.Loads.{all_bytes, load_bytes, steps_from, steps_of}
use Rattle.load.specs.Plans.{Fair, correct_of, faulty_of, plan_of, plan_with}
use Rattle.load.specs.Records.{job_for}
use Rattle.load.specs.Steps.{asking, delivering, header_bytes, step_bytes, step_for}
use Rattle.load.specs.declared.Plan.{Plan}
use Rattle.load.specs.declared.Step.{Step}
use Rattle.load.specs.declared.Step.TheVariants.{Commit, Draw, FaultyAcknowledge, FaultySign, Generations, Preflight, Propose, Show}

pub drawn_below : (state : ℕ) → drawn (next state) < 2 ^ 32
unfolding drawn next
drawn_below state = omega arith

-- ---- the signers of every commit fit 16 bits
if_written : (b : Bool) (x y : Step) → Written x → Written y → Written (cond b x y)
if_written true x y p q = p
if_written false x y p q = q

written_step : (p : Plan) → Fair p → (i d : ℕ) → d < 2 ^ 32 → Written (step_for p i d)
unfolding step_for asking delivering correct_of
written_step p h i d l =
    let most : 2 ^ p.n ≤ 2 ^ 16 = pow_mono {i = p.n} {j = 16} h.vaults in
    let all : correct_of p < 2 ^ 16 = omega (arith, most) in
    if_written (ltb (i % 50) 29) _ _
    (if_written (ltb (i % 50) 10) _ _ tt (if_written (ltb (i % 50) 26) _ _ tt (if_written (ltb (i % 50) 28) _ _ tt tt)))
    (if_written (ltb (i % 50) 30) _ _ (omega arith) (if_written (ltb (i % 50) 46) _ _ all
    (if_written (ltb (i % 50) 47) _ _ tt (if_written (ltb (i % 50) 48) _ _ tt (if_written (ltb (i % 50) 49) _ _ tt tt)))))

pub written_steps : (p : Plan) → Fair p → (count i state : ℕ) → AllWritten (steps_from p count i state)
unfolding steps_from
written_steps p h zero i state = tt
written_steps p h (suc count) i state = (written_step p h i (drawn (next state)) (drawn_below state), written_steps p h count (suc i) (next state))

-- ---- no step has more than 101 bytes
step_size : (first : ℕ) (s : Step) → length (step_bytes first s) ≤ 101
unfolding le_bytes
step_size first (Propose j) = omega (arith, length_bytes_of 1 (job_for first j) (eight first j), size_one)
step_size first (Preflight v j) = omega arith
step_size first (Commit v j signers) = omega arith
step_size first (FaultySign v j) = omega arith
step_size first (FaultyAcknowledge v j) = omega arith
step_size first (Show j) = omega arith
step_size first (Draw u) = omega arith
step_size first (Generations j) = omega arith

steps_size : (first : ℕ) (ss : List Step) → length (all_bytes first ss) ≤ 101 * length ss
steps_size first [] = omega arith
steps_size first (s ∷ ss) = simp length-append (omega (arith, step_size first s, steps_size first ss))

steps_least : (first : ℕ) (ss : List Step) → length ss ≤ length (all_bytes first ss)
steps_least first [] = omega arith
steps_least first (s ∷ ss) = simp length-append (omega (arith, step_nonempty first s, steps_least first ss))

steps_count : (p : Plan) (count i state : ℕ) → length (steps_from p count i state) ≡ count
unfolding steps_from
steps_count p zero i state = refl
steps_count p (suc count) i state = ap suc (steps_count p count (suc i) (next state))

module _ (seed n b : ℕ) (vaults : n ≤ 16) (few : 3 * b < n) where
  abbrev plan : Plan
  plan = plan_of seed n b

  abbrev load : List ℕ
  load = load_bytes seed n b

  pub fair : Fair plan
  fair = plan_fair seed n b vaults few

  -- "a version 1 run file of 200 steps"
  pub two_hundred : length (steps_of seed n b) ≡ 200
  unfolding steps_of
  two_hundred = steps_count plan 200 0 (next (next (next seed)))

  pub reads_load : Reads plan.first (steps_of seed n b) load (begins load)
  unfolding steps_of load_bytes header_bytes le_bytes opened new_ledger
  reads_load = record {
    before = header_bytes n b (faulty_of plan);
    here = refl;
    whole = refl;
    written = written_steps plan fair 200 0 (next (next (next seed)));
    version = refl;
  }

  short : length load ≤ 20209
  unfolding load_bytes header_bytes le_bytes
  short = omega (arith, steps_size plan.first (steps_of seed n b), two_hundred)

  pub long : 209 ≤ length load
  unfolding load_bytes header_bytes le_bytes
  long = omega (arith, steps_least plan.first (steps_of seed n b), two_hundred)

  -- "the faulty set is lawful"
  pub lawful_load : Lawful (record { n = n; b = b; faulty = faulty_of plan; version = 1 })
  unfolding plan_of plan_with
  lawful_load = faulty_lawful plan fair

  pub faulty_word : word_at load 7 ≡ faulty_of plan
  unfolding load_bytes header_bytes le_bytes
  faulty_word = omega (arith, pow_mono {i = n} {j = 16} vaults, lawful_load.below)

  headed : is_header load ≡ true
  unfolding is_header load_bytes header_bytes
  headed = simp (le-leb 9 (length load) (omega (arith, long)))

  lawful_word : is_lawful (opened load).settings ≡ true
  unfolding opened new_ledger load_bytes header_bytes
  lawful_word = ap (λ (f : ℕ). is_lawful (record { n = n; b = b; faulty = f; version = 1 })) faulty_word ∙ (reflect_lawful (record {
    n = n;
    b = b;
    faulty = faulty_of plan;
    version = 1;
  })).complete lawful_load

  -- check 1 lets the load through
  pub opens_load : opens load ≡ true
  unfolding opens_up_to
  opens_load = simp (le-leb (length load) 65536 (omega (arith, short)), headed, lawful_word)

  -- a run reads the load as its steps
  pub commands_load : commands_of (steps load) ≡ map (command_for plan.first) (steps_of seed n b)
  commands_load = all_commands plan.first (steps_of seed n b) load (begins load) (length load - 0) (omega (arith, two_hundred, long)) reads_load
