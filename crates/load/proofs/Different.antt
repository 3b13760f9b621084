-- The forty records are different, and so are the loads of seeds whose first draws differ.
use mathlib.Core.Bool.{cond}
use mathlib.Core.List.{List}
use mathlib.Core.Path.{◌∙◌, ◌≡◌, ap, refl, sym}
use Prim.Native.Nat.{◌%◌, ◌*◌, ◌+◌, ◌-◌, ◌/◌, ◌<◌, ◌^◌, ◌≤◌, ℕ}
use native.Mathlib.Omega.{arith}
use lib.Dec.{eqb}
use lib.ListN.{get_or}
use borrow.Author.Tests.{eqb-true}
use Rattle.base.proofs.Reflect.{by_cases}
use Rattle.codec.specs.Codec.{bytes_of, job_of, le_at}
use Rattle.generator.specs.Generator.{drawn, next}
use Rattle.ledger.specs.Worlds.{propose}
use Rattle.record.specs.Entries.{no_entry}
use Rattle.record.specs.declared.Job.{Job}
use Rattle.runfile.specs.Run.{begins}
use Rattle.runfile.specs.Steps.{request, step_at}
use Rattle.load.proofs.Checked.{record_reads}
use Rattle.load.proofs.Reading.{next_step}
use Rattle.load.proofs.Whole.{drawn_below, reads_load}
use Rattle.load.specs.Loads.{load_bytes, steps_from, steps_of}
use Rattle.load.specs.Plans.{plan_of, plan_with}
use Rattle.load.specs.Records.{A, B, accession, job_for, label_for, lower_frames, main_job, migration, rival_job, side_job, tape, upper_frames}
use Rattle.load.specs.Steps.{asking, step_for}
use Rattle.load.specs.declared.Step.TheVariants.{Propose}

-- ---- records
-- the first output of a job has a label with the job's own number
abbrev own_label : Job → ℕ
own_label j = (get_or j.entries 4 no_entry).label

record Own (job : Job) (j : ℕ) : Type 0 where
  medium : ℕ
  small : medium < 100
  label : own_label job ≡ label_for A j medium

own_main : (f g r : ℕ) → r < 4 → Own (main_job f g r) (10 * r)
unfolding main_job
own_main f g r h =
    by_cases (λ b. Own (cond b (accession 5 2 (tape A 0 5 f) (tape B 0 5 g))
    (migration (5 + r) 2 (tape A (10 * r - 10) (4 + r) f) (tape B (10 * r - 10) (4 + r) g) (tape A (10 * r) (5 + r) f) (tape B (10 * r) (5 + r) g)))
    (10 * r)) (eqb r 0)
    (λ e. record { medium = 5; small = omega arith; label = let z : 10 * r ≡ 0 = omega (arith, eqb-true r 0 e) in rw z })
    (λ e. record { medium = 5 + r; small = omega arith; label = refl })

own_rival : (f r : ℕ) → r < 4 → Own (rival_job f r) (10 * r + 1)
unfolding rival_job
own_rival f r h =
    by_cases (λ b. Own (cond b (accession 5 2 (tape A 1 5 f) (tape A 0 5 f))
    (migration (5 + r) 1 (tape A (10 * r - 10) (4 + r) f) no_entry (tape A (10 * r + 1) (5 + r) f) no_entry)) (10 * r + 1)) (eqb r 0)
    (λ e. record { medium = 5; small = omega arith; label = let z : 10 * r + 1 ≡ 1 = omega (arith, eqb-true r 0 e) in rw z })
    (λ e. record { medium = 5 + r; small = omega arith; label = refl })

own_side : (j : ℕ) → Own (side_job j) j
unfolding side_job
own_side j = record { medium = 5 + j % 5; small = omega arith; label = refl }

own : (first j : ℕ) → j < 40 → Own (job_for first j) j
unfolding job_for
own first j h =
    by_cases (λ b. Own (cond b (main_job (lower_frames first) (upper_frames first) (j / 10)) (cond (eqb (j % 10) 1) (rival_job (lower_frames first) (j / 10))
    (side_job j))) j) (eqb (j % 10) 0)
    (λ e. let z : 10 * (j / 10) ≡ j = omega (arith, eqb-true (j % 10) 0 e) in rw z at (own_main (lower_frames first) (upper_frames first) (j / 10) (omega arith)))
    (λ e. by_cases (λ b. Own (cond b (rival_job (lower_frames first) (j / 10)) (side_job j)) j) (eqb (j % 10) 1)
    (λ f. let z : 10 * (j / 10) + 1 ≡ j = omega (arith, eqb-true (j % 10) 1 f) in rw z at (own_rival (lower_frames first) (j / 10) (omega arith)))
    (λ f. own_side j))

-- two characters of a label are the digits of the job's number
tens : (j m : ℕ) → j < 100 → m < 100 → label_for A j m / 4294967296 % 256 ≡ 48 + j / 10
unfolding label_for le_at
tens j m h g = omega arith

above : (x low up : ℕ) → x ≡ low + 1099511627776 * up → low < 1099511627776 → x / 1099511627776 % 256 ≡ up % 256
above x low up e h = ap (λ (y : ℕ). y % 256) (let q : x / 1099511627776 ≡ up = omega arith in q)

low_byte : (x y : ℕ) → x < 256 → (x + 256 * y) % 256 ≡ x
low_byte x y h = omega arith

units : (j m : ℕ) → j < 100 → m < 100 → label_for A j m / 1099511627776 % 256 ≡ 48 + j % 10
unfolding label_for le_at
units j m h g =
    above (label_for A j m) (84 + 256 * (76 + 256 * (65 + 256 * (48 + 256 * (48 + j / 10))))) (48 + j % 10 + 256 * (76 + 256 * (48 + m))) (omega arith)
    (omega arith)
    ∙ low_byte (48 + j % 10) (76 + 256 * (48 + m)) (omega arith)

label_tells : (i j m k : ℕ) → i < 100 → j < 100 → m < 100 → k < 100 → label_for A i m ≡ label_for A j k → i ≡ j
label_tells i j m k a b c d e =
    let t = sym (tens i m a c) ∙ ap (λ (x : ℕ). x / 4294967296 % 256) e ∙ tens j k b d in
    let u = sym (units i m a c) ∙ ap (λ (x : ℕ). x / 1099511627776 % 256) e ∙ units j k b d in
    omega (arith, t, u)

-- "At least forty different records are proposed"
pub records_differ : (first i j : ℕ) → first < 2 ^ 32 → i < 40 → j < 40 → bytes_of 1 (job_for first i) ≡ bytes_of 1 (job_for first j) → i ≡ j
records_differ first i j b h g e =
    let same : job_for first i ≡ job_for first j = sym (record_reads first i b h) ∙ ap job_of e ∙ record_reads first j b g in
    let x = own first i h in
    let y = own first j g in
    label_tells i j x.medium y.medium (omega arith) (omega arith) x.small y.small (sym x.label ∙ ap own_label same ∙ y.label)

-- ---- loads
-- the first step proposes the record of job 0
first_record : (seed n b : ℕ) → n ≤ 16 → 3 * b < n → step_at 1 (load_bytes seed n b) 9 ≡ request (propose (bytes_of 1 (job_for (drawn (next seed)) 0)))
unfolding steps_of steps_from step_for asking plan_of plan_with
first_record seed n b h g =
    let h' = reads_load seed n b h g in
    ap (λ (v : ℕ). step_at v (load_bytes seed n b) 9) (sym h'.version) ∙ (next_step _ (Propose 0) _ (load_bytes seed n b) (begins (load_bytes seed n b)) h').reads

abbrev frames_at : Job → ℕ → ℕ
frames_at j e = (get_or j.entries e no_entry).frames

lower : (first : ℕ) → frames_at (job_for first 0) 4 ≡ lower_frames first
unfolding job_for main_job
lower first = refl

upper : (first : ℕ) → frames_at (job_for first 0) 5 ≡ upper_frames first
unfolding job_for main_job
upper first = refl

proposed_bytes : (a b : List ℕ) → request (propose a) ≡ request (propose b) → a ≡ b
proposed_bytes a b e = cc

-- "with the same n and b, seeds whose first draws differ give different loads"
pub loads_differ : (seed other n b : ℕ) → n ≤ 16 → 3 * b < n → load_bytes seed n b ≡ load_bytes other n b → drawn (next seed) ≡ drawn (next other)
loads_differ seed other n b h g e =
    let x = drawn (next seed) in
    let y = drawn (next other) in
    let bytes : bytes_of 1 (job_for x 0) ≡ bytes_of 1 (job_for y 0) =
    proposed_bytes _ _ (sym (first_record seed n b h g) ∙ ap (λ (l : List ℕ). step_at 1 l 9) e ∙ first_record other n b h g) in
    let same : job_for x 0 ≡ job_for y 0 = sym (record_reads x 0 (drawn_below seed) (omega arith)) ∙ ap job_of bytes
    ∙ record_reads y 0 (drawn_below other) (omega arith) in
    let low : lower_frames x ≡ lower_frames y = sym (lower x) ∙ ap (λ (j : Job). frames_at j 4) same ∙ lower y in
    let high : upper_frames x ≡ upper_frames y = sym (upper x) ∙ ap (λ (j : Job). frames_at j 5) same ∙ upper y in
    omega (arith, low, high)
