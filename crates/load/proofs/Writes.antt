-- What is written of a step: a proposal's record, and each kind's bytes.
use mathlib.Core.Bool.{Bool, cond, false, true}
use mathlib.Core.List.{List, [], ◌++◌, append_assoc, append-nil}
use mathlib.Core.Path.{◌∙◌, ◌≡◌, refl, sym}
use Prim.Native.Nat.{◌+◌, ◌-◌, ◌<◌, ◌≤◌, suc, ℕ}
use native.Mathlib.Nat.{add-sub_cancel_left}
use native.Mathlib.Numerals.{add-one}
use native.Mathlib.Omega.{arith}
use lib.ListN.{drop, drop_of_length-le, length, length-append, length-drop, length-take, take}
use lib.Seq.{drop-drop, sets, sets-eq}
use borrow.Author.Tests.{le-leb}
use Rattle.codec.proofs.Jobs.{length_bytes_of}
use Rattle.codec.proofs.Numbers.{sets_append}
use Rattle.codec.specs.Codec.{bytes_of, fits_record, record_size, says_trimmed, written}
use Rattle.generator.specs.Generator.{drawn, next}
use Rattle.record.specs.declared.Job.{Job}
use Rattle.digits.specs.Digits.{Put}
use Rattle.load.specs.Loads.{steps_bytes, steps_from}
use Rattle.load.specs.Records.{job_for, main_job, rival_job, side_job}
use Rattle.load.specs.Steps.{step_bytes, step_for}
use Rattle.load.specs.declared.Plan.{Plan}
use Rattle.load.specs.declared.Step.{Step}

if_entries : (b : Bool) (x y : Job) → length (cond b x y).entries ≡ cond b (length x.entries) (length y.entries)
if_entries true x y = refl
if_entries false x y = refl

if_trimmed : (b : Bool) (x y : Job) → (cond b x y).trimmed ≡ cond b x.trimmed y.trimmed
if_trimmed true x y = refl
if_trimmed false x y = refl

if_same : (b : Bool) (n : ℕ) → cond b n n ≡ n
if_same true n = refl
if_same false n = refl

-- every job of a load has eight entries
pub eight : (first j : ℕ) → length (job_for first j).entries ≡ 8
unfolding job_for main_job rival_job side_job
eight first j = simp (if_entries, if_same)

-- and no trimmed frames
pub untrimmed : (first j : ℕ) → (job_for first j).trimmed ≡ 0
unfolding job_for main_job rival_job side_job
untrimmed first j = simp (if_trimmed, if_same)

-- "a version 1 run file"
pub size_one : record_size 1 ≡ 100
unfolding record_size says_trimmed
size_one = refl

-- a record put into a part of the buffer
pub recorded : (o ys : List ℕ) (at : ℕ) (j k : Job) → length j.entries ≡ 8 → at + 100 ≤ length o
    → k ≡ j → ys ≡ written 1 k (take (at + 100 - at) (drop at o))
    → Put o at (bytes_of 1 j) (take at o ++ (ys ++ drop (at + 100 - at) (drop at o))) (at + 100)
unfolding written fits_record record_size says_trimmed
recorded o ys at j k n h q e =
    let size = length_bytes_of 1 j n in
    let part : length (take 100 (drop at o)) ≡ 100 = simp (length-take, length-drop) (omega arith) in
    let whole : ys ≡ bytes_of 1 j = e ∙ simp (
      q,
      add-sub_cancel_left,
      le-leb 100 (length (take 100 (drop at o))) (omega arith),
      drop_of_length-le (take 100 (drop at o)) {i = 100} (omega arith),
      append-nil,
    ) in
    record {
      moved = omega (arith, size);
      wrote = rw (whole, add-sub_cancel_left, drop-drop) (sym (sets-eq (bytes_of 1 j) o at (omega arith)
          ∙ rw (size, append_assoc)));
    }

-- the bytes of a step that is known by its case
pub arm : {o p : List ℕ} {at r : ℕ} (first : ℕ) (s t : Step) → s ≡ t → Put o at (step_bytes first t) p r → Put o at (step_bytes first s) p r
arm first s t e w = rw e w

-- ---- steps one after the other: what is left to write, from where the cursor is
pub record Rest (o all out : List ℕ) (at : ℕ) (rest : List ℕ) : Type 0 where
  pub moved : at + length rest ≡ 9 + length all
  pub wrote : sets out at rest ≡ sets o 9 all

pub rest_step : {o all out after : List ℕ} {at r : ℕ} (s rest : List ℕ) → Rest o all out at (s ++ rest) → Put out at s after r → Rest o all after r rest
rest_step {o} {all} {out} {after} {at} {r} s rest h w =
    record { moved = omega (arith, h.moved, w.moved, length-append s rest); wrote = rw (w.wrote, w.moved) (sym (sets_append s out at rest) ∙ h.wrote) }

pub rest_none : {o all out : List ℕ} {at : ℕ} → Rest o all out at [] → Put o 9 all out at
rest_none h = record { moved = omega (arith, h.moved); wrote = h.wrote }

pub next_bytes : (p : Plan) (i state : ℕ) → i < 200
    → steps_bytes p (200 - i) i state ≡ step_bytes p.first (step_for p i (drawn (next state))) ++ steps_bytes p (200 - (i + 1)) (i + 1) (next state)
unfolding steps_bytes steps_from
next_bytes p i state h = let n : 200 - i ≡ suc (200 - (i + 1)) = omega arith in rw (n, add-one)

pub no_bytes : (p : Plan) (i state : ℕ) → 200 ≤ i → steps_bytes p (200 - i) i state ≡ []
unfolding steps_bytes steps_from
no_bytes p i state h = let n : 200 - i ≡ 0 = omega arith in rw n

-- one step more
pub rest_on : {o all out after : List ℕ} {at r : ℕ} (p : Plan) (i state now d : ℕ) (s : Step)
    → i < 200 → now ≡ next state → d ≡ drawn now → s ≡ step_for p i d
    → Rest o all out at (steps_bytes p (200 - i) i state) → Put out at (step_bytes p.first s) after r
    → Rest o all after r (steps_bytes p (200 - (i + 1)) (i + 1) now)
rest_on {o} {all} {out} {after} {at} {r} p i state now d s h n e f rest w =
    let start : Rest o all out at (step_bytes p.first (step_for p i (drawn (next state))) ++ steps_bytes p (200 - (i + 1)) (i + 1) (next state)) = rw
    (next_bytes p i state h) at rest in
    let written : Put out at (step_bytes p.first (step_for p i (drawn (next state)))) after r = rw (f, e, n) at w in
    rw n (rest_step _ _ start written)
