-- Each check decides what specs/Meaning.antt says: the connectives and searches of a check are read off one by one.
-- At the end, what each answer of `check_of` means.
use mathlib.Core.Bool.{Bool, cond, false, not, true}
use mathlib.Core.Logic.{◌⊎◌, inl, inr, ⊎_elim}
use mathlib.Core.Path.{◌≡◌, refl}
use Prim.Native.Nat.{◌+◌, ◌<◌, ◌≤◌, ℕ}
use native.Mathlib.Omega.{arith}
use lib.Dec.{ltb}
use borrow.Author.Tests.{lt-ltb, ltb-true}
use Rattle.base.proofs.Reflect.{reflect_and, reflect_as, reflect_cond, reflect_eq, reflect_false, reflect_if, reflect_le}
use Rattle.base.proofs.Reflect.{reflect_true, refuted, refutes}
use Rattle.base.proofs.Search.{first_complete, first_end_complete, first_end_sound, first_sound, found_none, reflect_all, reflect_any, unfound}
use Rattle.base.specs.Reflect.{Reflects}
use Rattle.base.specs.Search.{first_below, sum_from}
use Rattle.outcome.specs.declared.Refusal.TheVariants.{Malformed, Repeated, Unbalanced, Unsupported}
use Rattle.outcome.specs.Figures.{Verdict}
use Rattle.std.specs.Prelude.{Ok, Err}
use Rattle.record.proofs.Ranges.{reflect_between}
use Rattle.checks.specs.Checks.{balanced, check_of, counts_formed, entry_formed, has_label_of, inputs_formed, is_blank, is_filled, is_written, repeated_at}
use Rattle.checks.specs.Checks.{trimmed_formed, unsupported_at, well_formed}
use Rattle.drives.specs.Drives.{is_drive}
use Rattle.record.specs.Entries.{frames_of, label_of, used_frames}
use Rattle.record.specs.Meaning.{Label, Used}
use Rattle.checks.specs.Meaning.{Answer, Balanced, RepeatedAt, UnsupportedAt}
use Rattle.checks.specs.Meaning.{WellFormed, malformed, passes, repeated, takes, unbalanced, unsupported}
use Rattle.record.specs.declared.Job.{Job}
use Rattle.record.proofs.Meaning.{reflect_used, reflect_label}

-- ---- 6
reflect_inputs : (j : Job) → Reflects (inputs_formed j) (((j.kind ≡ 0) × (j.inputs ≡ 0)) ⊎ ((j.kind ≡ 1) × ((1 ≤ j.inputs) × (j.inputs ≤ 4))))
unfolding inputs_formed
reflect_inputs j =
    reflect_as
    (reflect_cond (reflect_eq j.kind 0) (reflect_eq j.inputs 0) (reflect_and (reflect_eq j.kind 1) (reflect_between 1 4 j.inputs)))
    (⊎_elim (λ h. inl h) (λ h. inr h.1))
    (⊎_elim (λ h. inl h) (λ h. inr ((λ e. absurd (omega (arith, h.0, e))), h)))

reflect_entry : (j : Job) (i : ℕ) → Reflects (entry_formed j i)
    ((Used j i → Label (label_of j i) × (1 ≤ frames_of j i)) × ((Used j i → ⊥) → (label_of j i ≡ 0) × (frames_of j i ≡ 0)))
unfolding entry_formed is_filled is_blank
reflect_entry j i =
    reflect_if (reflect_used j i)
    (reflect_and (reflect_label (label_of j i)) (reflect_le 1 (frames_of j i)))
    (reflect_and (reflect_eq (label_of j i) 0) (reflect_eq (frames_of j i) 0))

reflect_trimmed : (j : Job) → Reflects (trimmed_formed j) (j.kind ≡ 0 → j.trimmed ≡ 0)
unfolding trimmed_formed
reflect_trimmed j =
    reflect_as (reflect_if (reflect_eq j.kind 0) (reflect_eq j.trimmed 0) (reflect_true true)) (λ h. h.0) (λ h. (h, λ _. refl))

pub reflect_formed : (j : Job) → Reflects (well_formed j) (WellFormed Label j)
unfolding well_formed is_drive counts_formed
reflect_formed j =
    reflect_as
    (reflect_and (reflect_between 5 9 j.drive)
    (reflect_and (reflect_and (reflect_inputs j) (reflect_between 1 4 j.outputs))
    (reflect_and (reflect_trimmed j) (reflect_all 8 (λ i h. reflect_entry j i)))))
    (λ h. record {
      drive = h.0;
      inputs = h.1.0.0;
      outputs = h.1.0.1;
      trimmed = h.1.1.0;
      used = λ i l. (h.1.1.1 i l).0;
      unused = λ i l. (h.1.1.1 i l).1;
    })
    (λ h. (h.drive, ((h.inputs, h.outputs), (h.trimmed, λ i l. (h.used i l, h.unused i l)))))

-- ---- 7
pub reflect_repeated : (j : Job) (i : ℕ) → Reflects (repeated_at j i) (RepeatedAt j i)
unfolding repeated_at has_label_of
reflect_repeated j i =
    reflect_and (reflect_used j i) (reflect_any i (λ k h. reflect_and (reflect_used j k) (reflect_eq (label_of j k) (label_of j i))))

-- ---- 8
unsupported_by : {W : Type 0} (d l : ℕ) (w : Bool) → Reflects w W
    → Reflects (not (takes w d l)) ((W × (takes true d l ≡ false)) ⊎ ((W → ⊥) × (takes false d l ≡ false)))
unsupported_by d l true r = reflect_cond r (reflect_false (takes true d l)) (reflect_false (takes false d l))
unsupported_by d l false r = reflect_cond r (reflect_false (takes true d l)) (reflect_false (takes false d l))

pub reflect_unsupported : (j : Job) (i : ℕ) → Reflects (unsupported_at j i) (UnsupportedAt takes j i)
unfolding unsupported_at is_written
reflect_unsupported j i =
    reflect_and (reflect_used j i)
    (unsupported_by j.drive (label_of j i) _ (reflect_and (reflect_le 4 i) (reflect_eq j.kind 1)))

-- ---- 9
pub reflect_balanced : (j : Job) → Reflects (balanced j) (Balanced j)
unfolding balanced
reflect_balanced j =
    reflect_as (reflect_if (reflect_eq j.kind 1) (reflect_eq (sum_from (used_frames j) 0 4) (sum_from (used_frames j) 4 4 + j.trimmed)) (reflect_true true))
    (λ h. h.0)
    (λ h. (h, λ _. refl))

-- ---- the answer
module _ (j : Job) where
  repeats : (i : ℕ) → i < 8 → Reflects (repeated_at j i) (RepeatedAt j i)
  repeats i h = reflect_repeated j i

  fails : (i : ℕ) → i < 8 → Reflects (unsupported_at j i) (UnsupportedAt takes j i)
  fails i h = reflect_unsupported j i

  -- `check_of` with its tests apart, so that each can be decided
  answer : Bool → Bool → Bool → Bool → Verdict
  answer formed again without level =
      cond formed
      (cond again (Err (Repeated (first_below 8 (repeated_at j))))
      (cond without (Err (Unsupported (first_below 8 (unsupported_at j))))
      (cond level (Ok (tt {0})) (Err Unbalanced))))
      (Err Malformed)

  answered : (f r u b : Bool) → well_formed j ≡ f → ltb (first_below 8 (repeated_at j)) 8 ≡ r
      → ltb (first_below 8 (unsupported_at j)) 8 ≡ u → balanced j ≡ b → Answer j (answer f r u b)
  unfolding answer
  answered false r u b ef er eu eb = malformed (refuted (reflect_formed j) ef)
  answered true true u b ef er eu eb =
      repeated _ ((reflect_formed j).sound ef) (first_sound 8 repeats _ (ltb-true _ _ er) refl)
  answered true false true b ef er eu eb =
      unsupported _ ((reflect_formed j).sound ef) (first_end_sound 8 repeats (unfound _ 8 er)) (first_sound 8 fails _ (ltb-true _ _ eu) refl)
  answered true false false true ef er eu eb =
      passes ((reflect_formed j).sound ef) (first_end_sound 8 repeats (unfound _ 8 er)) (first_end_sound 8 fails (unfound _ 8 eu))
      ((reflect_balanced j).sound eb)
  answered true false false false ef er eu eb =
      unbalanced ((reflect_formed j).sound ef) (first_end_sound 8 repeats (unfound _ 8 er)) (first_end_sound 8 fails (unfound _ 8 eu))
      (refuted (reflect_balanced j) eb)

  pub check_answers : Answer j (check_of j)
  unfolding check_of answer
  check_answers = answered (well_formed j) _ _ (balanced j) refl refl refl refl

  -- and no other answer is meant
  pub answers_check : (v : Verdict) → Answer j v → check_of j ≡ v
  unfolding check_of
  answers_check v (malformed f) = simp (refutes (reflect_formed j) f)
  answers_check v (repeated e f r) =
      let at : first_below 8 (repeated_at j) ≡ e = first_complete 8 repeats e r in
      simp ((reflect_formed j).complete f, at, lt-ltb e 8 r.below)
  answers_check v (unsupported e f r u) =
      let at : first_below 8 (unsupported_at j) ≡ e = first_complete 8 fails e u in
      simp ((reflect_formed j).complete f, found_none (repeated_at j) 8 (first_end_complete 8 repeats r), at, lt-ltb e 8 u.below)
  answers_check v (passes f r u b) =
      simp (
        (reflect_formed j).complete f,
        found_none (repeated_at j) 8 (first_end_complete 8 repeats r),
        found_none (unsupported_at j) 8 (first_end_complete 8 fails u),
        (reflect_balanced j).complete b,
      )
  answers_check v (unbalanced f r u b) =
      simp (
        (reflect_formed j).complete f,
        found_none (repeated_at j) 8 (first_end_complete 8 repeats r),
        found_none (unsupported_at j) 8 (first_end_complete 8 fails u),
        refutes (reflect_balanced j) b,
      )
