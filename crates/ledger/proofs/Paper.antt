-- Checks 11 to 14 are what the paper's Algorithm 1 asks, with document 01's mends: of a job that passes 6 to 9 they pass exactly where
-- it signs. The entries are read as the lists of tapes that the paper's In and Out are.
use mathlib.Core.List.{List, ◌++◌}
use mathlib.Core.Logic.{◌⊎◌, inl, inr, ⊎_elim}
use mathlib.Core.Path.{◌∙◌, ◌≡◌, ap, subst, sym}
use Prim.Native.Nat.{◌<◌, ◌≤◌, zero-le, ℕ}
use native.Mathlib.Omega.{arith}
use lib.ListN.{set}
use Rattle.base.proofs.Members.{distinct_apart, distinct_left, distinct_right, in_map, map_append, map_in}
use Rattle.base.proofs.Reflect.{decided}
use Rattle.base.specs.Lists.{Distinct, In}
use Rattle.outcome.specs.Figures.{Verdict}
use Rattle.std.specs.Prelude.{Ok}
use Rattle.record.proofs.Meaning.{reflect_used}
use Rattle.conflicts.proofs.Tapes.{at_used, checked_well_formed, used_at_lem}
use Rattle.checks.specs.Checks.{check_of}
use Rattle.record.specs.Entries.{frames_of, label_of}
use Rattle.checks.specs.Meaning.{Nowhere}
use Rattle.record.specs.Meaning.{Used}
use Rattle.conflicts.specs.Tapes.{input_tapes, labels, output_tapes}
use Rattle.record.specs.declared.Entry.{Entry}
use Rattle.record.specs.declared.Job.{Job}
use Rattle.job_sets.specs.declared.job_set.JobSet.{JobSet}
use Rattle.ledger.proofs.Meaning.{admission_answers, answers_admission, reflect_made}
use Rattle.queries.specs.Admission.{admission}
use Rattle.ledger.specs.Graph.{Algorithm1, Consumer, Creator, Maker, Unblocked}
use Rattle.ledger.specs.Meaning.{Admission, ConsumedAt, NotCreatedAt, RemadeAt, admitted, consumed, missing, remade, reserved}

module _ (job : ℕ → Job) (booked : ℕ) (held others : JobSet) (j : Job) where
  -- the place of an input tape, and of an output's label
  pub input_place : (t : Entry) → In t (input_tapes j) → (i : ℕ) × ((i < 4) × (Used j i × (record { label = label_of j i; frames = frames_of j i } ≡ t)))
  unfolding label_of frames_of
  input_place t m = let a = used_at_lem j 0 4 t m in (a.place, (omega (arith, a.until), ((reflect_used j a.place).sound a.used, a.is)))

  output_place : (x : ℕ) → In x (labels (output_tapes j)) → (i : ℕ) × ((i < 8) × ((4 ≤ i) × (Used j i × (label_of j i ≡ x))))
  unfolding label_of
  output_place x m =
      let q = map_in (λ (t : Entry). t.label) (output_tapes j) x m in
      let a = used_at_lem j 4 4 q.0 q.1 in
      (a.place, (omega (arith, a.until), (a.from, ((reflect_used j a.place).sound a.used, ap (λ (t : Entry). t.label) a.is ∙ sym q.2))))

  input_label : (x : ℕ) → In x (labels (input_tapes j)) → (i : ℕ) × ((i < 4) × (Used j i × (label_of j i ≡ x)))
  input_label x m =
      let q = map_in (λ (t : Entry). t.label) (input_tapes j) x m in
      let p = input_place q.0 q.1 in
      (p.0, (p.1.0, (p.1.1.0, ap (λ (t : Entry). t.label) p.1.1.1 ∙ sym q.2)))

  -- a check that offends nowhere lets every tape through
  module _ (n11 : Nowhere (NotCreatedAt job booked held j)) (n12 : Nowhere (ConsumedAt job booked held j))
      (n13 : Nowhere (ConsumedAt job booked others j)) (n14 : Nowhere (RemadeAt job booked held others j)) where
    created : (t : Entry) → In t (input_tapes j) → Creator job booked held t
    created t m =
        let p = input_place t m in
        subst (λ (x : Entry). Creator job booked held x) p.1.1.1
        (decided (reflect_made job booked held (record { label = label_of j p.0; frames = frames_of j p.0 }))
        (λ n. n11 p.0 (omega (arith, p.1.0)) (p.1.0, (p.1.1.0, n))))

    unconsumed : (set : JobSet) → Nowhere (ConsumedAt job booked set j) → (x : ℕ) → In x (labels (input_tapes j)) → Consumer job booked set x → ⊥
    unconsumed set none x m c =
        let p = input_label x m in
        none p.0 (omega (arith, p.1.0)) (p.1.0, (p.1.1.0, subst (λ (y : ℕ). Consumer job booked set y) (sym p.1.1.1) c))

    unmade : (x : ℕ) → In x (labels (output_tapes j)) → Maker job booked held x ⊎ Maker job booked others x → ⊥
    unmade x m c =
        let p = output_place x m in
        n14 p.0 p.1.0 (p.1.1.0, (p.1.1.1.0, subst (λ (y : ℕ). Maker job booked held y ⊎ Maker job booked others y) (sym p.1.1.1.1) c))

    unblocked : Unblocked job booked held others j
    unblocked = record { created = created; unconsumed = unconsumed held n12; unmarked = unconsumed others n13; unmade = unmade }

  admitted_unblocked : (v : Verdict) → v ≡ Ok (tt {0}) → Admission job booked held others j v → Unblocked job booked held others j
  admitted_unblocked v e (admitted a b c d) = unblocked a b c d
  admitted_unblocked v e (missing i m) = let z : ◌≡◌ {A = ℕ} 0 1 = cc in absurd (omega arith)
  admitted_unblocked v e (consumed i a m) = let z : ◌≡◌ {A = ℕ} 0 1 = cc in absurd (omega arith)
  admitted_unblocked v e (reserved i a b m) = let z : ◌≡◌ {A = ℕ} 0 1 = cc in absurd (omega arith)
  admitted_unblocked v e (remade i a b c m) = let z : ◌≡◌ {A = ℕ} 0 1 = cc in absurd (omega arith)

  pub admission_unblocked : admission job booked held others j ≡ Ok (tt {0}) → Unblocked job booked held others j
  admission_unblocked e = admitted_unblocked (admission job booked held others j) e (admission_answers job booked held others j)

  -- checks 11 to 14 pass exactly where Algorithm 1 signs
  pub admission_signs : check_of j ≡ Ok (tt {0}) → admission job booked held others j ≡ Ok (tt {0}) → Algorithm1 job booked held others j
  admission_signs h e =
      let s = checked_well_formed j h in
      let u = admission_unblocked e in
      let d : Distinct (labels (input_tapes j) ++ labels (output_tapes j)) =
      subst (λ (l : List ℕ). Distinct l) (map_append (λ (t : Entry). t.label) (input_tapes j) (output_tapes j)) s.distinct in
      record {
        admissible = record {
          valid = h;
          inputs_once = distinct_left (labels (input_tapes j)) (labels (output_tapes j)) d;
          outputs_once = distinct_right (labels (input_tapes j)) (labels (output_tapes j)) d;
          apart = distinct_apart (labels (input_tapes j)) (labels (output_tapes j)) d;
          frontier = λ t m. record { created = u.created t m; unconsumed = u.unconsumed t.label (in_map (λ (t : Entry). t.label) (input_tapes j) t m) };
          fresh = λ x m c. u.unmade x m (inl c);
        };
        unmarked_inputs = u.unmarked;
        unmarked_outputs = λ x m c. u.unmade x m (inr c);
      }

  pub input_in : (i : ℕ) → i < 4 → Used j i → In (record { label = label_of j i; frames = frames_of j i }) (input_tapes j)
  unfolding label_of frames_of
  input_in i h u = at_used j 0 4 i zero-le (omega arith) ((reflect_used j i).complete u)

  output_in : (i : ℕ) → i < 8 → 4 ≤ i → Used j i → In (label_of j i) (labels (output_tapes j))
  unfolding label_of
  output_in i h l u = in_map (λ (t : Entry). t.label) (output_tapes j) _ (at_used j 4 4 i l (omega arith) ((reflect_used j i).complete u))

  pub unblocked_admission : Unblocked job booked held others j → admission job booked held others j ≡ Ok (tt {0})
  unblocked_admission u =
      answers_admission job booked held others j (Ok (tt {0}))
      (admitted
      (λ i h n. n.1.1 (u.created _ (input_in i n.0 n.1.0)))
      (λ i h n. u.unconsumed (label_of j i) (in_map (λ (t : Entry). t.label) (input_tapes j) _ (input_in i n.0 n.1.0)) n.1.1)
      (λ i h n. u.unmarked (label_of j i) (in_map (λ (t : Entry). t.label) (input_tapes j) _ (input_in i n.0 n.1.0)) n.1.1)
      (λ i h n. u.unmade (label_of j i) (output_in i h n.0 n.1.0) n.1.1))

  pub signs_admission : Algorithm1 job booked held others j → admission job booked held others j ≡ Ok (tt {0})
  signs_admission a = unblocked_admission (record {
    created = λ t m. (a.admissible.frontier t m).created;
    unconsumed = λ x m c.
        let q = map_in (λ (t : Entry). t.label) (input_tapes j) x m in
        (a.admissible.frontier q.0 q.1).unconsumed (subst (λ (y : ℕ). Consumer job booked held y) q.2 c);
    unmarked = a.unmarked_inputs;
    unmade = λ x m c. ⊎_elim (a.admissible.fresh x m) (a.unmarked_outputs x m) c;
  })
