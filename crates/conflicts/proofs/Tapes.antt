-- A job's tapes as lists say what the searches over its entries say: a label or a tape is found exactly where it is in the
-- list. A job that passes checks 6 to 9 has distinct labels, and its frames balance.
use mathlib.Core.Bool.{cond, true}
use mathlib.Core.List.{List, [], ◌++◌, ◌∷◌}
use mathlib.Core.Logic.{◌⊎◌, inl, inr, ⊎_elim}
use mathlib.Core.Path.{◌∙◌, ◌≡◌, ap, ap₂, refl, subst, sym}
use Prim.Native.Nat.{◌+◌, ◌-◌, ◌<◌, ◌≤◌, suc, zero, ℕ}
use native.Mathlib.Nat.{add-zero, le_refl, zero-add}
use native.Mathlib.Omega.{arith}
use lib.Dec.{eqb}
use lib.ListN.{get_or}
use borrow.Author.Tests.{eq-eqb, eqb-false, eqb-true, ne_eqb}
use Rattle.base.proofs.Members.{in_map, map_in}
use Rattle.base.proofs.Reflect.{by_cases, by_test, reflect_and, reflect_as, reflect_eq}
use Rattle.base.specs.Lists.{Distinct, In}
use Rattle.base.specs.Reflect.{Reflects}
use Rattle.base.specs.Search.{sum_from}
use Rattle.outcome.specs.Figures.{Verdict}
use Rattle.std.specs.Prelude.{Ok}
use Rattle.checks.proofs.Meaning.{check_answers}
use Rattle.conflicts.proofs.Meaning.{reflect_label_in, reflect_makes}
use Rattle.record.proofs.Meaning.{reflect_used}
use Rattle.checks.specs.Checks.{check_of}
use Rattle.conflicts.specs.Conflicts.{label_in, makes_tape}
use Rattle.record.specs.Entries.{frames_of, is_used, label_of, no_entry, used_frames}
use Rattle.checks.specs.Meaning.{Answer, Balanced, Nowhere, RepeatedAt, malformed, passes, repeated, unbalanced, unsupported}
use Rattle.conflicts.specs.Tapes.{frames_in, input_tapes, labels, output_tapes, same_tape, used_from}
use Rattle.record.specs.declared.Entry.{Entry}
use Rattle.record.specs.declared.Job.{Job}

pub reflect_tape : (s t : Entry) → Reflects (same_tape s t) (s ≡ t)
unfolding same_tape
reflect_tape s t =
    reflect_as (reflect_and (reflect_eq s.label t.label) (reflect_eq s.frames t.frames))
    (λ h. ap₂ (λ (l f : ℕ). record { label = l; frames = f }) h.0 h.1)
    (λ e. (ap (λ (x : Entry). x.label) e, ap (λ (x : Entry). x.frames) e))

-- ---- the used entries of a range
module _ (j : Job) where
  abbrev entry : ℕ → Entry
  entry i = get_or j.entries i no_entry

  -- entry k is a used one of the range, and is t
  pub record At (i n : ℕ) (t : Entry) : Type 0 where
    pub place : ℕ
    pub from : i ≤ place
    pub until : place < i + n
    pub used : is_used j place ≡ true
    pub is : entry place ≡ t

  pub used_at_lem : (i n : ℕ) (t : Entry) → In t (used_from j i n) → At i n t
  unfolding used_from
  used_at_lem i (suc n) t m =
      let rest = used_from j (suc i) n in
      let later : In t rest → At i (suc n) t = λ h.
      let a = used_at_lem (suc i) n t h in
      record { place = a.place; from = omega (arith, a.from); until = omega (arith, a.until); used = a.used; is = a.is } in
      by_cases (λ b. In t (cond b (entry i ∷ rest) rest) → At i (suc n) t) (is_used j i)
      (λ e. ⊎_elim (λ q. record { place = i; from = le_refl i; until = omega arith; used = e; is = sym q }) later) (λ e. later) m
  used_at_lem i zero t m = elim m [ ]

  pub at_used : (i n k : ℕ) → i ≤ k → k < i + n → is_used j k ≡ true → In (entry k) (used_from j i n)
  unfolding used_from
  at_used i zero k a b u = absurd (omega arith)
  at_used i (suc n) k a b u =
      let rest = used_from j (suc i) n in
      by_test (eqb i k)
      (λ q. rw (ap (is_used j) (eqb-true i k q) ∙ u) (inl (ap entry (sym (eqb-true i k q)))))
      (λ q.
      let later = at_used (suc i) n k (omega (arith, eqb-false i k q)) (omega arith) u in
      by_cases (λ b. In (entry k) (cond b (entry i ∷ rest) rest)) (is_used j i) (λ e. inr later) (λ e. later))

  pub used_append : (i n m : ℕ) → used_from j i (n + m) ≡ used_from j i n ++ used_from j (i + n) m
  unfolding used_from
  used_append i zero m = rw (zero-add, add-zero)
  used_append i (suc n) m =
      let a : suc n + m ≡ suc (n + m) = omega arith in
      let b : suc i + n ≡ i + suc n = omega arith in
      let all = used_from j (suc i) (n + m) in
      let rest = used_from j (suc i) n in
      let last = used_from j (i + suc n) m in
      let e : all ≡ rest ++ last = used_append (suc i) n m ∙ rw b in
      rw a
      (by_cases (λ b. cond b (entry i ∷ all) all ≡ cond b (entry i ∷ rest) rest ++ last) (is_used j i)
      (λ _. ap (λ (l : List Entry). entry i ∷ l) e) (λ _. e))

  pub used_frames_lem : (i n : ℕ) → frames_in (used_from j i n) ≡ sum_from (used_frames j) i n
  unfolding used_from sum_from used_frames frames_of
  used_frames_lem i zero = refl
  used_frames_lem i (suc n) =
      let rest = used_from j (suc i) n in
      by_cases (λ b. frames_in (cond b (entry i ∷ rest) rest) ≡ cond b (entry i).frames 0 + sum_from (used_frames j) (suc i) n) (is_used j i)
      (λ _. omega (arith, used_frames_lem (suc i) n)) (λ _. omega (arith, used_frames_lem (suc i) n))

  -- ---- labels and tapes of a half
  pub label_listed : (half label : ℕ) → label_in half j label ≡ true → In label (labels (used_from j half 4))
  unfolding label_of
  label_listed half label e =
      let s = (reflect_label_in half j label).sound e in
      let u = (reflect_used j (half + s.which)).complete s.has.0 in
      subst (λ (x : ℕ). In x (labels (used_from j half 4))) s.has.1
      (in_map (λ (t : Entry). t.label) (used_from j half 4) (entry (half + s.which))
      (at_used half 4 (half + s.which) (omega arith) (omega (arith, s.below)) u))

  pub listed_label : (half label : ℕ) → In label (labels (used_from j half 4)) → label_in half j label ≡ true
  unfolding label_of
  listed_label half label m =
      let q = map_in (λ (t : Entry). t.label) (used_from j half 4) label m in
      let a = used_at_lem half 4 q.0 q.1 in
      let p : half + (a.place - half) ≡ a.place = omega (arith, a.from) in
      let used = (reflect_used j (half + (a.place - half))).sound (ap (is_used j) p ∙ a.used) in
      (reflect_label_in half j label).complete (record {
        which = a.place - half;
        below = omega (arith, a.from, a.until);
        has = (used, ap (λ (k : ℕ). (entry k).label) p ∙ ap (λ (t : Entry). t.label) a.is ∙ sym q.2);
      })

  pub tape_made : (t : Entry) → makes_tape j t.label t.frames ≡ true → In t (output_tapes j)
  unfolding label_of frames_of
  tape_made t e =
      let s = (reflect_makes j t.label t.frames).sound e in
      let u = (reflect_used j (4 + s.which)).complete s.has.0.0 in
      subst (λ (x : Entry). In x (output_tapes j)) (ap₂ (λ (l f : ℕ). record { label = l; frames = f }) s.has.0.1 s.has.1)
      (at_used 4 4 (4 + s.which) (omega arith) (omega (arith, s.below)) u)

  pub made_tape : (t : Entry) → In t (output_tapes j) → makes_tape j t.label t.frames ≡ true
  unfolding label_of frames_of
  made_tape t m =
      let a = used_at_lem 4 4 t m in
      let p : 4 + (a.place - 4) ≡ a.place = omega (arith, a.from) in
      let is : entry (4 + (a.place - 4)) ≡ t = ap entry p ∙ a.is in
      let used = (reflect_used j (4 + (a.place - 4))).sound (ap (is_used j) p ∙ a.used) in
      (reflect_makes j t.label t.frames).complete (record {
        which = a.place - 4;
        below = omega (arith, a.from, a.until);
        has = ((used, ap (λ (x : Entry). x.label) is), ap (λ (x : Entry). x.frames) is);
      })

  -- ---- a job that repeats no label
  distinct_from : Nowhere (RepeatedAt j) → (i n : ℕ) → i + n ≤ 8 → Distinct (labels (used_from j i n))
  unfolding used_from label_of
  distinct_from none i zero h = tt
  distinct_from none i (suc n) h =
      let rest = used_from j (suc i) n in
      let d = distinct_from none (suc i) n (omega arith) in
      by_cases (λ b. Distinct (labels (cond b (entry i ∷ rest) rest))) (is_used j i)
      (λ e. (
        (λ (m : In (entry i).label (labels rest)).
            let q = map_in (λ (t : Entry). t.label) rest (entry i).label m in
            let a = used_at_lem (suc i) n q.0 q.1 in
            none a.place (omega (arith, a.until)) (
              (reflect_used j a.place).sound a.used,
              record {
                which = i;
                below = a.from;
                has = ((reflect_used j i).sound e, q.2 ∙ sym (ap (λ (t : Entry). t.label) a.is));
              },
            )),
        d,
      ))
      (λ e. d)

-- ---- what checks 6 to 9 say of the tapes
abbrev pub accession_frames : Job → ℕ
accession_frames j = cond (eqb j.kind 0) (frames_in (output_tapes j)) 0

pub record WellFormed (j : Job) : Type 0 where
  pub distinct : Distinct (labels (input_tapes j ++ output_tapes j))
  pub balance : frames_in (input_tapes j) + accession_frames j ≡ frames_in (output_tapes j) + j.trimmed
  -- some tape is made
  pub made : In (get_or j.entries 4 no_entry) (output_tapes j)

no_inputs : (j : Job) → j.inputs ≡ 0 → input_tapes j ≡ []
unfolding used_from is_used
no_inputs j e = rw e

balanced_by : (j : Job) → ((j.kind ≡ 0) × (j.inputs ≡ 0)) ⊎ ((j.kind ≡ 1) × ((1 ≤ j.inputs) × (j.inputs ≤ 4))) → Balanced j
    → (j.kind ≡ 0 → j.trimmed ≡ 0) → frames_in (input_tapes j) + accession_frames j ≡ frames_in (output_tapes j) + j.trimmed
balanced_by j (inl h) b t = rw (eq-eqb j.kind 0 h.0, no_inputs j h.1) (omega (arith, t h.0))
balanced_by j (inr h) b t =
    rw (ne_eqb j.kind 0 (λ q. absurd (omega (arith, h.0, q)))) (omega (arith, used_frames_lem j 0 4, used_frames_lem j 4 4, b h.0))

answered_well_formed : (j : Job) (v : Verdict) → v ≡ Ok (tt {0}) → Answer j v → WellFormed j
answered_well_formed j v e (passes f r u b) = record {
  distinct = subst (λ (l : List Entry). Distinct (labels l)) (used_append j 0 4 4) (distinct_from j r 0 8 (le_refl 8));
  balance = balanced_by j f.inputs b f.trimmed;
  made = at_used j 4 4 4 (le_refl 4) (omega arith) ((reflect_used j 4).complete (inr (le_refl 4, f.outputs.0)));
}
answered_well_formed j v e (malformed f) = let z : ◌≡◌ {A = ℕ} 0 1 = cc in absurd (omega arith)
answered_well_formed j v e (repeated i f r) = let z : ◌≡◌ {A = ℕ} 0 1 = cc in absurd (omega arith)
answered_well_formed j v e (unsupported i f r u) = let z : ◌≡◌ {A = ℕ} 0 1 = cc in absurd (omega arith)
answered_well_formed j v e (unbalanced f r u b) = let z : ◌≡◌ {A = ℕ} 0 1 = cc in absurd (omega arith)

pub checked_well_formed : (j : Job) → check_of j ≡ Ok (tt {0}) → WellFormed j
checked_well_formed j e = answered_well_formed j (check_of j) e (check_answers j)
