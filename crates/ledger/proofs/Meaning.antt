-- Checks 11 to 16, 19 and 20 decide what specs/Meaning.antt says of them, and checks 11 to 14 pass exactly where the paper's Algorithm 1 with
-- document 01's mends signs, of a job that passes 6 to 9. The searches over the booked jobs are read as creators and consumers.
use mathlib.Core.Bool.{Bool, cond, false, true}
use mathlib.Core.List.{List}
use mathlib.Core.Path.{◌≡◌, refl}
use Prim.Native.Nat.{◌<◌, ℕ}
use lib.Dec.{ltb}
use lib.ListN.{set}
use borrow.Author.Tests.{lt-ltb, ltb-true}
use Rattle.base.proofs.Reflect.{reflect_and, reflect_as, reflect_eq, reflect_le, reflect_lt, reflect_not, reflect_or, reflect_true, refuted, refutes}
use Rattle.base.proofs.Search.{first_complete, first_end_complete, first_end_sound, first_sound, found_none, reflect_any, unfound}
use Rattle.base.specs.Reflect.{Reflects}
use Rattle.base.specs.Search.{first_below}
use Rattle.outcome.specs.declared.Refusal.TheVariants.{InputReserved, NotBooked, NotCreated, NotSignedHere, NotSuperseded, OutputReserved, Retired}
use Rattle.outcome.specs.Figures.{Verdict}
use Rattle.std.specs.Prelude.{Ok, Err}
use Rattle.record.proofs.Meaning.{reflect_used}
use Rattle.conflicts.proofs.Meaning.{reflect_conflicting}
use Rattle.conflicts.proofs.Tapes.{label_listed, listed_label, made_tape, tape_made}
use Rattle.conflicts.specs.Conflicts.{label_in, makes_tape}
use Rattle.record.specs.Entries.{frames_of, label_of}
use Rattle.checks.specs.Meaning.{Nowhere}
use Rattle.record.specs.declared.Entry.{Entry}
use Rattle.record.specs.declared.Job.{Job}
use Rattle.job_sets.specs.Jobs.{job_has}
use Rattle.job_sets.specs.declared.job_set.JobSet.{JobSet}
use Rattle.queries.specs.Admission.{admission, consumed_at, listed_by, lists_at, made_before, made_by, makes_at, not_created_at, remade_at}
use Rattle.journal.proofs.Booked.{reflect_booked}
use Rattle.journal.specs.Journal.{Booked, is_booked, job_at}
use Rattle.ledger.specs.Decisions.{superseded_at, supersession}
use Rattle.ledger.specs.Graph.{Creator, Lister}
use Rattle.ledger.specs.Meaning.{Admission, ConsumedAt, NotCreatedAt, RemadeAt, admitted, consumed, missing, remade, reserved}
use Rattle.ledger.specs.Meaning.{Supersedes, Supersession, standing, superseded, unbooked, unsigned}
use Rattle.vaults.specs.declared.Vault.{Vault}

module _ (job : ℕ → Job) (booked : ℕ) where
  -- ---- the searches
  pub reflect_made : (set : JobSet) (t : Entry) → Reflects (made_by job booked set t.label t.frames) (Creator job booked set t)
  unfolding made_by makes_at
  reflect_made set t =
      reflect_as
      (reflect_any booked (λ k h. reflect_and (reflect_true (job_has set k)) (reflect_true (makes_tape (job k) t.label t.frames))))
      (λ s. record { which = s.which; below = s.below; member = s.has.0; makes = tape_made (job s.which) t s.has.1 })
      (λ c. record { which = c.which; below = c.below; has = (c.member, made_tape (job c.which) t c.makes) })

  pub reflect_listed : (half : ℕ) (set : JobSet) (label : ℕ) → Reflects (listed_by job booked half set label) (Lister job booked half set label)
  unfolding listed_by lists_at
  reflect_listed half set label =
      reflect_as
      (reflect_any booked (λ k h. reflect_and (reflect_true (job_has set k)) (reflect_true (label_in half (job k) label))))
      (λ s. record { which = s.which; below = s.below; member = s.has.0; lists = label_listed (job s.which) half label s.has.1 })
      (λ c. record { which = c.which; below = c.below; has = (c.member, listed_label (job c.which) half label c.lists) })

  -- ---- the checks at an entry
  module _ (held others : JobSet) (j : Job) where
    pub not_created : (i : ℕ) → i < 8 → Reflects (not_created_at job booked held j i) (NotCreatedAt job booked held j i)
    unfolding not_created_at
    not_created i h =
        reflect_and (reflect_lt i 4)
        (reflect_and (reflect_used j i) (reflect_not (reflect_made held (record { label = label_of j i; frames = frames_of j i }))))

    consumed_at_lem : (set : JobSet) (i : ℕ) → i < 8 → Reflects (consumed_at job booked set j i) (ConsumedAt job booked set j i)
    unfolding consumed_at
    consumed_at_lem set i h = reflect_and (reflect_lt i 4) (reflect_and (reflect_used j i) (reflect_listed 0 set (label_of j i)))

    remade_at_lem : (i : ℕ) → i < 8 → Reflects (remade_at job booked held others j i) (RemadeAt job booked held others j i)
    unfolding remade_at made_before
    remade_at_lem i h =
        reflect_and (reflect_le 4 i)
        (reflect_and (reflect_used j i) (reflect_or (reflect_listed 4 held (label_of j i)) (reflect_listed 4 others (label_of j i))))

    -- ---- the answer, with its tests apart
    abbrev first11 : ℕ
    first11 = first_below 8 (not_created_at job booked held j)

    abbrev first12 : ℕ
    first12 = first_below 8 (consumed_at job booked held j)

    abbrev first13 : ℕ
    first13 = first_below 8 (consumed_at job booked others j)

    abbrev first14 : ℕ
    first14 = first_below 8 (remade_at job booked held others j)

    answer : Bool → Bool → Bool → Bool → Verdict
    answer a b c d =
        cond a (Err (NotCreated first11))
        (cond b (Err (Retired first12)) (cond c (Err (InputReserved first13)) (cond d (Err (OutputReserved first14)) (Ok (tt {0})))))

    answered : (a b c d : Bool) → ltb first11 8 ≡ a → ltb first12 8 ≡ b → ltb first13 8 ≡ c → ltb first14 8 ≡ d
        → Admission job booked held others j (answer a b c d)
    unfolding answer
    answered true b c d ea eb ec ed = missing _ (first_sound 8 not_created _ (ltb-true _ _ ea) refl)
    answered false true c d ea eb ec ed =
        consumed _ (first_end_sound 8 not_created (unfound _ 8 ea)) (first_sound 8 (consumed_at_lem held) _ (ltb-true _ _ eb) refl)
    answered false false true d ea eb ec ed =
        reserved _ (first_end_sound 8 not_created (unfound _ 8 ea)) (first_end_sound 8 (consumed_at_lem held) (unfound _ 8 eb))
        (first_sound 8 (consumed_at_lem others) _ (ltb-true _ _ ec) refl)
    answered false false false true ea eb ec ed =
        remade _ (first_end_sound 8 not_created (unfound _ 8 ea)) (first_end_sound 8 (consumed_at_lem held) (unfound _ 8 eb))
        (first_end_sound 8 (consumed_at_lem others) (unfound _ 8 ec)) (first_sound 8 remade_at_lem _ (ltb-true _ _ ed) refl)
    answered false false false false ea eb ec ed =
        admitted (first_end_sound 8 not_created (unfound _ 8 ea)) (first_end_sound 8 (consumed_at_lem held) (unfound _ 8 eb))
        (first_end_sound 8 (consumed_at_lem others) (unfound _ 8 ec)) (first_end_sound 8 remade_at_lem (unfound _ 8 ed))

    pub admission_answers : Admission job booked held others j (admission job booked held others j)
    unfolding admission answer
    admission_answers = answered _ _ _ _ refl refl refl refl

    -- and no other answer is meant
    past11 : Nowhere (NotCreatedAt job booked held j) → ltb first11 8 ≡ false
    past11 n = found_none (not_created_at job booked held j) 8 (first_end_complete 8 not_created n)

    past_consumed : (set : JobSet) → Nowhere (ConsumedAt job booked set j) → ltb (first_below 8 (consumed_at job booked set j)) 8 ≡ false
    past_consumed set n = found_none (consumed_at job booked set j) 8 (first_end_complete 8 (consumed_at_lem set) n)

    past14 : Nowhere (RemadeAt job booked held others j) → ltb first14 8 ≡ false
    past14 n = found_none (remade_at job booked held others j) 8 (first_end_complete 8 remade_at_lem n)

    pub answers_admission : (v : Verdict) → Admission job booked held others j v → admission job booked held others j ≡ v
    unfolding admission
    answers_admission v (missing e m) =
        let at : first11 ≡ e = first_complete 8 not_created e m in simp (at, lt-ltb e 8 m.below)
    answers_admission v (consumed e a m) =
        let at : first12 ≡ e = first_complete 8 (consumed_at_lem held) e m in simp (past11 a, at, lt-ltb e 8 m.below)
    answers_admission v (reserved e a b m) =
        let at : first13 ≡ e = first_complete 8 (consumed_at_lem others) e m in simp (past11 a, past_consumed held b, at, lt-ltb e 8 m.below)
    answers_admission v (remade e a b c m) =
        let at : first14 ≡ e = first_complete 8 remade_at_lem e m in
        simp (past11 a, past_consumed held b, past_consumed others c, at, lt-ltb e 8 m.below)
    answers_admission v (admitted a b c d) = simp (past11 a, past_consumed held b, past_consumed others c, past14 d)

-- ---- kind 10
module _ (state : Vault) (version : ℕ) (journal : List ℕ) (booked job rival : ℕ) where
  booked? : Reflects (is_booked version journal booked rival) (Booked version journal booked rival)
  booked? = reflect_booked version journal booked rival

  pub reflect_superseded : Reflects (superseded_at state version journal booked job rival) (Supersedes state version journal booked job rival)
  unfolding superseded_at
  reflect_superseded =
      reflect_as
      (reflect_and (reflect_not (reflect_eq job rival))
      (reflect_and (reflect_true (job_has state.held rival)) (reflect_conflicting (job_at version journal booked job) (job_at version journal booked rival))))
      (λ h. record { different = h.0; held = h.1.0; shares = h.1.1 })
      (λ h. (h.different, (h.held, h.shares)))

  pub supersession_means : Supersession state version journal booked job rival (supersession state version journal booked job rival)
  unfolding supersession
  supersession_means = by _ refl _ refl _ refl
    where
      by : (a : Bool) → is_booked version journal booked rival ≡ a → (b : Bool) → job_has state.signed job ≡ b → (c : Bool)
          → superseded_at state version journal booked job rival ≡ c
          → Supersession state version journal booked job rival (cond a (cond b (cond c (Ok (tt {0})) (Err NotSuperseded)) (Err NotSignedHere)) (Err NotBooked))
      by false ea b eb c ec = unbooked (refuted booked? ea)
      by true ea false eb c ec = unsigned (booked?.sound ea) eb
      by true ea true eb false ec = standing (booked?.sound ea) eb (refuted reflect_superseded ec)
      by true ea true eb true ec = superseded (booked?.sound ea) eb (reflect_superseded.sound ec)

  -- and no other answer is meant
  pub means_supersession : (v : Verdict) → Supersession state version journal booked job rival v → supersession state version journal booked job rival ≡ v
  unfolding supersession
  means_supersession v (unbooked n) = simp (refutes booked? n)
  means_supersession v (unsigned b n) = simp (booked?.complete b, n)
  means_supersession v (standing b s n) = simp (booked?.complete b, s, refutes reflect_superseded n)
  means_supersession v (superseded b s h) = simp (booked?.complete b, s, reflect_superseded.complete h)
