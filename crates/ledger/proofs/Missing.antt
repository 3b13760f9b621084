-- Why the missing jobs are the smallest set. A set that works has a maker of each input that no held job made, and among the jobs that correct vaults
-- hold a tape has one maker: so the missing jobs are among its jobs. What they retire or make, the set does too: so where it passes checks 12 to 14,
-- they do.
use mathlib.Core.Bool.{Bool, ◌&&◌, false, true, true≢false}
use mathlib.Core.Logic.{◌⊎◌, inl, inr, ⊎_elim}
use mathlib.Core.Path.{◌∙◌, ◌≡◌, subst, sym}
use Prim.Native.Nat.{◌<◌, ◌≤◌, suc, zero, ℕ}
use native.Mathlib.Omega.{arith}
use lib.Count.{ones}
use lib.Dec.{ltb}
use borrow.Author.Tests.{lt-ltb, ltb-true}
use Rattle.base.proofs.Reflect.{and_true, by_test, or_intro, or_true, refuted}
use Rattle.base.proofs.Search.{any_elim, any_intro, any_none}
use Rattle.base.specs.Lists.{In}
use Rattle.base.specs.Search.{Some, any_below}
use Rattle.conflicts.proofs.Tapes.{made_tape, tape_made}
use Rattle.conflicts.specs.Conflicts.{makes_tape}
use Rattle.conflicts.specs.Tapes.{input_tapes, output_tapes}
use Rattle.queries.specs.Admission.{made_by, not_created_at}
use Rattle.supplies.specs.Missing.{is_missing, missing_jobs, supplies_at}
use Rattle.record.specs.Entries.{frames_of, is_used, label_of}
use Rattle.record.specs.declared.Entry.{Entry}
use Rattle.record.specs.declared.Job.{Job}
use Rattle.job_sets.proofs.Jobs.{Within, count_with, count_within, has_jobs_below, job_below, job_union_has, job_with_keeps, job_with_same}
use Rattle.job_sets.proofs.Jobs.{jobs_below_words, no_jobs_words, with_words}
use Rattle.job_sets.specs.Jobs.{InWords, job_count, job_has, job_union, job_with, jobs_below, no_jobs}
use Rattle.job_sets.specs.declared.job_set.JobSet.{JobSet}
use Rattle.ledger.proofs.Meaning.{not_created, reflect_made}
use Rattle.ledger.proofs.Paper.{input_in, input_place}
use Rattle.ledger.specs.Graph.{Creator, Lister, Unblocked}

-- among the jobs held elsewhere a tape has one maker
abbrev pub OneMaker : (ℕ → Job) → JobSet → Type 0
OneMaker job elsewhere =
    (a c : ℕ) → job_has elsewhere a ≡ true → job_has elsewhere c ≡ true → (t : Entry) → In t (output_tapes (job a)) → In t (output_tapes (job c)) → a ≡ c

module _ (job : ℕ → Job) (booked : ℕ) (fits : booked ≤ 128) (held elsewhere : JobSet) (j : Job) where
  abbrev jobs : JobSet
  jobs = missing_jobs job booked held elsewhere j

  abbrev tape_at : ℕ → Entry
  tape_at i = record { label = label_of j i; frames = frames_of j i }

  -- ---- what it is to be missing
  record Missing (k : ℕ) : Type 0 where
    below : k < booked
    somewhere : job_has elsewhere k ≡ true
    tape : Entry
    input : In tape (input_tapes j)
    absent : Creator job booked held tape → ⊥
    makes : In tape (output_tapes (job k))

  supplies : (k i : ℕ) → i < 4 → supplies_at job booked held j k i ≡ true
      → (not_created_at job booked held j i ≡ true) × In (tape_at i) (output_tapes (job k))
  unfolding supplies_at
  supplies k i h e =
      let q = and_true (not_created_at job booked held j i) _ e in (q.0, tape_made (job k) (tape_at i) q.1)

  missing_means : (k : ℕ) → job_has jobs k ≡ true → Missing k
  unfolding missing_jobs is_missing
  missing_means k t =
      let e = and_true (ltb k booked) _ (sym (has_jobs_below booked (is_missing job booked held elsewhere j) k (job_below jobs k t)) ∙ t) in
      let q = and_true (job_has elsewhere k) _ e.1 in
      let s = any_elim (supplies_at job booked held j k) 4 q.1 in
      let m = supplies k s.which s.below s.has in
      let n = (not_created job booked held held j s.which (omega (arith, s.below))).sound m.0 in
      record {
        below = ltb-true k booked e.0;
        somewhere = q.0;
        tape = tape_at s.which;
        input = input_in job booked held held j s.which s.below n.1.0;
        absent = n.1.1;
        makes = m.1;
      }

  means_missing : (k : ℕ) → Missing k → job_has jobs k ≡ true
  unfolding missing_jobs is_missing supplies_at
  means_missing k m =
      let p = input_place job booked held held j m.tape m.input in
      let there : not_created_at job booked held j p.0 ≡ true =
      (not_created job booked held held j p.0 (omega (arith, p.1.0))).complete
      (p.1.0, (p.1.1.0, λ c. m.absent (subst (λ (t : Entry). Creator job booked held t) p.1.1.1 c))) in
      let made : makes_tape (job k) (label_of j p.0) (frames_of j p.0) ≡ true =
      made_tape (job k) (tape_at p.0) (subst (λ (t : Entry). In t (output_tapes (job k))) (sym p.1.1.1) m.makes) in
      let some : any_below 4 (supplies_at job booked held j k) ≡ true =
      any_intro (supplies_at job booked held j k) 4 p.0 p.1.0 (simp (there, made)) in
      has_jobs_below booked (is_missing job booked held elsewhere j) k (omega (arith, m.below, fits)) ∙ simp (lt-ltb k booked m.below, m.somewhere, some)

  pub missing_words : InWords jobs
  unfolding missing_jobs
  missing_words = jobs_below_words booked (is_missing job booked held elsewhere j)

  pub missing_somewhere : (k : ℕ) → job_has jobs k ≡ true → job_has elsewhere k ≡ true
  missing_somewhere k t = (missing_means k t).somewhere

  -- ---- a set that works
  module _ (one : OneMaker job elsewhere) (others s : JobSet) (known : Within s elsewhere) (u : Unblocked job booked (job_union held s) others j) where
    -- it has a maker of each input that no held job made
    supplied : (t : Entry) → In t (input_tapes j) → (Creator job booked held t → ⊥)
        → (c : ℕ) × ((c < booked) × ((job_has s c ≡ true) × In t (output_tapes (job c))))
    supplied t m n =
        let c = u.created t m in
        ⊎_elim (λ h. absurd (n (record { which = c.which; below = c.below; member = h; makes = c.makes })))
        (λ h. (c.which, (c.below, (h, c.makes))))
        (or_true (job_has held c.which) (job_has s c.which) (sym (job_union_has held s c.which) ∙ c.member))

    pub missing_within : Within jobs s
    missing_within k t =
        let m = missing_means k t in
        let q = supplied m.tape m.input m.absent in
        subst (λ (x : ℕ). job_has s x ≡ true) (one q.0 k (known q.0 q.1.1.0) m.somewhere m.tape q.1.1.1 m.makes) q.1.1.0

    fewer : Within (job_union held jobs) (job_union held s)
    fewer k t =
        job_union_has held s k
        ∙ or_intro _ _ (⊎_elim inl (λ h. inr (missing_within k h)) (or_true (job_has held k) (job_has jobs k) (sym (job_union_has held jobs k) ∙ t)))

    more : (half x : ℕ) → Lister job booked half (job_union held jobs) x → Lister job booked half (job_union held s) x
    more half x c = record { which = c.which; below = c.below; member = fewer c.which c.member; lists = c.lists }

    held_or : (k : ℕ) → (job_has held k ≡ true) ⊎ (job_has jobs k ≡ true) → job_has (job_union held jobs) k ≡ true
    held_or k h = job_union_has held jobs k ∙ or_intro _ _ h

    created : (t : Entry) → In t (input_tapes j) → Creator job booked (job_union held jobs) t
    created t m =
        by_test (made_by job booked held t.label t.frames)
        (λ e.
        let c = (reflect_made job booked held t).sound e in
        record { which = c.which; below = c.below; member = held_or c.which (inl c.member); makes = c.makes })
        (λ e.
        let n = refuted (reflect_made job booked held t) e in
        let q = supplied t m n in
        let lacks : Missing q.0 =
        record { below = q.1.0; somewhere = known q.0 q.1.1.0; tape = t; input = m; absent = n; makes = q.1.1.1 } in
        record { which = q.0; below = q.1.0; member = held_or q.0 (inr (means_missing q.0 lacks)); makes = q.1.1.1 })

    pub missing_unblocked : Unblocked job booked (job_union held jobs) others j
    missing_unblocked = record {
      created = created;
      unconsumed = λ x m c. u.unconsumed x m (more 0 x c);
      unmarked = u.unmarked;
      unmade = λ x m c. u.unmade x m (⊎_elim (λ a. inl (more 4 x a)) (λ a. inr a) c);
    }

  -- ---- at most one for each input
  abbrev up_to : ℕ → ℕ → Bool
  up_to n k = job_has elsewhere k && any_below n (supplies_at job booked held j k)

  abbrev suppliers : ℕ → JobSet
  suppliers n = jobs_below booked (up_to n)

  in_suppliers : (n k : ℕ) → job_has (suppliers n) k ≡ true
      → (k < booked) × ((job_has elsewhere k ≡ true) × Some n (λ i. supplies_at job booked held j k i ≡ true))
  in_suppliers n k t =
      let e = and_true (ltb k booked) _ (sym (has_jobs_below booked (up_to n) k (job_below (suppliers n) k t)) ∙ t) in
      let q = and_true (job_has elsewhere k) _ e.1 in
      (ltb-true k booked e.0, (q.0, any_elim (supplies_at job booked held j k) n q.1))

  suppliers_in : (n k : ℕ) → k < booked → job_has elsewhere k ≡ true → Some n (λ i. supplies_at job booked held j k i ≡ true) → job_has (suppliers n) k ≡ true
  suppliers_in n k h e s =
      has_jobs_below booked (up_to n) k (omega (arith, h, fits))
      ∙ simp (lt-ltb k booked h, e, any_intro (supplies_at job booked held j k) n s.which s.below s.has)

  module _ (one : OneMaker job elsewhere) where
    new_at : ℕ → ℕ → Bool
    new_at n k = job_has elsewhere k && supplies_at job booked held j k n

    -- the jobs that supply one of the first entries, or the next
    older : (n k : ℕ) → job_has (suppliers (suc n)) k ≡ true → (new_at n k ≡ true) ⊎ (job_has (suppliers n) k ≡ true)
    unfolding new_at any_below
    older n k t =
        let e = and_true (ltb k booked) _ (sym (has_jobs_below booked (up_to (suc n)) k (job_below (suppliers (suc n)) k t)) ∙ t) in
        let q = and_true (job_has elsewhere k) _ e.1 in
        ⊎_elim (λ (a : supplies_at job booked held j k n ≡ true). inl (simp (q.0, a)))
        (λ a. inr (suppliers_in n k (ltb-true k booked e.0) q.0 (any_elim (supplies_at job booked held j k) n a)))
        (or_true (supplies_at job booked held j k n) (any_below n (supplies_at job booked held j k)) q.1)

    same : (n a c : ℕ) → new_at n a ≡ true → new_at n c ≡ true → a ≡ c
    unfolding new_at supplies_at
    same n a c x y =
        let p = and_true (job_has elsewhere a) _ x in
        let q = and_true (job_has elsewhere c) _ y in
        let pt = and_true (not_created_at job booked held j n) _ p.1 in
        let qt = and_true (not_created_at job booked held j n) _ q.1 in
        one a c p.0 q.0 (tape_at n) (tape_made (job a) (tape_at n) pt.1) (tape_made (job c) (tape_at n) qt.1)

    grows : (n : ℕ) → job_count (suppliers (suc n)) ≤ suc (job_count (suppliers n))
    grows n = by_test (any_below booked (new_at n)) some none
      where
        words : (m : ℕ) → InWords (suppliers m)
        words m = jobs_below_words booked (up_to m)

        some : any_below booked (new_at n) ≡ true → job_count (suppliers (suc n)) ≤ suc (job_count (suppliers n))
        some e =
            let x = any_elim (new_at n) booked e in
            let below : x.which < 128 = omega (arith, x.below, fits) in
            let within : Within (suppliers (suc n)) (job_with (suppliers n) x.which) = λ k t.
            ⊎_elim
            (λ a. subst (λ (y : ℕ). job_has (job_with (suppliers n) x.which) y ≡ true) (same n x.which k x.has a)
            (job_with_same (suppliers n) x.which below))
            (λ a. job_with_keeps (suppliers n) x.which k a) (older n k t) in
            omega (arith, count_within _ _ (words (suc n)) (with_words _ x.which (words n)) within, count_with (suppliers n) x.which below)

        none : any_below booked (new_at n) ≡ false → job_count (suppliers (suc n)) ≤ suc (job_count (suppliers n))
        none e =
            let within : Within (suppliers (suc n)) (suppliers n) = λ k t.
            ⊎_elim (λ a. absurd (true≢false (sym a ∙ any_none (new_at n) booked e k (in_suppliers (suc n) k t).0))) (λ a. a) (older n k t) in
            omega (arith, count_within _ _ (words (suc n)) (words n) within)

    none_first : job_count (suppliers 0) ≤ 0
    unfolding job_count no_jobs ones
    none_first =
        count_within (suppliers 0) no_jobs (jobs_below_words booked (up_to 0)) no_jobs_words
        (λ k t. let s = (in_suppliers 0 k t).1.1 in absurd (omega (arith, s.below)))

    at_most : (n : ℕ) → job_count (suppliers n) ≤ n
    at_most zero = none_first
    at_most (suc n) = omega (arith, grows n, at_most n)

    -- an entry that is not created is one of the inputs that the job counts
    counted : (i : ℕ) → i < 4 → not_created_at job booked held j i ≡ true → i < j.inputs
    unfolding not_created_at is_used
    counted i h e =
        let q = and_true (ltb i 4) _ e in
        let u = and_true (is_used j i) _ q.1 in
        ltb-true i j.inputs (simp (lt-ltb i 4 h) at u.0)

    pub few_missing : job_count jobs ≤ j.inputs
    unfolding missing_jobs is_missing
    few_missing =
        omega (arith, count_within jobs (suppliers j.inputs) missing_words (jobs_below_words booked (up_to j.inputs)) within, at_most j.inputs)
      where
        within : Within jobs (suppliers j.inputs)
        within k t =
            let q = in_suppliers 4 k t in
            let s = q.1.1 in
            suppliers_in j.inputs k q.0 q.1.0
            (record { which = s.which; below = counted s.which s.below (supplies k s.which s.below s.has).0; has = s.has })
