-- Checks 11 to 14 by the index are those of the vaults.
use mathlib.Core.Bool.{Bool, ◌&&◌, ◌||◌, cond, false, not, true, true≢false}
use mathlib.Core.List.{List}
use mathlib.Core.Logic.{◌⊎◌, inl, inr, ⊎_elim}
use mathlib.Core.Path.{◌∙◌, ◌≡◌, ap, refl, sym}
use Prim.Native.Nat.{◌*◌, ◌+◌, ◌-◌, ◌<◌, ◌≤◌, ℕ}
use native.Mathlib.Nat.{not-suc-le-zero, zero-add}
use native.Mathlib.Omega.{arith}
use lib.Dec.{leb, ltb}
use borrow.Author.Tests.{le-leb, le-ltb, leb-false, leb-true, lt-leb, lt-ltb, ltb-false, ltb-true}
use Rattle.base.proofs.Reflect.{and_true, by_test, not_true_false, or_intro, or_true, same_truth}
use Rattle.base.proofs.Search.{any_elim, any_intro, any_none, first_any, first_least, first_none, found_none, least_first, none_any}
use Rattle.base.specs.Search.{any_below, first_below}
use Rattle.outcome.specs.declared.Refusal.TheVariants.{InputReserved, NotCreated, OutputReserved, Retired}
use Rattle.outcome.specs.Figures.{Verdict}
use Rattle.std.specs.Prelude.{Ok, Err}
use Rattle.conflicts.specs.Conflicts.{label_in}
use Rattle.record.specs.Entries.{is_used, label_of}
use Rattle.record.specs.declared.Job.{Job}
use Rattle.job_sets.proofs.Jobs.{job_union_has, union_words}
use Rattle.job_sets.specs.Jobs.{InWords, job_has, job_union}
use Rattle.job_sets.specs.declared.job_set.JobSet.{JobSet}
use Rattle.codec.specs.Codec.{job_of}
use Rattle.journal.specs.Journal.{capacity, job_at, record_at}
use Rattle.index.proofs.Tables.{indexed_booked}
use Rattle.index.specs.Index.{IndexedEntries}
use Rattle.queries.specs.Admission.{admission, consumed_at, listed_by, lists_at, made_before, not_created_at, remade_at}
use Rattle.queries.proofs.Meets.{listers_meet, makers_meet}
use Rattle.queries.specs.Checks.{admission_by, consumed_by, first_offending, offends_at, remade_by}
use Rattle.index.specs.Places.{Entered, places}

-- ---- four entries of eight: the first that offends, where those before and after the four never do
four_of_eight : (off : ℕ) → off ≤ 4 → (p q : ℕ → Bool) → ((e : ℕ) → e < 4 → p e ≡ q (off + e))
    → ((e : ℕ) → e < off → q e ≡ false) → ((e : ℕ) → off + 4 ≤ e → e < 8 → q e ≡ false) → (F : ℕ → Verdict) (rest : Verdict)
    → cond (ltb (first_below 4 p) 4) (F (off + first_below 4 p)) rest ≡ cond (ltb (first_below 8 q) 8) (F (first_below 8 q)) rest
four_of_eight off lo p q same below above F rest =
    by_test (any_below 4 p)
    (λ e.
    let l = first_least p 4 (first_any p 4 e) in
    let f : first_below 8 q ≡ off + first_below 4 p = least_first q 8 (off + first_below 4 p) (record {
      below = omega (arith, l.below);
      has = sym (same (first_below 4 p) l.below) ∙ l.has;
      none_before = λ m lm h.
          let i = inside m (omega (arith, lm, l.below)) h in
          l.none_before (m - off) (omega (arith, lm, i.0)) (back m i.0 i.1 ∙ h);
    }) in
    simp (f, lt-ltb (first_below 4 p) 4 l.below, lt-ltb (off + first_below 4 p) 8 (omega (arith, l.below))))
    (λ e.
    let none = none_any q 8 (λ m lm. not_true_false (q m) (λ h.
    let i = inside m lm h in
    true≢false (sym h ∙ sym (back m i.0 i.1) ∙ any_none p 4 e (m - off) (omega (arith, i.0, i.1))))) in
    simp (first_none p 4 e, first_none q 8 none))
  where
    back : (m : ℕ) → off ≤ m → m < off + 4 → p (m - off) ≡ q m
    back m l h = let e : off + (m - off) ≡ m = omega arith in same (m - off) (omega arith) ∙ ap q e

    -- an entry that offends is one of the four
    inside : (m : ℕ) → m < 8 → q m ≡ true → (off ≤ m) × (m < off + 4)
    inside m h t = (
      by_test (ltb m off) (λ e. absurd (true≢false (sym t ∙ below m (ltb-true m off e)))) (ltb-false m off),
      by_test (leb (off + 4) m) (λ e. absurd (true≢false (sym t ∙ above m (leb-true (off + 4) m e) h))) (leb-false (off + 4) m),
    )

-- ---- checks 11 to 14
pub used_input : (j : Job) (e : ℕ) → e < 4 → is_used j e ≡ ltb e j.inputs
unfolding is_used
used_input j e l = simp (lt-ltb e 4 l)

pub used_output : (j : Job) (e : ℕ) → is_used j (4 + e) ≡ ltb e j.outputs
unfolding is_used
used_output j e = let b : 4 + e - 4 ≡ e = omega arith in simp (le-ltb (4 + e) 4 (omega arith), b)

-- where the entry is used alone it matters what the two sides say
pub where_used : (u a b : Bool) → (u ≡ true → a ≡ b) → (u && a) ≡ (u && b)
where_used true a b h = h refl
where_used false a b h = refl

-- a job of either set has the label exactly where one of the one set has it, or one of the other
listed_union : (job : ℕ → Job) (n half : ℕ) (a b : JobSet) (label : ℕ)
    → listed_by job n half (job_union a b) label ≡ (listed_by job n half a label || listed_by job n half b label)
unfolding listed_by lists_at
listed_union job n half a b label = same_truth _ _ out into
  where
    has : JobSet → ℕ → Bool
    has s m = job_has s m && label_in half (job m) label

    out : any_below n (has (job_union a b)) ≡ true → (any_below n (has a) || any_below n (has b)) ≡ true
    out e =
        let m = any_elim (has (job_union a b)) n e in
        let c = and_true (job_has (job_union a b) m.which) _ m.has in
        or_intro (any_below n (has a)) (any_below n (has b)) (⊎_elim
        (λ (h : job_has a m.which ≡ true). inl (any_intro (has a) n m.which m.below (simp h c.1)))
        (λ (h : job_has b m.which ≡ true). inr (any_intro (has b) n m.which m.below (simp h c.1)))
        (or_true (job_has a m.which) (job_has b m.which) (sym (job_union_has a b m.which) ∙ c.0)))

    one : (s : JobSet) → ((m : ℕ) → job_has s m ≡ true → job_has (job_union a b) m ≡ true) → any_below n (has s) ≡ true → any_below n (has (job_union a b)) ≡ true
    one s f e =
        let m = any_elim (has s) n e in
        let c = and_true (job_has s m.which) _ m.has in
        any_intro (has (job_union a b)) n m.which m.below (simp (f m.which c.0) c.1)

    into : (any_below n (has a) || any_below n (has b)) ≡ true → any_below n (has (job_union a b)) ≡ true
    into e =
        ⊎_elim
        (one a (λ m h. job_union_has a b m ∙ or_intro (job_has a m) (job_has b m) (inl h)))
        (one b (λ m h. job_union_has a b m ∙ or_intro (job_has a m) (job_has b m) (inr h)))
        (or_true (any_below n (has a)) (any_below n (has b)) e)

pub spread : (a b c d : Bool) → (a && (b && (c || d))) ≡ ((a && (b && c)) || (a && (b && d)))
spread true true c d = refl
spread true false c d = refl
spread false b c d = refl

consumed_union : (job : ℕ → Job) (n : ℕ) (a b : JobSet) (j : Job) (i : ℕ)
    → consumed_at job n (job_union a b) j i ≡ (consumed_at job n a j i || consumed_at job n b j i)
unfolding consumed_at
consumed_union job n a b j i = rw (listed_union job n 0 a b (label_of j i)) (spread (ltb i 4) (is_used j i) _ _)

-- a search for either of two tests finds none exactly where neither does
either_first : (p q r : ℕ → Bool) → ((e : ℕ) → e < 4 → r e ≡ (p e || q e)) → (F G : ℕ → Verdict) (rest never : Verdict)
    → cond (ltb (first_below 4 r) 4) (cond (ltb (first_below 4 p) 4) (F (first_below 4 p)) (cond (ltb (first_below 4 q) 4) (G (first_below 4 q)) never)) rest
    ≡ cond (ltb (first_below 4 p) 4) (F (first_below 4 p)) (cond (ltb (first_below 4 q) 4) (G (first_below 4 q)) rest)
either_first p q r both F G rest never =
    by_test (any_below 4 p)
    (λ ep. simp (found p ep, found r (from p (λ i. inl) ep)))
    (λ ep.
    let no_p = found_none p 4 (first_none p 4 ep) in
    by_test (any_below 4 q)
    (λ eq. simp (found q eq, found r (from q (λ i. inr) eq), no_p))
    (λ eq.
    let none = none_any r 4 (λ e l. both e l ∙ simp (any_none p 4 ep e l, any_none q 4 eq e l)) in
    simp (no_p, found_none q 4 (first_none q 4 eq), found_none r 4 (first_none r 4 none))))
  where
    found : (s : ℕ → Bool) → any_below 4 s ≡ true → ltb (first_below 4 s) 4 ≡ true
    found s e = lt-ltb (first_below 4 s) 4 (first_any s 4 e)

    from : (s : ℕ → Bool) → ((i : ℕ) → s i ≡ true → (p i ≡ true) ⊎ (q i ≡ true)) → any_below 4 s ≡ true → any_below 4 r ≡ true
    from s h e = let m = any_elim s 4 e in any_intro r 4 m.which m.below (both m.which m.below ∙ or_intro (p m.which) _ (h m.which m.has))

module _ (job : ℕ → Job) (n : ℕ) (numbers sets : List ℕ) (t : Entered job (8 * n) numbers sets) (few : n ≤ capacity) (k : ℕ) (lk : k < n)
    (held others : JobSet) (hw : InWords held) (ow : InWords others) where
  missing_same : (e : ℕ) → e < 4 → offends_at numbers sets (job k).inputs (places + 8 * k) 2 held e ≡ not_created_at job n held (job k) (0 + e)
  unfolding offends_at not_created_at
  missing_same e l =
      simp (zero-add, lt-ltb e 4 l, used_input (job k) e l)
      (where_used (ltb e (job k).inputs) _ _ (λ u. ap not (makers_meet job n numbers sets t few k e lk (omega arith) (used_input (job k) e l ∙ u) held hw)))

  consumed_same : (s : JobSet) → InWords s → (e : ℕ) → e < 4 → offends_at numbers sets (job k).inputs (8 * k) 0 s e ≡ consumed_at job n s (job k) (0 + e)
  unfolding offends_at consumed_at
  consumed_same s w e l =
      simp (zero-add, lt-ltb e 4 l, used_input (job k) e l)
      (where_used (ltb e (job k).inputs) _ _ (λ u.
      listers_meet job n numbers sets t few k e lk (omega arith) (used_input (job k) e l ∙ u) s w 0 (omega arith)))

  remade_same : (e : ℕ) → e < 4 → offends_at numbers sets (job k).outputs (8 * k + 4) 1 (job_union held others) e ≡ remade_at job n held others (job k) (4 + e)
  unfolding offends_at remade_at made_before
  remade_same e l =
      let z : 8 * k + 4 + e ≡ 8 * k + (4 + e) = omega arith in
      let w = union_words held others hw ow in
      simp (le-leb 4 (4 + e) (omega arith), used_output (job k) e, z)
      (where_used (ltb e (job k).outputs) _ _ (λ u.
      listers_meet job n numbers sets t few k (4 + e) lk (omega arith) (used_output (job k) e ∙ u) (job_union held others) w 1 (omega arith)
      ∙ listed_union job n 4 held others (label_of (job k) (4 + e))))

  -- of four inputs, where outputs never offend
  of_inputs : (p q : ℕ → Bool) → ((e : ℕ) → e < 4 → p e ≡ q (0 + e)) → ((e : ℕ) → 4 ≤ e → q e ≡ false) → (F : ℕ → Verdict) (rest : Verdict)
      → cond (ltb (first_below 4 p) 4) (F (first_below 4 p)) rest ≡ cond (ltb (first_below 8 q) 8) (F (first_below 8 q)) rest
  of_inputs p q same above F rest =
      ap (λ (m : ℕ). cond (ltb (first_below 4 p) 4) (F m) rest) (sym (zero-add (first_below 4 p)))
      ∙ four_of_eight 0 (omega arith) p q same (λ e l. absurd (not-suc-le-zero l)) (λ e l h. above e (omega arith)) F rest

  not_input : (b : Bool) (e : ℕ) → 4 ≤ e → (ltb e 4 && b) ≡ false
  not_input b e l = simp (le-ltb e 4 l)

  -- each check by the index is the vaults' check, whatever follows it
  created : (rest : Verdict) → let m = first_offending numbers sets (job k).inputs (places + 8 * k) 2 held in
      let f = first_below 8 (not_created_at job n held (job k)) in
      cond (ltb m 4) (Err (NotCreated m)) rest ≡ cond (ltb f 8) (Err (NotCreated f)) rest
  unfolding first_offending not_created_at
  created rest = of_inputs _ _ missing_same (λ e l. not_input _ e l) (λ m. Err (NotCreated m)) rest

  consumed : (F : ℕ → Verdict) (s : JobSet) → InWords s → (rest : Verdict) → let m = first_offending numbers sets (job k).inputs (8 * k) 0 s in
      let f = first_below 8 (consumed_at job n s (job k)) in
      cond (ltb m 4) (F m) rest ≡ cond (ltb f 8) (F f) rest
  unfolding first_offending consumed_at
  consumed F s w rest = of_inputs _ _ (consumed_same s w) (λ e l. not_input _ e l) F rest

  remade : let m = first_offending numbers sets (job k).outputs (8 * k + 4) 1 (job_union held others) in
      let f = first_below 8 (remade_at job n held others (job k)) in
      cond (ltb m 4) (Err (OutputReserved (4 + m))) (Ok (tt {0})) ≡ cond (ltb f 8) (Err (OutputReserved f)) (Ok (tt {0}))
  unfolding first_offending remade_at
  remade =
      four_of_eight 4 (omega arith) _ _ remade_same (λ e l. not_output _ e l) (λ e l h. absurd (omega arith)) (λ m. Err (OutputReserved m)) (Ok (tt {0}))
    where
      not_output : (b : Bool) (e : ℕ) → e < 4 → (leb 4 e && b) ≡ false
      not_output b e l = simp (lt-leb 4 e l)

  -- an input of either set's is one of the one set's, or one of the other's
  either_same : (e : ℕ) → e < 4 → offends_at numbers sets (job k).inputs (8 * k) 0 (job_union held others) e
      ≡ (offends_at numbers sets (job k).inputs (8 * k) 0 held e || offends_at numbers sets (job k).inputs (8 * k) 0 others e)
  either_same e l =
      consumed_same (job_union held others) (union_words held others hw ow) e l
      ∙ consumed_union job n held others (job k) (0 + e)
      ∙ rw (sym (consumed_same held hw e l), sym (consumed_same others ow e l))

  -- then checks 12 and 13, which are tried only where one fails
  either : (rest : Verdict) → let r = first_offending numbers sets (job k).inputs (8 * k) 0 (job_union held others) in
      let a = first_offending numbers sets (job k).inputs (8 * k) 0 held in
      let b = first_offending numbers sets (job k).inputs (8 * k) 0 others in
      cond (ltb r 4) (cond (ltb a 4) (Err (Retired a)) (cond (ltb b 4) (Err (InputReserved b)) (Ok (tt {0})))) rest
      ≡ cond (ltb a 4) (Err (Retired a)) (cond (ltb b 4) (Err (InputReserved b)) rest)
  unfolding first_offending
  either rest = either_first _ _ _ either_same (λ m. Err (Retired m)) (λ m. Err (InputReserved m)) rest (Ok (tt {0}))

  -- by the index, as the vaults check
  pub by_index : admission_by numbers sets (job k).inputs (job k).outputs held others k ≡ admission job n held others (job k)
  unfolding admission_by consumed_by remade_by admission
  by_index =
      let missing = first_below 8 (not_created_at job n held (job k)) in
      let retired = first_below 8 (consumed_at job n held (job k)) in
      let reserved = first_below 8 (consumed_at job n others (job k)) in
      let first : Verdict → Verdict = λ r. cond (ltb missing 8) (Err (NotCreated missing)) r in
      let second : Verdict → Verdict = λ r. first (cond (ltb retired 8) (Err (Retired retired)) r) in
      let third : Verdict → Verdict = λ r. second (cond (ltb reserved 8) (Err (InputReserved reserved)) r) in
      created _ ∙ ap first (either _)
      ∙ ap first (consumed (λ m. Err (Retired m)) held hw _)
      ∙ ap second (consumed (λ m. Err (InputReserved m)) others ow _) ∙ ap third remade

-- checks 11 to 14 of a booked job by the counts of its record
pub admission_booked : (version : ℕ) (journal : List ℕ) (n : ℕ) (numbers sets : List ℕ) → IndexedEntries version journal n numbers sets
    → (held others : JobSet) → InWords held → InWords others → (job inputs outputs : ℕ) (part : List ℕ) (r : Verdict) → job < n
    → part ≡ record_at version journal n job → inputs ≡ (job_of part).inputs → outputs ≡ (job_of part).outputs
    → r ≡ admission_by numbers sets inputs outputs held others job
    → r ≡ admission (job_at version journal n) n held others (job_at version journal n job)
unfolding job_at
admission_booked version journal n numbers sets t held others hw ow job inputs outputs part r l ep ei eo er =
    er ∙ rw (ei, eo, ep) (by_index (job_at version journal n) n numbers sets (indexed_booked version journal n numbers sets t) t.few job l held others hw ow)
