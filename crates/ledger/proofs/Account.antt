-- The register's own invariant, and that taking an admissible job keeps it: what it says of tapes, labels and frames is what is defined
-- along its list. Frames balance because an admissible job's inputs stand, each once, and its frames balance.
use mathlib.Core.Bool.{not}
use mathlib.Core.List.{List, [], ◌++◌, ◌∷◌, append_assoc, append-nil}
use mathlib.Core.Logic.{◌⊎◌, inl, inr, ⊎_elim}
use mathlib.Core.Path.{◌∙◌, ◌≡◌, ap, ap₂, refl, subst, sym}
use Prim.Native.Nat.{◌+◌, ◌<◌, ℕ}
use native.Mathlib.Omega.{arith}
use lib.Dec.{eqb}
use lib.ListN.{get_or-append, get_or, length, length-append}
use lib.Pow.{split}
use Rattle.base.proofs.Members.{distinct_append, distinct_apart, distinct_left, distinct_map, distinct_map_keep, distinct_right, image_once, in_append, in_keep, in_last, in_left, in_map, in_right, in_snoc, keep_in, keep_same, map_append, map_in, reflect_member, total_append, without_total}
use Rattle.base.proofs.Reflect.{reflect_as, reflect_eq, reflect_not, reflects_same, refutes}
use Rattle.base.specs.Lists.{Distinct, In, any_in}
use Rattle.std.specs.Prelude.{Ok}
use Rattle.conflicts.proofs.Tapes.{WellFormed, checked_well_formed, reflect_tape}
use Rattle.checks.specs.Checks.{check_of, examined}
use Rattle.codec.specs.Codec.{job_of, record_size}
use Rattle.conflicts.specs.Tapes.{frames_in, input_tapes, labels, output_tapes, same_tape}
use Rattle.record.specs.declared.Entry.{Entry}
use Rattle.record.specs.declared.Job.{Job}
use Rattle.ledger.proofs.Admissible.{CanTake}
use Rattle.ledger.proofs.Gates.{passed_rest}
use Rattle.ledger.proofs.Splits.{CutLast, CutBefore, cut as cut_last, empty_uncut}
use Rattle.ledger.specs.Demand3.{InTurn, OneCreator, accessioned_along, made_along, retire, standing_along, standing_from, trimmed_along}
use Rattle.ledger.specs.Register.{Register, accession_of, entering, new_register, tabled, taking, without_inputs}

pub examined_checked : (version : ℕ) (bytes : List ℕ) → examined version bytes ≡ Ok (tt {0}) → check_of (job_of bytes) ≡ Ok (tt {0})
unfolding examined
examined_checked version bytes e = passed_rest (eqb (length bytes) (record_size version)) (check_of (job_of bytes)) _ e

-- ---- along a list
standing_snoc : (job : ℕ → Job) (st : List Entry) (ks : List ℕ) (k : ℕ)
    → standing_from job st (ks ++ (k ∷ [])) ≡ retire (job k) (standing_from job st ks) ++ output_tapes (job k)
standing_snoc job st [] k = refl
standing_snoc job st (x ∷ ks) k = standing_snoc job (retire (job x) st ++ output_tapes (job x)) ks k

standing_jobs : (job job' : ℕ → Job) (st : List Entry) (ks : List ℕ) → ((k : ℕ) → In k ks → job' k ≡ job k) → standing_from job' st ks ≡ standing_from job st ks
standing_jobs job job' st [] e = refl
standing_jobs job job' st (x ∷ ks) e =
    ap (λ (j : Job). standing_from job' (retire j st ++ output_tapes j) ks) (e x (inl refl))
    ∙ standing_jobs job job' (retire (job x) st ++ output_tapes (job x)) ks (λ k m. e k (inr m))

accessioned_jobs : (job job' : ℕ → Job) (ks : List ℕ) → ((k : ℕ) → In k ks → job' k ≡ job k) → accessioned_along job' ks ≡ accessioned_along job ks
accessioned_jobs job job' [] e = refl
accessioned_jobs job job' (x ∷ ks) e = ap₂ (λ (j : Job) (m : ℕ). accession_of j + m) (e x (inl refl)) (accessioned_jobs job job' ks (λ k m. e k (inr m)))

trimmed_jobs : (job job' : ℕ → Job) (ks : List ℕ) → ((k : ℕ) → In k ks → job' k ≡ job k) → trimmed_along job' ks ≡ trimmed_along job ks
trimmed_jobs job job' [] e = refl
trimmed_jobs job job' (x ∷ ks) e = ap₂ (λ (j : Job) (m : ℕ). j.trimmed + m) (e x (inl refl)) (trimmed_jobs job job' ks (λ k m. e k (inr m)))

made_snoc : (job : ℕ → Job) (ks : List ℕ) (k : ℕ) → made_along job (ks ++ (k ∷ [])) ≡ made_along job ks ++ labels (output_tapes (job k))
made_snoc job [] k = append-nil (labels (output_tapes (job k)))
made_snoc job (x ∷ ks) k =
    let made : List ℕ = labels (output_tapes (job x)) in
    ap (λ (l : List ℕ). made ++ l) (made_snoc job ks k) ∙ sym (append_assoc made (made_along job ks) (labels (output_tapes (job k))))

made_jobs : (job job' : ℕ → Job) (ks : List ℕ) → ((k : ℕ) → In k ks → job' k ≡ job k) → made_along job' ks ≡ made_along job ks
made_jobs job job' [] e = refl
made_jobs job job' (x ∷ ks) e =
    ap₂ (λ (j : Job) (l : List ℕ). labels (output_tapes j) ++ l) (e x (inl refl)) (made_jobs job job' ks (λ k m. e k (inr m)))

-- to take the input tapes away is to take their labels away, where each stands and no label stands twice
by_label : (j : Job) (st : List Entry) → Distinct (labels st) → ((t : Entry) → In t (input_tapes j) → In t st) → without_inputs j st ≡ retire j st
by_label j st d h = keep_same (λ t. not (any_in (λ s. same_tape s t) (input_tapes j))) (λ t. not (any_in (eqb t.label) (labels (input_tapes j)))) st same
  where
    same : (t : Entry) → In t st → not (any_in (λ s. same_tape s t) (input_tapes j)) ≡ not (any_in (eqb t.label) (labels (input_tapes j)))
    same t m = ap not (reflects_same
        (reflect_as (reflect_member t (input_tapes j) (λ s. reflect_as (reflect_tape s t) (λ e. sym e) (λ e. sym e)))
        (λ i. in_map (λ (x : Entry). x.label) (input_tapes j) t i)
        (λ i. let q = map_in (λ (x : Entry). x.label) (input_tapes j) t.label i in
        subst (λ (x : Entry). In x (input_tapes j)) (image_once (λ (x : Entry). x.label) st d q.0 t (h q.0 q.1) m (sym q.2)) q.1))
        (reflect_member t.label (labels (input_tapes j)) (reflect_eq t.label)))

-- the creator of an input is in the list
pub creator_in : {job : ℕ → Job} {ks : List ℕ} {m : ℕ} {t : Entry} (c : OneCreator job ks m t) → In c.creator ks
creator_in {job} {ks} {m} c =
    subst (λ (l : List ℕ). In c.creator l) (sym c.made.split) (in_left c.made.earlier (m ∷ c.made.later) c.creator c.made.before)

-- ---- the invariant
pub record Books (r : Register) : Type 0 where
  pub known : (k : ℕ) → In k r.taken → k < length r.table
  -- what a taken job made and none retired stands, and what stands was made by a taken job
  pub stands : (k : ℕ) (t : Entry) → In k r.taken → In t (output_tapes (tabled r.table k))
      → ((i : ℕ) → In i r.taken → In t.label (labels (input_tapes (tabled r.table i))) → ⊥) → In t r.standing
  pub stands_by : (t : Entry) → In t r.standing → (k : ℕ) × (In k r.taken × In t (output_tapes (tabled r.table k)))
  -- and has no label that a taken job retired
  pub unretired : (t : Entry) → In t r.standing → (k : ℕ) → In k r.taken → In t.label (labels (input_tapes (tabled r.table k))) → ⊥
  pub made_by_taken : (x : ℕ) → In x r.made → (k : ℕ) × (In k r.taken × In x (labels (output_tapes (tabled r.table k))))
  pub made_all : (k x : ℕ) → In k r.taken → In x (labels (output_tapes (tabled r.table k))) → In x r.made
  pub makers_once : (i k x : ℕ) → In i r.taken → In k r.taken → In x (labels (output_tapes (tabled r.table i)))
      → In x (labels (output_tapes (tabled r.table k))) → i ≡ k
  pub creators : (k : ℕ) → In k r.taken → (t : Entry) → In t (input_tapes (tabled r.table k)) → OneCreator (tabled r.table) r.taken k t
  -- wherever the list is cut, the job there found its inputs standing and its output labels unmade
  pub in_turn : (earlier later : List ℕ) (k : ℕ) → r.taken ≡ earlier ++ (k ∷ later) → InTurn (tabled r.table) earlier k
  pub once : Distinct (labels r.standing)
  pub along : r.standing ≡ standing_along (tabled r.table) r.taken
  pub marks : r.made ≡ made_along (tabled r.table) r.taken
  pub mints : r.accessioned ≡ accessioned_along (tabled r.table) r.taken
  pub frames : frames_in r.standing + trimmed_along (tabled r.table) r.taken ≡ r.accessioned

-- ---- the empty register
pub books_new : (version : ℕ) → Books (new_register version)
books_new version = record {
  known = λ k m. absurd m;
  stands = λ k t m. absurd m;
  stands_by = λ t m. absurd m;
  unretired = λ t m. absurd m;
  made_by_taken = λ x m. absurd m;
  made_all = λ k x m. absurd m;
  makers_once = λ i k x m. absurd m;
  creators = λ k m. absurd m;
  in_turn = λ earlier later k e. absurd (empty_uncut earlier later k e);
  once = tt;
  along = refl;
  marks = refl;
  mints = refl;
  frames = refl;
}

-- ---- a job is taken
module _ (r : Register) (k : ℕ) (b : Books r) (h : k < length r.table) (a : CanTake r (get_or r.table k [])) where
  abbrev j : Job
  j = tabled r.table k

  abbrev rest : List Entry
  rest = without_inputs j r.standing

  well_formed_lem : WellFormed j
  well_formed_lem = checked_well_formed j (examined_checked r.version (get_or r.table k []) a.fits)

  labels_once : Distinct (labels (input_tapes j) ++ labels (output_tapes j))
  labels_once = subst (λ (l : List ℕ). Distinct l) (map_append (λ (t : Entry). t.label) (input_tapes j) (output_tapes j)) well_formed_lem.distinct

  outputs_once : Distinct (labels (output_tapes j))
  outputs_once = distinct_right (labels (input_tapes j)) (labels (output_tapes j)) labels_once

  inputs_once : Distinct (input_tapes j)
  inputs_once = distinct_left (input_tapes j) (output_tapes j) (distinct_map (λ (t : Entry). t.label) (input_tapes j ++ output_tapes j) well_formed_lem.distinct)

  in_rest : (t : Entry) → In t rest → In t r.standing
  in_rest t m = (keep_in (λ t. not (any_in (λ s. same_tape s t) (input_tapes j))) r.standing t m).0

  -- none of its output labels was made before
  new_label : (x : ℕ) → In x (labels (output_tapes j)) → In x r.made → ⊥
  new_label x m y = let q = map_in (λ (t : Entry). t.label) (output_tapes j) x m in a.new q.0 q.1 (subst (λ (z : ℕ). In z r.made) q.2 y)

  -- it had not been taken, or its outputs would have been made
  stood : (i : ℕ) (t : Entry) → In i r.taken ⊎ (i ≡ k) → In t (output_tapes (tabled r.table i))
      → ((m : ℕ) → In m (r.taken ++ (k ∷ [])) → In t.label (labels (input_tapes (tabled r.table m))) → ⊥) → In t (rest ++ output_tapes j)
  stood i t (inl m) o n =
      in_left rest (output_tapes j) t
      (in_keep (λ t. not (any_in (λ s. same_tape s t) (input_tapes j))) r.standing t
      (b.stands i t m o (λ i' m' q. n i' (in_left r.taken (k ∷ []) i' m') q))
      (simp (refutes (reflect_member t (input_tapes j) (λ s. reflect_as (reflect_tape s t) (λ e. sym e) (λ e. sym e)))
      (λ (i : In t (input_tapes j)). n k (in_last r.taken k) (in_map (λ (t : Entry). t.label) (input_tapes j) t i)))))
  stood i t (inr e) o n = in_right rest (output_tapes j) t (rw e at o)

  stood_by : (t : Entry) → In t rest ⊎ In t (output_tapes j) → (i : ℕ) × (In i (r.taken ++ (k ∷ [])) × In t (output_tapes (tabled r.table i)))
  stood_by t (inl m) = let q = b.stands_by t (in_rest t m) in (q.0, (in_left r.taken (k ∷ []) q.0 q.1.0, q.1.1))
  stood_by t (inr m) = (k, (in_last r.taken k, m))

  makers : (x : ℕ) → In x r.made ⊎ In x (labels (output_tapes j))
      → (i : ℕ) × (In i (r.taken ++ (k ∷ [])) × In x (labels (output_tapes (tabled r.table i))))
  makers x (inl m) = let q = b.made_by_taken x m in (q.0, (in_left r.taken (k ∷ []) q.0 q.1.0, q.1.1))
  makers x (inr m) = (k, (in_last r.taken k, m))

  one_maker : (i m x : ℕ) → In i r.taken ⊎ (i ≡ k) → In m r.taken ⊎ (m ≡ k) → In x (labels (output_tapes (tabled r.table i)))
      → In x (labels (output_tapes (tabled r.table m))) → i ≡ m
  one_maker i m x (inl p) (inl q) o n = b.makers_once i m x p q o n
  one_maker i m x (inl p) (inr q) o n = absurd (new_label x (rw q at n) (b.made_all i x p o))
  one_maker i m x (inr p) (inl q) o n = absurd (new_label x (rw p at o) (b.made_all m x q n))
  one_maker i m x (inr p) (inr q) o n = p ∙ sym q

  labelled : (i : ℕ) (t : Entry) → In t (output_tapes (tabled r.table i)) → In t.label (labels (output_tapes (tabled r.table i)))
  labelled i t o = in_map (λ (t : Entry). t.label) (output_tapes (tabled r.table i)) t o

  -- the only maker of a tape, as the list grows
  only_maker : (c : ℕ) (t : Entry) → In c (r.taken ++ (k ∷ [])) → In t (output_tapes (tabled r.table c))
      → (i : ℕ) → In i (r.taken ++ (k ∷ [])) → In t (output_tapes (tabled r.table i)) → i ≡ c
  only_maker c t m o i n p = one_maker i c t.label (in_snoc r.taken k i n) (in_snoc r.taken k c m) (labelled i t p) (labelled c t o)

  created : (m : ℕ) → In m r.taken ⊎ (m ≡ k) → (t : Entry) → In t (input_tapes (tabled r.table m))
      → OneCreator (tabled r.table) (r.taken ++ (k ∷ [])) m t
  created m (inl p) t i =
      let o = b.creators m p t i in
      let c = o.made in
      record {
        creator = o.creator;
        made = record {
          earlier = c.earlier;
          later = c.later ++ (k ∷ []);
          split = ap (λ (l : List ℕ). l ++ (k ∷ [])) c.split ∙ append_assoc c.earlier (m ∷ c.later) (k ∷ []);
          before = c.before;
          makes = c.makes;
        };
        only = only_maker o.creator t (in_left r.taken (k ∷ []) o.creator (creator_in o)) c.makes;
      }
  created m (inr e) t i =
      let q = b.stands_by t (a.standing t (rw e at i)) in
      record {
        creator = q.0;
        made = record { earlier = r.taken; later = []; split = rw e; before = q.1.0; makes = q.1.1 };
        only = only_maker q.0 t (in_left r.taken (k ∷ []) q.0 q.1.0) q.1.1;
      }

  -- it found its inputs standing and its output labels unmade, and so did each before it
  turns : (earlier later : List ℕ) (m : ℕ) → CutLast r.taken k earlier m later ⊎ CutBefore r.taken k earlier m later
      → InTurn (tabled r.table) earlier m
  turns earlier later m (inl h) =
      rw (h.before, h.last)
      (record {
        stand = λ t i. subst (λ (l : List Entry). In t l) b.along (a.standing t i);
        unmade = λ x o y. new_label x o (subst (λ (l : List ℕ). In x l) (sym b.marks) y);
      })
  turns earlier later m (inr h) = b.in_turn earlier h.fewer m h.split

  cut : rest ≡ retire j r.standing
  cut = by_label j r.standing b.once a.standing

  -- its inputs are gone by their labels; and the labels of its outputs are new, so no job retired them
  kept : (t : Entry) → In t rest ⊎ In t (output_tapes j) → (i : ℕ) → In i r.taken ⊎ (i ≡ k) → In t.label (labels (input_tapes (tabled r.table i))) → ⊥
  kept t (inl m) i (inl p) x = b.unretired t (in_rest t m) i p x
  kept t (inl m) i (inr e) x =
      (reflect_not (reflect_member t.label (labels (input_tapes j)) (reflect_eq t.label))).sound
      (keep_in (λ t. not (any_in (eqb t.label) (labels (input_tapes j)))) r.standing t (subst (λ (l : List Entry). In t l) cut m)).1 (rw e at x)
  kept t (inr o) i (inl p) x =
      let s = map_in (λ (t : Entry). t.label) (input_tapes (tabled r.table i)) t.label x in
      let c = b.creators i p s.0 s.1 in
      new_label t.label (labelled k t o)
      (subst (λ (y : ℕ). In y r.made) (sym s.2) (b.made_all c.creator s.0.label (creator_in c) (labelled c.creator s.0 c.made.makes)))
  kept t (inr o) i (inr e) x = distinct_apart (labels (input_tapes j)) (labels (output_tapes j)) labels_once t.label (rw e at x) (labelled k t o)

  pub books_take : Books (taking r k)
  unfolding taking
  books_take = record {
    known = λ i m. ⊎_elim (b.known i) (λ e. rw e h) (in_snoc r.taken k i m);
    stands = λ i t m o n. stood i t (in_snoc r.taken k i m) o n;
    stands_by = λ t m. stood_by t (in_append rest (output_tapes j) t m);
    unretired = λ t m i p. kept t (in_append rest (output_tapes j) t m) i (in_snoc r.taken k i p);
    made_by_taken = λ x m. makers x (in_append r.made (labels (output_tapes j)) x m);
    made_all = λ i x m o. ⊎_elim
        (λ (p : In i r.taken). in_left r.made (labels (output_tapes j)) x (b.made_all i x p o))
        (λ (e : i ≡ k). in_right r.made (labels (output_tapes j)) x (subst (λ (z : ℕ). In x (labels (output_tapes (tabled r.table z)))) e o))
        (in_snoc r.taken k i m);
    makers_once = λ i m x p q o n. one_maker i m x (in_snoc r.taken k i p) (in_snoc r.taken k m q) o n;
    creators = λ m p t i. created m (in_snoc r.taken k m p) t i;
    in_turn = λ earlier later m e. turns earlier later m (cut_last r.taken k earlier m later e);
    once = rw (map_append (λ (t : Entry). t.label) rest (output_tapes j))
        (distinct_append (labels rest) (labels (output_tapes j))
        (distinct_map_keep (λ (t : Entry). t.label) (λ t. not (any_in (λ s. same_tape s t) (input_tapes j))) r.standing b.once) outputs_once
        (λ x m o.
        let p = map_in (λ (t : Entry). t.label) rest x m in
        let q = b.stands_by p.0 (in_rest p.0 p.1) in
        new_label x o (subst (λ (z : ℕ). In z r.made) (sym p.2) (b.made_all q.0 p.0.label q.1.0 (labelled q.0 p.0 q.1.1)))));
    along = ap (λ (l : List Entry). l ++ output_tapes j) (cut ∙ ap (retire j) b.along) ∙ sym (standing_snoc (tabled r.table) [] r.taken k);
    marks = ap (λ (l : List ℕ). l ++ labels (output_tapes j)) b.marks ∙ sym (made_snoc (tabled r.table) r.taken k);
    mints = omega (arith, b.mints, total_append (λ i. accession_of (tabled r.table i)) r.taken (k ∷ []));
    frames = omega (
      arith,
      total_append (λ (t : Entry). t.frames) rest (output_tapes j),
      without_total same_tape reflect_tape (λ (t : Entry). t.frames) (input_tapes j) r.standing
          (distinct_map (λ (t : Entry). t.label) r.standing b.once) inputs_once a.standing,
      total_append (λ i. (tabled r.table i).trimmed) r.taken (k ∷ []),
      well_formed_lem.balance,
      b.frames,
    );
  }

-- ---- a record enters the table: what the list names keeps its job
pub books_enter : (r : Register) (bytes : List ℕ) → Books r → Books (entering r bytes)
unfolding entering
books_enter r bytes b =
    let e : (k : ℕ) → In k r.taken
    → tabled (r.table ++ (bytes ∷ [])) k ≡ tabled r.table k = λ (k : ℕ) (m : In k r.taken). ap job_of
    (get_or-append r.table (bytes ∷ []) [] k (b.known k m)) in
    record {
      known = λ k m. omega (arith, b.known k m, length-append r.table (bytes ∷ []));
      stands = λ k t m o n. b.stands k t m (rw (e k m) at o) (λ i p q. n i p (rw (e i p) q));
      stands_by = λ t m. let q = b.stands_by t m in (q.0, (q.1.0, rw (e q.0 q.1.0) q.1.1));
      unretired = λ t m k p x. b.unretired t m k p (rw (e k p) at x);
      made_by_taken = λ x m. let q = b.made_by_taken x m in (q.0, (q.1.0, rw (e q.0 q.1.0) q.1.1));
      made_all = λ k x m o. b.made_all k x m (rw (e k m) at o);
      makers_once = λ i k x p q o n. b.makers_once i k x p q (rw (e i p) at o) (rw (e k q) at n);
      creators = λ k m t i.
          let o = b.creators k m t (rw (e k m) at i) in
          let c = o.made in
          record {
            creator = o.creator;
            made = record {
              earlier = c.earlier;
              later = c.later;
              split = c.split;
              before = c.before;
              makes = rw (e o.creator (creator_in o)) c.makes;
            };
            only = λ i p q. o.only i p (rw (e i p) at q);
          };
      in_turn = λ earlier later k q.
          let c = b.in_turn earlier later k q in
          let old : (m : ℕ) → In m earlier
          → tabled (r.table ++ (bytes ∷ [])) m ≡ tabled r.table m = λ (m : ℕ) (i : In m earlier). e m
          (subst (λ (l : List ℕ). In m l) (sym q) (in_left earlier (k ∷ later) m i)) in
          let now = e k (subst (λ (l : List ℕ). In k l) (sym q) (in_right earlier (k ∷ later) k (inl refl))) in
          record {
            stand = λ t i. rw (standing_jobs (tabled r.table) (tabled (r.table ++ (bytes ∷ []))) [] earlier old) (c.stand t (rw now at i));
            unmade = λ x o y.
                c.unmade x (rw now at o)
                (subst (λ (l : List ℕ). In x l) (made_jobs (tabled r.table) (tabled (r.table ++ (bytes ∷ []))) earlier old) y);
          };
      once = b.once;
      along = b.along ∙ sym (standing_jobs (tabled r.table) (tabled (r.table ++ (bytes ∷ []))) [] r.taken e);
      marks = b.marks ∙ sym (made_jobs (tabled r.table) (tabled (r.table ++ (bytes ∷ []))) r.taken e);
      mints = b.mints ∙ sym (accessioned_jobs (tabled r.table) (tabled (r.table ++ (bytes ∷ []))) r.taken e);
      frames = ap (λ (m : ℕ). frames_in r.standing + m) (trimmed_jobs (tabled r.table) (tabled (r.table ++ (bytes ∷ []))) r.taken e) ∙ b.frames;
    }
