-- Why order does not matter: what a register says is determined by its table and by which jobs it has taken. A tape stands exactly where a taken
-- job made it and no taken job has its label as an input, a label is made exactly where a taken job makes it, and a total over distinct
-- elements does not depend on their order (`alike`). So one thing is left to show of two orders: a ready job stays ready while jobs are taken from which
-- it is apart (`still`). Their inputs are not its inputs, so its own go on standing; their outputs are not its outputs, so its own stay new.
use mathlib.Core.Bool.{Bool, ◌&&◌, cond, false, not, true, true≢false}
use mathlib.Core.List.{List, [], ◌++◌, ◌∷◌, map}
use mathlib.Core.Logic.{◌≢◌, ◌⊎◌, ◌↔◌, inl, inr, ⊎_elim}
use mathlib.Core.Path.{◌∙◌, ◌≡◌, ap, refl, subst, sym}
use Prim.Native.Nat.{◌<◌, ℕ}
use native.Mathlib.Omega.{arith}
use lib.Dec.{eqb, ltb}
use lib.ListN.{get_or-append, get_or, length}
use borrow.Author.Tests.{eqb-false, eqb-true, lt-ltb, ltb-true}
use Rattle.base.proofs.Members.{
  distinct_append,
  distinct_apart,
  distinct_map,
  distinct_right,
  distinct_snoc,
  image_once,
  in_append,
  in_keep,
  in_left,
  in_map,
  in_right,
  in_snoc,
  keep_in,
  map_append,
  map_in,
  reflect_member,
  without_total,
}
use Rattle.base.proofs.Reflect.{and_true, by_cases, by_test, reflect_as, reflect_eq, reflect_not, refuted}
use Rattle.base.specs.Lists.{Distinct, In, any_in, same_list, total}
use Rattle.base.specs.Reflect.{Reflects}
use Rattle.conflicts.proofs.Tapes.{WellFormed, checked_well_formed, reflect_tape}
use Rattle.codec.specs.Codec.{job_of}
use Rattle.conflicts.specs.Tapes.{input_tapes, labels, output_tapes, same_tape}
use Rattle.record.specs.Entries.{no_entry}
use Rattle.record.specs.declared.Entry.{Entry}
use Rattle.record.specs.declared.Job.{Job}
use Rattle.ledger.proofs.Account.{Books, books_enter, books_new, books_take, examined_checked}
use Rattle.ledger.proofs.Admissible.{CanTake, reflect_admissible}
use Rattle.ledger.proofs.Demand3.{demand3}
use Rattle.ledger.proofs.Rivals.{apart_sym}
use Rattle.ledger.specs.Demand3.{Apart}
use Rattle.consequences.specs.Independence.{
  Alike,
  ApartDiffer,
  BatchesCommute,
  Commit,
  CommitsCommute,
  Commuting,
  OrderForgotten,
  Reached,
  ReachedByLists,
  Eligible,
  SameSet,
  fed_as,
  jobs_of,
}
use Rattle.ledger.specs.Register.{
  Fed,
  Register,
  accession_of,
  entering,
  feed,
  feed_all,
  feed_commit,
  feed_done,
  feed_proposal,
  is_admissible,
  log,
  new_register,
  stopped,
  tabled,
  taking,
  without_inputs,
}
use Rattle.ledger.specs.Worlds.{Request, client_preflight, commit, dependencies, equivocating, faulty_vote, generations, preflight, propose, release}
use Rattle.ledger.specs.Worlds.{show, snapshot, start}

-- ---- what a running register keeps
pub record Kept (r : Register) : Type 0 where
  pub books : Books r
  pub taken_once : Distinct r.taken
  pub made_once : Distinct r.made
  -- no taken job has the label of a standing tape as an input
  pub unretired : (t : Entry) → In t r.standing → (i : ℕ) → In i r.taken → In t.label (labels (input_tapes (tabled r.table i))) → ⊥

label_in_lem : (l : List Entry) (t : Entry) → In t l → In t.label (labels l)
label_in_lem l t m = in_map (λ (t : Entry). t.label) l t m

in_label : (l : List Entry) (x : ℕ) → In x (labels l) → (t : Entry) × In t l × (x ≡ t.label)
in_label l x m = map_in (λ (t : Entry). t.label) l x m

-- the tapes without a job's inputs
module _ (j : Job) (l : List Entry) (t : Entry) where
  abbrev is_other : Entry → Bool
  is_other t = not (any_in (λ s. same_tape s t) (input_tapes j))

  reflect_other : Reflects (is_other t) (In t (input_tapes j) → ⊥)
  reflect_other = reflect_not (reflect_member t (input_tapes j) (λ s. reflect_as (reflect_tape s t) (λ e. sym e) (λ e. sym e)))

  without_in : In t (without_inputs j l) → In t l × (In t (input_tapes j) → ⊥)
  without_in m = let k = keep_in is_other l t m in (k.0, reflect_other.sound k.1)

  in_without : In t l → (In t (input_tapes j) → ⊥) → In t (without_inputs j l)
  in_without m n = in_keep is_other l t m (reflect_other.complete n)

module _ (r : Register) (q : Books r) where
  -- what stands has been made
  standing_made : (t : Entry) → In t r.standing → In t.label r.made
  standing_made t m =
      let p = q.stands_by t m in
      q.made_all p.0 t.label p.1.0 (label_in_lem (output_tapes (tabled r.table p.0)) t p.1.1)

  -- so has what was retired
  retired_made : (i x : ℕ) → In i r.taken → In x (labels (input_tapes (tabled r.table i))) → In x r.made
  retired_made i x h m =
      let p = in_label (input_tapes (tabled r.table i)) x m in
      let o = q.creators i h p.0 p.1 in
      let c = o.made in
      let here : In o.creator r.taken = subst (λ (l : List ℕ). In o.creator l) (sym c.split)
      (in_left c.earlier (i ∷ c.later) o.creator c.before) in
      subst (λ (z : ℕ). In z r.made) (sym p.2)
      (q.made_all o.creator p.0.label here (label_in_lem (output_tapes (tabled r.table o.creator)) p.0 c.makes))

-- ---- a job is taken
module _ (r : Register) (q : Kept r) (k : ℕ) (a : CanTake r (get_or r.table k [])) where
  abbrev j : Job
  j = tabled r.table k

  abbrev rest : List Entry
  rest = without_inputs j r.standing

  formed : WellFormed j
  formed = checked_well_formed j (examined_checked r.version (get_or r.table k []) a.fits)

  once : Distinct (labels (input_tapes j) ++ labels (output_tapes j))
  once = subst (λ (l : List ℕ). Distinct l) (map_append (λ (t : Entry). t.label) (input_tapes j) (output_tapes j)) formed.distinct

  fresh : (x : ℕ) → In x r.made → In x (labels (output_tapes j)) → ⊥
  fresh x y m = let p = in_label (output_tapes j) x m in a.new p.0 p.1 (subst (λ (z : ℕ). In z r.made) p.2 y)

  -- it makes a tape
  some_label : (x : ℕ) × In x (labels (output_tapes j))
  some_label = let t = get_or j.entries 4 no_entry in (t.label, label_in_lem (output_tapes j) t formed.made)

  -- or the label would have been made
  untaken : In k r.taken → ⊥
  untaken m = fresh some_label.0 (q.books.made_all k some_label.0 m some_label.1) some_label.1

  -- what stands afterwards no taken job has retired. A tape that is left has not the label of an input, which would be the same tape; an output's
  -- label was not made, so not retired, and is none of the job's own inputs'
  stays : (t : Entry) → In t rest ⊎ In t (output_tapes j) → (i : ℕ) → In i r.taken ⊎ (i ≡ k) → In t.label (labels (input_tapes (tabled r.table i))) → ⊥
  stays t (inl m) i (inl p) x = q.unretired t (without_in j r.standing t m).0 i p x
  stays t (inl m) i (inr e) x =
      let left = without_in j r.standing t m in
      let p = in_label (input_tapes j) t.label (rw e at x) in
      left.1 (subst (λ (s : Entry). In s (input_tapes j))
      (image_once (λ (t : Entry). t.label) r.standing q.books.once p.0 t (a.standing p.0 p.1) left.0 (sym p.2)) p.1)
  stays t (inr m) i (inl p) x = a.new t m (retired_made r q.books i t.label p x)
  stays t (inr m) i (inr e) x = distinct_apart (labels (input_tapes j)) (labels (output_tapes j)) once t.label (rw e at x) (label_in_lem (output_tapes j) t m)

  pub kept_take : k < length r.table → Kept (taking r k)
  unfolding taking
  kept_take h = record {
    books = books_take r k q.books h a;
    taken_once = distinct_snoc r.taken k q.taken_once untaken;
    made_once = distinct_append r.made (labels (output_tapes j)) q.made_once (distinct_right (labels (input_tapes j)) (labels (output_tapes j)) once) fresh;
    unretired = λ t m i p x. stays t (in_append rest (output_tapes j) t m) i (in_snoc r.taken k i p) x;
  }

-- ---- whatever it is fed
abbrev Running : Register → Type 0
Running r = r.running ≡ true → Kept r

kept_new : (version : ℕ) → Kept (new_register version)
kept_new version = record { books = books_new version; taken_once = tt; made_once = tt; unretired = λ t m. absurd m }

kept_enter : (r : Register) (bytes : List ℕ) → Kept r → Kept (entering r bytes)
unfolding entering
kept_enter r bytes q = record {
  books = books_enter r bytes q.books;
  taken_once = q.taken_once;
  made_once = q.made_once;
  unretired = λ t m i p x. q.unretired t m i p
      (subst (λ (b : List ℕ). In t.label (labels (input_tapes (job_of b)))) (get_or-append r.table (bytes ∷ []) [] i (q.books.known i p)) x);
}

running_proposal : (r : Register) (bytes : List ℕ) → Running r → Running (feed_proposal r bytes)
unfolding feed_proposal entering
running_proposal r bytes h =
    by_cases (λ b. Running (cond b r (entering r bytes))) (any_in (λ x. same_list x bytes) r.table) (λ e. h) (λ e. λ run. kept_enter r bytes (h run))

running_commit : (r : Register) (k : ℕ) → Running r → Running (feed_commit r k)
unfolding feed_commit stopped taking
running_commit r k h =
    let passed : Bool = ltb k (length r.table) && is_admissible r (get_or r.table k []) in
    by_cases (λ b. Running (cond b r (cond passed (taking r k) (stopped r)))) (any_in (eqb k) r.taken) (λ e. h)
    (λ e. by_cases (λ b. Running (cond b (taking r k) (stopped r))) passed
    (λ e. λ run.
    let p = and_true (ltb k (length r.table)) (is_admissible r (get_or r.table k [])) e in
    kept_take r (h run) k ((reflect_admissible r (get_or r.table k [])).sound p.1) (ltb-true k (length r.table) p.0))
    (λ e. λ run. absurd (true≢false (sym run))))

running_done : (r : Register) (request : Request) → Running r → Running (feed_done r request)
running_done r (propose bytes) h = running_proposal r bytes h
running_done r (preflight v job) h = h
running_done r (commit v job signers) h = running_commit r job h
running_done r (faulty_vote column v job) h = h
running_done r (show job) h = h
running_done r (generations job) h = h
running_done r snapshot h = h
running_done r (release v job rival) h = h
running_done r (dependencies v job) h = h
running_done r (client_preflight v job client) h = h
running_done r equivocating h = h

running_all : (r : Register) (xs : List Fed) → Running r → Running (feed_all r xs)
running_all r [] h = h
running_all r (x ∷ xs) h =
    running_all (feed r x.request x.done) xs
    (by_cases (λ b. Running (cond b (feed_done r x.request) r)) (x.done && r.running) (λ e. running_done r x.request h) (λ e. h))

pub reached_kept : (r : Register) → Reached r → Kept r
reached_kept r h = subst (λ (x : Register). Running x) h.leads (running_all (new_register h.version) h.fed (λ run. kept_new h.version)) h.running

pub reached_by_lists : ReachedByLists
reached_by_lists n b faulty version lawful es = record {
  version = version;
  fed = log (start n b faulty version) es;
  leads = refl;
  running = (demand3 n b faulty version lawful es).0.running;
}

-- ---- the jobs taken decide
-- each total is at least the other
same_total : {A : Type 0} (same : A → A → Bool) → ((x y : A) → Reflects (same x y) (x ≡ y)) → (w : A → ℕ) {l m : List A} → SameSet l m → total w l ≡ total w m
same_total same reflect w {l} {m} s = omega (
  arith,
  without_total same reflect w m l s.once s.once' (λ x h. (s.same x).1 h),
  without_total same reflect w l m s.once' s.once (λ x h. (s.same x).0 h),
)

-- two registers that have taken the same jobs
module _ (r s : Register) (q : Kept r) (p : Kept s) (e : r.table ≡ s.table) (same : (k : ℕ) → In k r.taken ↔ In k s.taken) where
  jobs : SameSet r.taken s.taken
  jobs = record { once = q.taken_once; once' = p.taken_once; same = same }

  -- a total over the jobs taken does not depend on their order
  same_over : (w : Job → ℕ) → total (λ k. w (tabled r.table k)) r.taken ≡ total (λ k. w (tabled s.table k)) s.taken
  same_over w =
      same_total eqb reflect_eq (λ k. w (tabled r.table k)) jobs
      ∙ ap (λ (l : List (List ℕ)). total (λ (k : ℕ). w (tabled l k)) s.taken) e

  -- what stands, and what is made, in the one does in the other
  still_stands : (t : Entry) → In t r.standing → In t s.standing
  still_stands t m =
      let o = q.books.stands_by t m in
      p.books.stands o.0 t ((same o.0).0 o.1.0) (subst (λ (l : List (List ℕ)). In t (output_tapes (tabled l o.0))) e o.1.1)
      (λ i h x. q.unretired t m i ((same i).1 h) (subst (λ (l : List (List ℕ)). In t.label (labels (input_tapes (tabled l i)))) (sym e) x))

  still_made : (x : ℕ) → In x r.made → In x s.made
  still_made x m =
      let o = q.books.made_by_taken x m in
      p.books.made_all o.0 x ((same o.0).0 o.1.0) (subst (λ (l : List (List ℕ)). In x (labels (output_tapes (tabled l o.0)))) e o.1.1)

pub alike : (r s : Register) → r.running ≡ true → s.running ≡ true → Kept r → Kept s → r.version ≡ s.version → r.table ≡ s.table
    → ((k : ℕ) → In k r.taken ↔ In k s.taken) → Alike r s
alike r s run run' q p v e same =
    let back : (k : ℕ) → In k s.taken ↔ In k r.taken = λ k. ((same k).1, (same k).0) in
    let tapes : SameSet r.standing s.standing = record {
      once = distinct_map (λ (t : Entry). t.label) r.standing q.books.once;
      once' = distinct_map (λ (t : Entry). t.label) s.standing p.books.once;
      same = λ t. (still_stands r s q p e same t, still_stands s r p q (sym e) back t);
    } in
    record {
      runs = run;
      runs' = run';
      version = v;
      table = e;
      taken = jobs r s q p e same;
      standing = tapes;
      made = record { once = q.made_once; once' = p.made_once; same = λ x. (still_made r s q p e same x, still_made s r p q (sym e) back x) };
      accessioned = q.books.mints ∙ same_over r s q p e same accession_of ∙ sym p.books.mints;
      frames = same_total same_tape reflect_tape (λ (t : Entry). t.frames) tapes;
      trimmed = same_over r s q p e same (λ (j : Job). j.trimmed);
    }

pub order_forgotten : OrderForgotten
order_forgotten r s h g v e same = alike r s h.running g.running (reached_kept r h) (reached_kept s g) v e same

-- ---- a ready job stays ready
can_take : (r : Register) (k : ℕ) → Eligible r k → CanTake r (get_or r.table k [])
can_take r k h = (reflect_admissible r (get_or r.table k [])).sound h.admissible

module _ (r : Register) (i k : ℕ) (hk : Eligible r k) where
  abbrev I : Job
  I = tabled r.table i

  abbrev K : Job
  K = tabled r.table k

  still : Apart I K → Eligible (taking r i) k
  unfolding taking
  still h =
      let c = can_take r k hk in
      record {
        known = hk.known;
        admissible = (reflect_admissible (taking r i) (get_or r.table k [])).complete (record {
          fits = c.fits;
          standing = λ t m. in_left (without_inputs I r.standing) (output_tapes I) t
              (in_without I r.standing t (c.standing t m)
              (λ (n : In t (input_tapes I)). h.inputs t.label (label_in_lem (input_tapes I) t n) (label_in_lem (input_tapes K) t m)));
          new = λ t m x. ⊎_elim (c.new t m) (λ (n : In t.label (labels (output_tapes I))). h.outputs t.label n (label_in_lem (output_tapes K) t m))
              (in_append r.made (labels (output_tapes I)) t.label x);
        });
      }

  -- what the one makes the other does not take: that label was made before
  strange : Kept r → Eligible r i → (x : ℕ) → In x (labels (output_tapes I)) → In x (labels (input_tapes K)) → ⊥
  strange q hi x m n =
      let t = in_label (input_tapes K) x n in
      fresh r q i (can_take r i hi) x
      (subst (λ (z : ℕ). In z r.made) (sym t.2) (standing_made r q.books t.0 ((can_take r k hk).standing t.0 t.1))) m

swapped : (l : List ℕ) (i k x : ℕ) → In x ((l ++ (i ∷ [])) ++ (k ∷ [])) → In x ((l ++ (k ∷ [])) ++ (i ∷ []))
swapped l i k x m =
    ⊎_elim
    (λ n. ⊎_elim (λ p. in_left (l ++ (k ∷ [])) (i ∷ []) x (in_left l (k ∷ []) x p)) (λ e. in_right (l ++ (k ∷ [])) (i ∷ []) x (inl e)) (in_snoc l i x n))
    (λ e. in_left (l ++ (k ∷ [])) (i ∷ []) x (in_right l (k ∷ []) x (inl e)))
    (in_snoc (l ++ (i ∷ [])) k x m)

-- a job makes a tape, which it shares with itself
pub apart_differ : ApartDiffer
apart_differ r reached i k hi h e =
    let m = some_label r (reached_kept r reached) i (can_take r i hi) in
    h.outputs m.0 m.1 (subst (λ (z : ℕ). In m.0 (labels (output_tapes (tabled r.table z)))) e m.1)

pub commuting : Commuting
unfolding taking
commuting r reached i k ne hi hk h =
    let q : Kept r = reached_kept r reached in
    let second : Eligible (taking r i) k = still r i k hk h in
    let first : Eligible (taking r k) i = still r k i hi (apart_sym h) in
    record {
      second = second;
      first = first;
      alike = alike (taking (taking r i) k) (taking (taking r k) i) reached.running reached.running
          (kept_take (taking r i) (kept_take r q i (can_take r i hi) hi.known) k (can_take (taking r i) k second) hk.known)
          (kept_take (taking r k) (kept_take r q k (can_take r k hk) hk.known) i (can_take (taking r k) i first) hi.known)
          refl refl (λ x. (swapped r.taken i k x, swapped r.taken k i x));
      independent = record { in_in = h.inputs; out_in = strange r i k hk q hi; in_out = strange r k i hi q hk };
    }

-- ---- commits, one after the other
module _ (r : Register) (c : Commit) (run : r.running ≡ true) where
  fed_commit : feed_all r (fed_as c ∷ []) ≡ feed_commit r c.job
  fed_commit = ap (λ (b : Bool). cond b (feed_commit r c.job) r) run

  feed_taken : any_in (eqb c.job) r.taken ≡ true → feed_all r (fed_as c ∷ []) ≡ r
  unfolding feed_commit
  feed_taken e = fed_commit ∙ rw e

  feed_ready : any_in (eqb c.job) r.taken ≡ false → Eligible r c.job → feed_all r (fed_as c ∷ []) ≡ taking r c.job
  unfolding feed_commit
  feed_ready e h = fed_commit ∙ rw (e, lt-ltb c.job (length r.table) h.known, h.admissible)

-- what commits of the jobs ks, in whatever order, make of a register
record Carried (r : Register) (ks : List ℕ) (s : Register) : Type 0 where
  running : s.running ≡ true
  kept : Kept s
  version : s.version ≡ r.version
  table : s.table ≡ r.table
  taken : (x : ℕ) → In x s.taken ↔ (In x r.taken ⊎ In x ks)

-- a job that was taken is not taken again
again : (r s : Register) (k : ℕ) (ks : List ℕ) → In k r.taken → Carried r ks s → Carried r (k ∷ ks) s
again r s k ks m c = record {
  running = c.running;
  kept = c.kept;
  version = c.version;
  table = c.table;
  taken = λ x. (
    (λ (h : In x s.taken). ⊎_elim (λ p. inl p) (λ p. inr (inr p)) ((c.taken x).0 h)),
    (λ (h : In x r.taken ⊎ In x (k ∷ ks)).
        (c.taken x).1 (⊎_elim (λ p. inl p) (⊎_elim (λ e. inl (subst (λ (z : ℕ). In z r.taken) (sym e) m)) (λ p. inr p)) h)),
  );
}

-- one more is taken first
onward : (r s : Register) (k : ℕ) (ks : List ℕ) → Carried (taking r k) ks s → Carried r (k ∷ ks) s
unfolding taking
onward r s k ks c = record {
  running = c.running;
  kept = c.kept;
  version = c.version;
  table = c.table;
  taken = λ x. (
    (λ (h : In x s.taken). ⊎_elim (λ m. ⊎_elim (λ p. inl p) (λ e. inr (inl e)) (in_snoc r.taken k x m)) (λ p. inr (inr p)) ((c.taken x).0 h)),
    (λ (h : In x r.taken ⊎ In x (k ∷ ks)).
        (c.taken x).1
        (⊎_elim (λ p. inl (in_left r.taken (k ∷ []) x p)) (⊎_elim (λ e. inl (in_right r.taken (k ∷ []) x (inl e))) (λ p. inr p)) h)),
  );
}

-- taking a job leaves the table and the register running
taking_runs : (r : Register) (k : ℕ) → r.running ≡ true → (taking r k).running ≡ true
unfolding taking
taking_runs r k run = run

taking_apart : (r : Register) (k : ℕ) (cs : List Commit)
    → ((i x : ℕ) → In i (jobs_of cs) → In x (jobs_of cs) → i ≢ x → Apart (tabled r.table i) (tabled r.table x))
    → (i x : ℕ) → In i (jobs_of cs) → In x (jobs_of cs) → i ≢ x → Apart (tabled (taking r k).table i) (tabled (taking r k).table x)
unfolding taking
taking_apart r k cs apart = apart

-- the job k is taken: another is taken by now, or still ready
waiting : (r : Register) (k x : ℕ) → (k ≢ x → Apart (tabled r.table k) (tabled r.table x)) → In x r.taken ⊎ Eligible r x
    → In x (taking r k).taken ⊎ Eligible (taking r k) x
unfolding taking
waiting r k x apart (inl m) = inl (in_left r.taken (k ∷ []) x m)
waiting r k x apart (inr g) =
    by_test (eqb x k)
    (λ e. inl (in_right r.taken (k ∷ []) x (inl (eqb-true x k e))))
    (λ e. inr (still r k x g (apart (λ (f : k ≡ x). eqb-false x k e (sym f)))))

-- of the jobs still to come each is taken by now, or ready
carried : (cs : List Commit) (r : Register) → r.running ≡ true → Kept r → ((k : ℕ) → In k (jobs_of cs) → In k r.taken ⊎ Eligible r k)
    → ((i k : ℕ) → In i (jobs_of cs) → In k (jobs_of cs) → i ≢ k → Apart (tabled r.table i) (tabled r.table k))
    → Carried r (jobs_of cs) (feed_all r (map fed_as cs))
carried [] r run q ready apart = record { running = run; kept = q; version = refl; table = refl; taken = λ x. ((λ m. inl m), ⊎_elim (λ m. m) (λ z. absurd z)) }
carried (c ∷ cs) r run q ready apart =
    let k : ℕ = c.job in
    let member = reflect_member k r.taken (reflect_eq k) in
    by_test (any_in (eqb k) r.taken)
    (λ e. subst (λ (s : Register). Carried r (k ∷ jobs_of cs) (feed_all s (map fed_as cs))) (sym (feed_taken r c run e))
    (again r (feed_all r (map fed_as cs)) k (jobs_of cs) (member.sound e)
    (carried cs r run q (λ x m. ready x (inr m)) (λ i x m n. apart i x (inr m) (inr n)))))
    (λ e. let h : Eligible r k = ⊎_elim (λ m. absurd (refuted member e m)) (λ h. h) (ready k (inl refl)) in
    subst (λ (s : Register). Carried r (k ∷ jobs_of cs) (feed_all s (map fed_as cs))) (sym (feed_ready r c run e h))
    (onward r (feed_all (taking r k) (map fed_as cs)) k (jobs_of cs)
    (carried cs (taking r k) (taking_runs r k run) (kept_take r q k (can_take r k h) h.known)
    (λ x m. waiting r k x (λ ne. apart k x (inl refl) (inr m) ne) (ready x (inr m)))
    (taking_apart r k cs (λ i x m n. apart i x (inr m) (inr n))))))

pub batches_commute : BatchesCommute
batches_commute r reached cs ds batch same =
    let q : Kept r = reached_kept r reached in
    let c = carried cs r reached.running q (λ k m. inr (batch.ready k m)) batch.apart in
    let d = carried ds r reached.running q (λ k m. inr (batch.ready k ((same k).1 m)))
    (λ i k m n. batch.apart i k ((same i).1 m) ((same k).1 n)) in
    let end : Register = feed_all r (map fed_as cs) in
    let end' : Register = feed_all r (map fed_as ds) in
    record {
      alike = alike end end' c.running d.running c.kept d.kept (c.version ∙ sym d.version) (c.table ∙ sym d.table) (λ k. (
        (λ (m : In k end.taken). (d.taken k).1 (⊎_elim (λ p. inl p) (λ p. inr ((same k).0 p)) ((c.taken k).0 m))),
        (λ (m : In k end'.taken). (c.taken k).1 (⊎_elim (λ p. inl p) (λ p. inr ((same k).1 p)) ((d.taken k).0 m))),
      ));
      taken = λ k m. (c.taken k).1 (inr m);
    }

-- two commits are a batch
pub commits_commute : CommitsCommute
commits_commute r reached i k hi hk h v w signers signers' =
    let c : Commit = record { vault = v; job = i; signers = signers } in
    let d : Commit = record { vault = w; job = k; signers = signers' } in
    (batches_commute r reached (c ∷ d ∷ []) (d ∷ c ∷ [])
    (record {
      ready = λ x m. ⊎_elim (λ e. rw e hi) (⊎_elim (λ e. rw e hk) (λ z. absurd z)) m;
      apart = λ x y m n ne.
          ⊎_elim
          (λ (e : x ≡ i). ⊎_elim (λ (f : y ≡ i). absurd (ne (e ∙ sym f))) (⊎_elim (λ (f : y ≡ k). rw (e, f) h) (λ z. absurd z)) n)
          (⊎_elim
          (λ (e : x ≡ k). ⊎_elim (λ (f : y ≡ i). rw (e, f) (apart_sym h)) (⊎_elim (λ (f : y ≡ k). absurd (ne (e ∙ sym f))) (λ z. absurd z)) n)
          (λ z. absurd z))
          m;
    })
    (λ x. (
      (λ (m : In x (i ∷ k ∷ [])). ⊎_elim (λ e. inr (inl e)) (⊎_elim (λ e. inl e) (λ z. absurd z)) m),
      (λ (m : In x (k ∷ i ∷ [])). ⊎_elim (λ e. inr (inl e)) (⊎_elim (λ e. inl e) (λ z. absurd z)) m),
    ))).alike
