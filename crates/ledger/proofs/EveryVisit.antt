-- The value of every visit. After any list the vault whose turn it is is the number of visits by remainder, and the jobs seen are those that the correct vaults
-- visited in this round held when they were visited: a visit adds what its vault holds, the first of a round forgets the rest, and no other step touches
-- either. So the count that a visit answers is the number of these jobs.
use mathlib.Core.Bool.{Bool, cond, false, true, true≢false}
use mathlib.Core.List.{List, [], ◌++◌, ◌∷◌, append_assoc, append-nil}
use mathlib.Core.Logic.{◌↔◌, ⊎_elim}
use mathlib.Core.Path.{◌∙◌, ◌≡◌, ap, ap₂, refl, subst, sym}
use Prim.Native.Nat.{◌%◌, ◌+◌, ◌<◌, suc, ℕ}
use native.Mathlib.Nat.{mod-add-mod, mod-eq_of_lt, mod-lt, mod_self, suc-mod, zero-mod}
use native.Mathlib.Omega.{arith}
use lib.Dec.{ltb}
use borrow.Author.Tests.{ltb-false, ltb-true}
use Rattle.base.proofs.Reflect.{by_cases, by_test}
use Rattle.federation.specs.declared.Settings.{Settings}
use Rattle.std.specs.Prelude.{Ok}
use Rattle.job_sets.proofs.Jobs.{has_no_jobs}
use Rattle.job_sets.specs.Jobs.{job_count, job_has}
use Rattle.job_sets.specs.declared.job_set.JobSet.{JobSet}
use Rattle.snapshot.proofs.Visits.{begins_anew, goes_on, sees_held, sees_only, sees_still}
use Rattle.snapshot.specs.Snapshot.{following}
use Rattle.ledger.proofs.Changes.{Shape, changes, seen_next, shape_sane}
use Rattle.ledger.proofs.Demand3.{along, first, kept, same_settings, settings_first}
use Rattle.ledger.proofs.Gates.{reflect_sane}
use Rattle.ledger.proofs.Invariant.{Inv}
use Rattle.ledger.proofs.Snapshots.{after_append, is_snapshot_lem, left, made}
use Rattle.ledger.proofs.Splits.{CutBefore, CutLast, cut, empty_uncut}
use Rattle.ledger.proofs.Words.{count_lists, fits_along, fits_first, seen_words}
use Rattle.ledger.specs.Decisions.{snapshotting}
use Rattle.ledger.specs.Demand3.{HeldBy}
use Rattle.ledger.specs.Register.{Register, is_done, new_register}
use Rattle.ledger.specs.Rounds.{EveryVisit, SeenAlong, is_snapshot, visits}
use Rattle.ledger.specs.State.{new_ledger, visited}
use Rattle.ledger.specs.Steps.{sane_gate, snapshot_decision}
use Rattle.ledger.specs.Worlds.{Event, World, after, after_all, reply_to, snapshot, start}
use Rattle.ledger.specs.declared.Ledger.{Ledger}

-- a sane ledger answers a visit with the number of jobs seen
pub answered : (w : World) → Shape w.ledger w.booked → (e : Event) → e.request ≡ snapshot → (reply_to w e).outcome ≡ Ok (job_count (seen_next w.ledger))
unfolding snapshot_decision snapshotting sane_gate
answered w sh e q = simp (q, (reflect_sane w.ledger).complete (shape_sane sh))

visits_append : (xs ys : List Event) → visits (xs ++ ys) ≡ visits xs + visits ys
visits_append [] ys = omega arith
visits_append (x ∷ xs) ys =
    by_cases (λ b. cond b (suc (visits (xs ++ ys))) (visits (xs ++ ys)) ≡ cond b (suc (visits xs)) (visits xs) + visits ys) (is_snapshot x.request)
    (λ _. omega (arith, visits_append xs ys)) (λ _. visits_append xs ys)

one_visit : (e : Event) (es : List Event) → e.request ≡ snapshot → visits (e ∷ es) ≡ suc (visits es)
one_visit e es q = ap (λ (b : Bool). cond b (suc (visits es)) (visits es)) (ap is_snapshot q)

no_visit : (e : Event) → is_snapshot e.request ≡ false → visits (e ∷ []) ≡ 0
no_visit e q = ap (λ (b : Bool). cond b 1 0) q

-- ---- whose turn it is
module _ (n : ℕ) (some : 0 < n) where
  -- the remainder goes on by one, or begins anew
  next_turn : (i : ℕ) → following n (i % n) ≡ (i + 1) % n
  next_turn i =
      let below = mod-lt i some in
      let one : (i + 1) % n ≡ suc (i % n) % n = ap (λ (x : ℕ). x % n) (omega arith) ∙ suc-mod i n in
      by_test (ltb (suc (i % n)) n)
      (λ t. let h = ltb-true (suc (i % n)) n t in goes_on n (i % n) (omega (arith, h)) ∙ (omega arith ∙ sym (one ∙ mod-eq_of_lt h)))
      (λ f.
      let h = ltb-false (suc (i % n)) n f in
      let all : suc (i % n) ≡ n = omega (arith, h, below) in
      begins_anew n (i % n) (omega (arith, h)) ∙ sym (one ∙ (ap (λ (x : ℕ). x % n) all ∙ mod_self n)))

  -- within a round it is the turn of the vault so many further
  further : (i m : ℕ) → i % n + m < n → (i + m) % n ≡ i % n + m
  further i m h = sym (mod-add-mod i n m) ∙ mod-eq_of_lt h

  -- a visit to another vault than 0 does not begin a round
  same_round : (i m : ℕ) → i % n + m < n → 0 < (i + (m + 1)) % n → i % n + (m + 1) < n
  same_round i m h t =
      by_test (ltb (i % n + (m + 1)) n) (λ e. ltb-true (i % n + (m + 1)) n e)
      (λ f.
      let g = ltb-false (i % n + (m + 1)) n f in
      let all : i % n + (m + 1) ≡ n = omega (arith, h, g) in
      let none : (i + (m + 1)) % n ≡ 0 = sym (mod-add-mod i n (m + 1)) ∙ (ap (λ (x : ℕ). x % n) all ∙ mod_self n) in
      absurd (omega (arith, t, none)))

-- ---- what is seen
module _ (w₀ : World) where
  abbrev vaults : ℕ
  vaults = w₀.ledger.settings.n

  record Seeing (done : List Event) (l : Ledger) : Type 0 where
    settings : l.settings ≡ w₀.ledger.settings
    next : l.next ≡ visits done % vaults
    seen : (k : ℕ) → (job_has l.seen k ≡ true) ↔ SeenAlong w₀ done k

  -- a step more, of which the round goes on
  longer : (done : List Event) (e : Event) (k : ℕ) (s : SeenAlong w₀ done k)
      → visits s.before % vaults + visits (s.later ++ (e ∷ [])) < vaults → SeenAlong w₀ (done ++ (e ∷ [])) k
  longer done e k s h = record {
    before = s.before;
    visit = s.visit;
    later = s.later ++ (e ∷ []);
    split = ap (λ (l : List Event). l ++ (e ∷ [])) s.split ∙ append_assoc s.before (s.visit ∷ s.later) (e ∷ []);
    visits_here = s.visits_here;
    this_round = h;
    held = s.held;
  }

  -- a step less, that was not the visit
  shorter : (done : List Event) (e : Event) (k : ℕ) (s : SeenAlong w₀ (done ++ (e ∷ [])) k) (c : CutBefore done e s.before s.visit s.later)
      → SeenAlong w₀ done k
  shorter done e k s c = record {
    before = s.before;
    visit = s.visit;
    later = c.fewer;
    split = c.split;
    visits_here = s.visits_here;
    this_round =
        omega (arith, s.this_round, ap visits c.more ∙ visits_append c.fewer (e ∷ []));
    held = s.held;
  }

  -- another step leaves all as it is
  passes : (done : List Event) (e : Event) (l l' : Ledger) → is_snapshot e.request ≡ false → l'.settings ≡ l.settings → l'.next ≡ l.next
      → l'.seen ≡ l.seen → Seeing done l → Seeing (done ++ (e ∷ [])) l'
  passes done e l l' q same next seen s = record {
    settings = same ∙ s.settings;
    next = next ∙ (s.next ∙ ap (λ (x : ℕ). x % vaults) (omega (arith, visits_append done (e ∷ []), no_visit e q)));
    seen = λ k. (
      λ t.
          let x = (s.seen k).0 (ap (λ (j : JobSet). job_has j k) (sym seen) ∙ t) in
          longer done e k x (omega (arith, x.this_round, visits_append x.later (e ∷ []), no_visit e q)),
      λ x.
          ⊎_elim
          (λ (c : CutLast done e x.before x.visit x.later).
          absurd (true≢false (sym (ap is_snapshot x.visits_here) ∙ (ap (λ (y : Event). is_snapshot y.request) c.last ∙ q))))
          (λ (c : CutBefore done e x.before x.visit x.later).
          ap (λ (j : JobSet). job_has j k) seen ∙ (s.seen k).1 (shorter done e k x c))
          (cut done e x.before x.visit x.later x.split),
    );
  }

  -- a visit
  module _ (done : List Event) (e : Event) (q : e.request ≡ snapshot) (l : Ledger) (here : (after_all w₀ done).ledger ≡ l) (some : 0 < vaults)
      (s : Seeing done l) where
    -- how many there have been when an earlier one was of this round
    earlier : (k : ℕ) (x : SeenAlong w₀ done k) → visits done ≡ visits x.before + (visits x.later + 1)
    earlier k x =
        omega (arith, ap visits x.split ∙ (visits_append x.before (x.visit ∷ x.later)), one_visit x.visit x.later x.visits_here)

    one_more : (later : List Event) → visits (later ++ (e ∷ [])) ≡ visits later + 1
    one_more later = omega (arith, visits_append later (e ∷ []), one_visit e [] q)

    adds : (k : ℕ) → job_has (seen_next l) k ≡ true → SeenAlong w₀ (done ++ (e ∷ [])) k
    adds k t =
        ⊎_elim
        (λ a.
        let x = (s.seen k).0 a.1 in
        let more = same_round vaults some (visits x.before) (visits x.later) x.this_round
        (subst (λ (i : ℕ). 0 < i % vaults) (earlier k x) (subst (λ (i : ℕ). 0 < i) s.next a.0)) in
        longer done e k x (omega (arith, more, one_more x.later)))
        (λ a. record {
          before = done;
          visit = e;
          later = [];
          split = refl;
          visits_here = q;
          this_round = omega (arith, mod-lt (visits done) some);
          held = subst (λ (m : Ledger). HeldBy m k (visits done % vaults)) (sym here)
              (subst (λ (v : ℕ). HeldBy l k v) s.next
              (record {
                correct = record {
                  below = omega (arith, mod-lt (visits done) some, s.next, ap (λ (y : Settings). y.n) s.settings);
                  sound = a.0;
                };
                held = a.1;
              }));
        })
        (sees_only l.settings l.next l.seen _ k t)

    shows : (k : ℕ) → SeenAlong w₀ (done ++ (e ∷ [])) k → job_has (seen_next l) k ≡ true
    unfolding shorter
    shows k x =
        ⊎_elim
        (λ (c : CutLast done e x.before x.visit x.later).
        let h : HeldBy l k l.next =
        subst (λ (v : ℕ). HeldBy l k v) (ap (λ (es : List Event). visits es % vaults) c.before ∙ sym s.next)
        (subst (λ (m : Ledger). HeldBy m k (visits x.before % vaults)) (ap (λ (es : List Event). (after_all w₀ es).ledger) c.before ∙ here) x.held) in
        sees_held l.settings l.next l.seen _ k h.correct.sound h.held)
        (λ (c : CutBefore done e x.before x.visit x.later).
        let y = shorter done e k x c in
        let m : visits x.later ≡ visits c.fewer + 1 = ap visits c.more ∙ one_more c.fewer in
        let turn : visits done % vaults ≡ visits x.before % vaults + (visits c.fewer + 1) =
        ap (λ (i : ℕ). i % vaults) (earlier k y) ∙ further vaults some (visits x.before) (visits c.fewer + 1) (omega (arith, x.this_round, m)) in
        sees_still l.settings l.next l.seen _ k (omega (arith, s.next, turn)) ((s.seen k).1 y))
        (cut done e x.before x.visit x.later x.split)

    visit : Seeing (done ++ (e ∷ [])) (visited l (seen_next l))
    unfolding visited
    visit = record {
      settings = s.settings;
      next =
          ap₂ following (ap (λ (y : Settings). y.n) s.settings) s.next
          ∙ (next_turn vaults some (visits done) ∙ ap (λ (i : ℕ). i % vaults) (sym (one_more done)));
      seen = λ k. (adds k, shows k);
    }

  module _ (some : 0 < vaults) where
    -- one step
    steps : (done : List Event) (e : Event) (w : World) (r : Register) → Inv w r → after_all w₀ done ≡ w → Seeing done w.ledger
        → Seeing (done ++ (e ∷ [])) (after w e).ledger
    steps done e w r i here s =
        by_test (is_snapshot e.request)
        (λ t.
        subst (Seeing (done ++ (e ∷ []))) (sym (made w i.shape e t))
        (visit done e (is_snapshot_lem e.request t) w.ledger (ap (λ (x : World). x.ledger) here) some s))
        (λ f.
        let u = left w i.shape e f in
        passes done e w.ledger (after w e).ledger f
        (same_settings w e.request (is_done (reply_to w e).outcome) (after w e) (changes w i.shape e)) u.next u.seen s)

    -- and any number of them
    through : (done es : List Event) (w : World) (r : Register) → Inv w r → after_all w₀ done ≡ w → Seeing done w.ledger
        → Seeing (done ++ es) (after_all w es).ledger
    through done [] w r i here s = subst (λ (l : List Event). Seeing l w.ledger) (sym (append-nil done)) s
    through done (e ∷ es) w r i here s =
        subst (λ (l : List Event). Seeing l (after_all (after w e) es).ledger) (append_assoc done (e ∷ []) es)
        (through (done ++ (e ∷ [])) es (after w e) _ (kept w r i e) (after_append done (e ∷ []) w₀ ∙ ap (λ (x : World). after x e) here)
        (steps done e w r i here s))

-- at first nothing has been seen
nothing_seen : (n b faulty version : ℕ) → Seeing (start n b faulty version) [] (start n b faulty version).ledger
unfolding start new_ledger
nothing_seen n b faulty version = record {
  settings = refl;
  next = sym (zero-mod n);
  seen = λ k. (λ t. absurd (true≢false (sym t ∙ has_no_jobs k)), λ x. absurd (empty_uncut x.before x.later x.visit x.split));
}

pub every_visit : EveryVisit
every_visit n b faulty version lawful es e q =
    let w₀ = start n b faulty version in
    let i₀ = first n b faulty version lawful in
    let w = after_all w₀ es in
    let i = along es w₀ (new_register version) i₀ in
    let size : w₀.ledger.settings.n ≡ n = ap (λ (s : Settings). s.n) (settings_first n b faulty version) in
    let some : 0 < w₀.ledger.settings.n = omega (arith, size, lawful.few) in
    let s = through w₀ some [] es w₀ (new_register version) i₀ refl (nothing_seen n b faulty version) in (
      job_count (seen_next w.ledger),
      answered w i.shape e q,
      count_lists (seen_next w.ledger) (seen_words (fits_along es w₀ (new_register version) i₀ (fits_first n b faulty version)))
          (SeenAlong w₀ (es ++ (e ∷ []))) (λ k. (adds w₀ es e q w.ledger refl some s k, shows w₀ es e q w.ledger refl some s k)),
    )
