-- A round of the snapshot. After i visits the jobs seen include what the first i vaults held when it began, since what is held stays held, and each of them is
-- held by a correct vault, since it was when it was seen.
use mathlib.Core.Bool.{cond, false, true}
use mathlib.Core.List.{List, [], ◌∷◌}
use mathlib.Core.Logic.{⊎_elim}
use mathlib.Core.Path.{◌∙◌, ◌≡◌, ap, refl, subst, sym}
use Prim.Native.Nat.{◌+◌, ◌<◌, ◌≤◌, suc, ℕ}
use native.Mathlib.Nat.{le_refl}
use native.Mathlib.Omega.{arith}
use lib.Dec.{ltb}
use borrow.Author.Tests.{ltb-false, ltb-true}
use Rattle.base.proofs.Reflect.{by_cases}
use Rattle.std.specs.Prelude.{Ok}
use Rattle.sets.specs.Bits.{has_bit}
use Rattle.job_sets.specs.Jobs.{job_count, job_has}
use Rattle.job_sets.specs.declared.job_set.JobSet.{JobSet}
use Rattle.snapshot.proofs.Visits.{begins_anew, goes_on, sees_held, sees_only, sees_still}
use Rattle.federation.specs.declared.Settings.{Settings}
use Rattle.ledger.proofs.Changes.{changes, seen_next}
use Rattle.ledger.proofs.Demand3.{along, first, kept, same_settings, settings_along, settings_first}
use Rattle.ledger.proofs.EveryVisit.{answered}
use Rattle.ledger.proofs.Growth.{grow}
use Rattle.ledger.proofs.Invariant.{Inv, Keeps, still}
use Rattle.ledger.proofs.Snapshots.{Untouched, after_append, left, made}
use Rattle.ledger.proofs.Views.{held_at}
use Rattle.ledger.specs.Demand3.{Held, HeldBy}
use Rattle.ledger.specs.Register.{Register, is_done, new_register}
use Rattle.ledger.specs.Rounds.{Rounds, is_snapshot, visits}
use Rattle.ledger.specs.State.{vault_at, visited}
use Rattle.ledger.specs.Worlds.{Event, World, after, after_all, reply_to, snapshot, start}
use Rattle.ledger.specs.declared.Ledger.{Ledger}

-- ---- the round
module _ (n : ℕ) (l₀ : Ledger) (count : l₀.settings.n ≡ n) where
  record Midway (i : ℕ) (l : Ledger) : Type 0 where
    turn : i < n → l.next ≡ i
    over : n ≤ i → l.next ≡ 0
    included : (v k : ℕ) → v < i → HeldBy l₀ k v → job_has l.seen k ≡ true
    genuine : 0 < i → (k : ℕ) → job_has l.seen k ≡ true → Held l k

  -- what has been since the round began: the settings are the same, and what was held is held
  record Since (l : Ledger) : Type 0 where
    settings : l.settings ≡ l₀.settings
    keeps : Keeps l₀ l

  passes : (i : ℕ) (l l' : Ledger) → Midway i l → Untouched l l' → ((k : ℕ) → Held l k → Held l' k) → Midway i l'
  passes i l l' m u h = record {
    turn = λ b. u.next ∙ m.turn b;
    over = λ b. u.next ∙ m.over b;
    included = λ v k b x. ap (λ (s : JobSet). job_has s k) u.seen ∙ m.included v k b x;
    genuine = λ p k t. h k (m.genuine p k (ap (λ (s : JobSet). job_has s k) (sym u.seen) ∙ t));
  }

  module _ (i : ℕ) (l : Ledger) (b : i < n) (m : Midway i l) (s : Since l) where
    here : l.next ≡ i
    here = m.turn b

    vaults : l.settings.n ≡ n
    vaults = ap (λ (x : Settings). x.n) s.settings ∙ count

    -- the vault whose turn it is shows what it held when the round began
    shown : (v k : ℕ) → v ≡ i → HeldBy l₀ k v → job_has (seen_next l) k ≡ true
    unfolding held_at
    shown v k q x =
        let e : v ≡ l.next = q ∙ sym here in
        sees_held l.settings l.next l.seen _ k
        (subst (λ (u : ℕ). has_bit l.settings.faulty u ≡ false) e (ap (λ (y : Settings). has_bit y.faulty v) s.settings ∙ x.correct.sound))
        (subst (λ (u : ℕ). job_has (vault_at l u).held k ≡ true) e (s.keeps v k x.held))

    visit : Midway (suc i) (visited l (seen_next l))
    unfolding visited held_at
    visit = record {
      turn = λ h. goes_on l.settings.n l.next (omega (arith, vaults, here, h)) ∙ omega (arith, here);
      over = λ h. begins_anew l.settings.n l.next (omega (arith, vaults, here, h));
      included = λ v k h x.
          by_cases (λ _. job_has (seen_next l) k ≡ true) (ltb v i)
          (λ t. let e : v < i = ltb-true v i t in sees_still l.settings l.next l.seen _ k (omega (arith, here)) (m.included v k e x))
          (λ f. let e : i ≤ v = ltb-false v i f in shown v k (omega arith) x);
      genuine = λ p k t.
          ⊎_elim
          (λ a. still l (visited l (seen_next l)) refl (λ u m y. y) k (m.genuine (omega (arith, here, a.0)) k a.1))
          (λ a. record { vault = l.next; by = record { correct = record { below = omega (arith, here, vaults); sound = a.0 }; held = a.1 } })
          (sees_only l.settings l.next l.seen _ k t);
    }

  since : (w : World) (r : Register) → Inv w r → (e : Event) → Since w.ledger → Since (after w e).ledger
  unfolding held_at
  since w r i e s =
      let c = changes w i.shape e in record {
        settings = same_settings w e.request (is_done (reply_to w e).outcome) (after w e) c ∙ s.settings;
        keeps = λ v k t. (grow w i.shape e.request (is_done (reply_to w e).outcome) (after w e) c).held v k (s.keeps v k t);
      }

  still_held : (w : World) (r : Register) → Inv w r → (e : Event) → (k : ℕ) → Held w.ledger k → Held (after w e).ledger k
  unfolding held_at
  still_held w r i e =
      let c = changes w i.shape e in
      still w.ledger (after w e).ledger (same_settings w e.request (is_done (reply_to w e).outcome) (after w e) c)
      (grow w i.shape e.request (is_done (reply_to w e).outcome) (after w e) c).held

  through : (es : List Event) (w : World) (r : Register) → Inv w r → Since w.ledger
      → (i : ℕ) → Midway i w.ledger → i + visits es ≡ n → Midway n (after_all w es).ledger
  through [] w r inv s i m c = subst (λ (x : ℕ). Midway x w.ledger) (omega (arith, c)) m
  through (e ∷ es) w r inv s i m c =
      let inv' = kept w r inv e in
      let s' = since w r inv e s in
      by_cases (λ b. is_snapshot e.request ≡ b → i + cond b (suc (visits es)) (visits es) ≡ n → Midway n (after_all (after w e) es).ledger)
      (is_snapshot e.request)
      (λ _ q c.
      let next = visit i w.ledger (omega (arith, c)) m s in
      through es (after w e) _ inv' s' (suc i) (subst (Midway (suc i)) (sym (made w inv.shape e q)) next) (omega (arith, c)))
      (λ _ q c.
      let next = passes i w.ledger (after w e).ledger m (left w inv.shape e q) (still_held w r inv e) in
      through es (after w e) _ inv' s' i next c)
      refl c

-- at the end of a round, of the world in which it began
ended : (n : ℕ) (w : World) (r : Register) → Inv w r → (size : w.ledger.settings.n ≡ n) → w.ledger.next ≡ 0 → (rs : List Event) → visits rs ≡ n
    → Midway n w.ledger size n (after_all w rs).ledger
ended n w r i size z rs c =
    through n w.ledger size rs w r i (record { settings = refl; keeps = λ v k t. t }) 0
    (record { turn = λ _. z; over = λ _. z; included = λ v k h. absurd (omega (arith, h)); genuine = λ h. absurd (omega (arith, h)) })
    (omega (arith, c))

-- the last visit's answer
closing : (w : World) (r : Register) → Inv w r → (e : Event) → e.request ≡ snapshot → (reply_to w e).outcome ≡ Ok (job_count (after w e).ledger.seen)
unfolding visited
closing w r i e q =
    answered w i.shape e q
    ∙ ap (λ (l : Ledger). Ok (job_count l.seen)) (sym (made w i.shape e (ap is_snapshot q)))

pub rounds : Rounds
rounds n b faulty version lawful es z rs round =
    let w₀ = start n b faulty version in
    let i₀ = first n b faulty version lawful in
    let w = after_all w₀ es in
    let i = along es w₀ (new_register version) i₀ in
    let size : w.ledger.settings.n ≡ n = ap (λ (x : Settings). x.n) (settings_along es w₀ (new_register version) i₀ ∙ settings_first n b faulty version) in
    let m = ended n w _ i size z rs round.count in
    let whole : after_all w rs ≡ after (after_all w round.before) round.last =
    ap (after_all w) round.split ∙ after_append round.before (round.last ∷ []) w in
    record {
      included = λ k h. m.included h.vault k (omega (arith, h.by.correct.below, size)) h.by;
      genuine = m.genuine (omega (arith, lawful.few));
      value =
          closing (after_all w round.before) _ (along round.before w _ i) round.last round.closes
          ∙ ap (λ (x : World). Ok (job_count x.ledger.seen)) (sym whole);
      anew = m.over (le_refl n);
    }
