-- What a release takes away, and what it leaves. A job that a correct vault signed and no longer has among those that it signed has lost there, by the
-- invariant; the rival stays held, so no preflight signs the job again.
use mathlib.Core.Bool.{Bool, false, true, true≢false}
use mathlib.Core.List.{List, [], ◌∷◌}
use mathlib.Core.Logic.{◌⊎◌, inl, inr, ⊎_elim}
use mathlib.Core.Path.{◌∙◌, ◌≡◌, ap, refl, subst, sym}
use Prim.Native.Nat.{◌<◌, ℕ}
use native.Mathlib.Omega.{arith}
use Rattle.base.proofs.Members.{map_in}
use Rattle.base.proofs.Reflect.{by_cases, not_true_false}
use Rattle.conflicts.proofs.Meaning.{reflect_conflicting}
use Rattle.conflicts.specs.Conflicts.{conflicting}
use Rattle.conflicts.specs.Tapes.{input_tapes}
use Rattle.federation.specs.Federation.{Lawful}
use Rattle.federation.specs.declared.Settings.{Settings}
use Rattle.outcome.specs.Figures.{Outcome, Verdict}
use Rattle.std.specs.Prelude.{Ok, Err}
use Rattle.record.specs.declared.Entry.{Entry}
use Rattle.job_sets.specs.Jobs.{job_has, job_without}
use Rattle.ledger.proofs.Changes.{Change, appends, changes, counts, grants, holds, idle, nothing, released_by, releases, sees, signs, votes}
use Rattle.ledger.proofs.Demand2.{demand2}
use Rattle.ledger.proofs.Demand3.{along, first, kept, same_settings, settings_along}
use Rattle.ledger.proofs.Effects.{hold_signed, release_held, release_signed, sign_signed}
use Rattle.ledger.proofs.Gates.{done_gate, entered}
use Rattle.ledger.proofs.Growth.{grow, grows}
use Rattle.ledger.proofs.Invariant.{Inv, clear}
use Rattle.ledger.proofs.Obeys.{obeys}
use Rattle.ledger.proofs.Rivals.{apart_peaceful, listed, rival_sym}
use Rattle.ledger.proofs.Safety.{Clear}
use Rattle.ledger.proofs.Views.{held_at, recorded_at, signed_at, voted_at}
use Rattle.ledger.specs.Decisions.{gated, releasing, supersession}
use Rattle.ledger.specs.Demand2.{accepts}
use Rattle.ledger.specs.Demand3.{Correct, booked_job}
use Rattle.ledger.specs.Graph.{Algorithm1}
use Rattle.ledger.specs.Growth.{AfterRelease, Grows, OnlySigned, ReleaseTakes, Released, ReleasedForGood, SignedStays}
use Rattle.ledger.specs.Register.{Register, feed, feed_all, is_done, log, new_register, tabled}
use Rattle.ledger.specs.State.{applied, booking, counted, new_ledger, vault_at, version_of, visited, voted, with_vault}
use Rattle.ledger.specs.Steps.{carried, preflight_decision, release_decision, release_of, vault_gate}
use Rattle.ledger.specs.Worlds.{Event, Request, World, after, after_all, lend, preflight, release, reply_to, start}
use Rattle.ledger.specs.declared.Decision.{Decision}
use Rattle.ledger.specs.declared.Ledger.{Ledger}

-- ---- what was signed and is not
released_now : {w : World} {r : Register} → Inv w r → (v k : ℕ) → Correct w.ledger.settings v → recorded_at w.ledger v k ≡ true
    → signed_at w.ledger v k ≡ false → Released w v k
unfolding held_at signed_at voted_at
released_now i v k c t n =
    let s = i.safe.released v k c t n in
    record {
      recorded = t;
      unsigned = n;
      rival = s.rival;
      other = s.is.other;
      conflicts = subst (λ (table : List (List ℕ)). conflicting (tabled table s.rival) (tabled table k) ≡ true) i.table s.is.conflicts;
      held = s.holds;
      never = s.unsigned;
    }

-- ---- no step signs it again
module _ (w : World) (r : Register) (i : Inv w r) (v k : ℕ) (c : Correct w.ledger.settings v) (t : recorded_at w.ledger v k ≡ true)
    (n : signed_at w.ledger v k ≡ false) where
  -- a job that checks 11 to 14 let pass is not this one: its rival is held here
  abbrev At : ℕ → ℕ → Type 0
  At u j = Clear (tabled r.table) (held_at w.ledger) (signed_at w.ledger) u j

  refused_clear : (u j : ℕ) → v ≡ u → k ≡ j → At u j → ⊥
  refused_clear u j ev ek cl =
      let here : At v k = subst (λ (x : ℕ). At x k) (sym ev) (subst (λ (y : ℕ). At u y) (sym ek) cl) in
      let s = i.safe.released v k c t n in
      apart_peaceful (here.unrivalled s.rival s.holds) (rival_sym s.is).conflicts

  unsigned_still : (q : Request) (done : Bool) (w' : World) → Change w q done w' → signed_at w'.ledger v k ≡ false
  unfolding booking counted visited voted signed_at
  unsigned_still q done w' (nothing p) = n
  unsigned_still q done w' (idle p m) = n
  unsigned_still q done w' (appends bytes e h m) = n
  unsigned_still q done w' (signs u j d h b) =
      not_true_false _ (λ x. ⊎_elim (λ o. true≢false (sym o ∙ n)) (λ e. refused_clear u j e.0 e.1 (clear i u j b))
      ((sign_signed w.ledger u j (omega (arith, d.below, i.shape.vaults, i.shape.lawful.vaults)) (omega (arith, i.shape.room))).cases v k x))
  unsigned_still q done w' (votes d u j h f b) = n
  unsigned_still q done w' (holds u j signers d h e) = ap (λ (f : ℕ → ℕ → Bool). f v k) (hold_signed w.ledger u j) ∙ n
  unsigned_still q done w' sees = n
  unsigned_still q done w' (counts u j client d h) = n
  unsigned_still q done w' (grants u j client p d h b) =
      not_true_false _ (λ x. ⊎_elim (λ o. true≢false (sym o ∙ n)) (λ e. refused_clear u j e.0 e.1 (clear i u j b))
      ((sign_signed w.ledger u j (omega (arith, d.below, i.shape.vaults, i.shape.lawful.vaults)) (omega (arith, i.shape.room))).cases v k x))
  unsigned_still q done w' (releases u j m d s h e) = not_true_false _ (λ x. true≢false (sym ((release_signed w.ledger u j).old v k x) ∙ n))

-- ---- along a list of steps
recorded_still : (a z : World) (v k : ℕ) → Grows a z → recorded_at a.ledger v k ≡ true → recorded_at z.ledger v k ≡ true
unfolding voted_at
recorded_still a z v k g = g.signatures v k

unsigned_along : (fs : List Event) (w : World) (r : Register) → Inv w r → (v k : ℕ) → Correct w.ledger.settings v → recorded_at w.ledger v k ≡ true
    → signed_at w.ledger v k ≡ false → signed_at (after_all w fs).ledger v k ≡ false
unsigned_along [] w r i v k c t n = n
unsigned_along (e ∷ fs) w r i v k c t n =
    let q = e.request in
    let done = is_done (reply_to w e).outcome in
    let change = changes w i.shape e in
    unsigned_along fs (after w e) (feed r q done) (kept w r i e) v k
    (subst (λ (s : Settings). Correct s v) (sym (same_settings w q done (after w e) change)) c)
    (recorded_still w (after w e) v k (grow w i.shape q done (after w e) change) t)
    (unsigned_still w r i v k c t n q done (after w e) change)

-- the settings are those at the start
pub correct_along : (n b faulty version : ℕ) (lawful : Lawful (record { n = n; b = b; faulty = faulty; version = version })) (es : List Event) (v : ℕ)
    → Correct (record { n = n; b = b; faulty = faulty; version = version }) v → Correct (after_all (start n b faulty version) es).ledger.settings v
unfolding start new_ledger
correct_along n b faulty version lawful es v c =
    subst (λ (s : Settings). Correct s v) (sym (settings_along es (start n b faulty version) (new_register version) (first n b faulty version lawful))) c

-- ---- what a correct vault has signed stays so, or lost there
pub signed_stays : SignedStays
unfolding signed_at voted_at
signed_stays n b faulty version lawful es fs v k c s =
    let w = after_all (start n b faulty version) es in
    let r = feed_all (new_register version) (log (start n b faulty version) es) in
    let i = along es (start n b faulty version) (new_register version) (first n b faulty version lawful) in
    let z = after_all w fs in
    let j = along fs w r i in
    by_cases (λ x. (x ≡ true) ⊎ Released z v k) (job_has (vault_at z.ledger v).signed k) (λ e. inl refl)
    (λ e. inr (released_now j v k
    (subst (λ (st : Settings). Correct st v) (sym (settings_along fs w r i)) (correct_along n b faulty version lawful es v c))
    ((grows fs w r i).signatures v k (i.safe.backed v k s)) e))

-- ---- a preflight of a released job is turned back

-- Algorithm 1 does not accept a job with a rival that is held
rival_held : (w : World) (v k m : ℕ) → conflicting (booked_job w m) (booked_job w k) ≡ true → m < w.ledger.booked
    → job_has (vault_at w.ledger v).held m ≡ true
    → Algorithm1 (booked_job w) w.ledger.booked (vault_at w.ledger v).held (job_without (vault_at w.ledger v).signed k) (booked_job w k) → ⊥
rival_held w v k m e b h a =
    let job = booked_job w in
    ⊎_elim
    (λ s.
    let t = map_in (λ (t : Entry). t.label) (input_tapes (job k)) s.0 (listed (job k) 0 s.0 s.1.1) in
    (a.admissible.frontier t.0 t.1).unconsumed (record { which = m; below = b; member = h; lists = rw t.2 at (listed (job m) 0 s.0 s.1.0) }))
    (λ s. a.admissible.fresh s.0 (listed (job k) 4 s.0 s.1.1)
    (record { which = m; below = b; member = h; lists = listed (job m) 4 s.0 s.1.0 }))
    ((reflect_conflicting (job m) (job k)).sound e)

turned_back_lem : (w : World) (r : Register) → Inv w r → (v k : ℕ) → Correct w.ledger.settings v → Released w v k → (size : ℕ) (beyond : List ℕ)
    → accepts w size beyond (preflight v k) ≡ false
unfolding preflight_decision held_at
turned_back_lem w r i v k c x size beyond =
    not_true_false _ (λ e.
    let h = entered w.ledger (lend w.booked size beyond) v k false (done_gate (vault_gate w.ledger (lend w.booked size beyond) v k false) _ e) in
    ⊎_elim (λ s. true≢false (sym s ∙ x.unsigned))
    (rival_held w v k x.rival x.conflicts (i.safe.booked_held v x.rival x.held) x.held)
    ((obeys i size beyond v k (record { correct = c; booked = h.known.below; whole = h.known.inside })).signs.sound e))

pub released_for_good : ReleasedForGood
unfolding signed_at voted_at
released_for_good n b faulty version lawful es fs v k c x =
    let w = after_all (start n b faulty version) es in
    let r = feed_all (new_register version) (log (start n b faulty version) es) in
    let i = along es (start n b faulty version) (new_register version) (first n b faulty version lawful) in
    let z = after_all w fs in
    let d = correct_along n b faulty version lawful es v c in
    let d' : Correct z.ledger.settings v = subst (λ (st : Settings). Correct st v) (sym (settings_along fs w r i)) d in
    let j = along fs w r i in
    let still = released_now j v k d' ((grows fs w r i).signatures v k x.recorded) (unsigned_along fs w r i v k d x.recorded x.unsigned) in
    (still, turned_back_lem z (feed_all r (log w fs)) j v k d' still)

-- ---- a release that is answered 0: the job is unsigned there, and its signature is recorded as it was
done_value : (o : Outcome) → is_done o ≡ true → (value : ℕ) × (o ≡ Ok value)
done_value (Ok value) e = (value, refl)
done_value (Err why) e = absurd (true≢false (sym e))

pub after_release : AfterRelease
unfolding release_decision signed_at voted_at
after_release n b faulty version lawful es size beyond v k rival done =
    let w = after_all (start n b faulty version) es in
    let r = feed_all (new_register version) (log (start n b faulty version) es) in
    let i = along es (start n b faulty version) (new_register version) (first n b faulty version lawful) in
    let e : Event = record { request = release v k rival; size = size; beyond = beyond } in
    let h = entered w.ledger (lend w.booked size beyond) v k false (done_gate (vault_gate w.ledger (lend w.booked size beyond) v k false) _ done) in
    let o = done_value (reply_to w e).outcome done in
    let left = (demand2 n b faulty version lawful es).leaves e o.0 o.1 in
    let change = changes w i.shape e in
    released_now (kept w r i e) v k
    (subst (λ (s : Settings). Correct s v) (sym (same_settings w e.request (is_done (reply_to w e).outcome) (after w e) change))
    (record { below = h.vault; sound = h.role }))
    ((grow w i.shape e.request (is_done (reply_to w e).outcome) (after w e) change).signatures v k (i.safe.backed v k left.was))
    left.unsigned.gone

-- ---- a release takes one job from one signed set, and nothing else
module _ (l : Ledger) (v k : ℕ) where
  only_same : OnlySigned l l v k
  only_same = record {
    settings = refl;
    booked = refl;
    votes = refl;
    order = refl;
    arrivals = refl;
    next = refl;
    seen = refl;
    histories = refl;
    held = λ u m. refl;
    signed = λ u m t. inl t;
    no_more = λ u m t. t;
  }

  only_released : OnlySigned l (released_by l v k) v k
  unfolding with_vault held_at signed_at
  only_released = record {
    settings = refl;
    booked = refl;
    votes = refl;
    order = refl;
    arrivals = refl;
    next = refl;
    seen = refl;
    histories = refl;
    held = λ u m. ap (λ (f : ℕ → ℕ → Bool). f u m) (release_held l v k);
    signed = (release_signed l v k).cases;
    no_more = (release_signed l v k).old;
  }

  only_behind : (g : Verdict) (d : Decision) → OnlySigned l (carried l d v k).ledger v k → OnlySigned l (carried l (gated g d) v k).ledger v k
  unfolding applied
  only_behind (Ok _) d h = h
  only_behind (Err why) d h = only_same

pub release_takes : ReleaseTakes
unfolding release_of release_decision releasing applied
release_takes l journal v k rival =
    only_behind l v k (vault_gate l journal v k false) _
    (only_behind l v k (supersession (vault_at l v) (version_of l) journal l.booked k rival) _ (only_released l v k))
