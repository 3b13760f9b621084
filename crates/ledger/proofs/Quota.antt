-- The quota of a client at a vault, along any list of steps. The history that the ledger keeps is the newest fifteen of the client's counted requests there,
-- since a counted request enters it and no other step touches it; so the test of the history is the count of those that brought a new signature.
use mathlib.Core.Bool.{Bool, ◌&&◌, ◌||◌, cond, false, not, true, true≢false}
use mathlib.Core.List.{List, [], ◌∷◌}
use mathlib.Core.Logic.{◌⊎◌, ◌≢◌, inl, inr, ⊎_elim}
use mathlib.Core.Path.{◌∙◌, ◌≡◌, ap, ap₂, refl, subst, sym}
use Prim.Native.Nat.{◌<◌, ℕ}
use native.Mathlib.Decide.{ℕ_discrete}
use native.Mathlib.Omega.{arith}
use lib.Dec.{eqb}
use lib.ListN.{get_or, set}
use lib.Seq.{get_or-set_other, get_or-set_same}
use borrow.Author.Tests.{eq-eqb, eqb-true, ltb-true, ne_eqb}
use Rattle.base.proofs.Reflect.{and_true, by_cases, not_true_false}
use Rattle.outcome.specs.Figures.{number_of, Outcome, Verdict}
use Rattle.std.specs.Prelude.{Ok, Err}
use Rattle.outcome.specs.declared.Refusal.TheVariants.{NoClient, OverQuota}
use Rattle.quota.proofs.Windows.{Ruled, bits, patience, recovers, remembers, spent_is, window}
use Rattle.quota.specs.Asks.{Ask, spends}
use Rattle.quota.specs.Quota.{history_place, is_client, is_spent, remembered}
use Rattle.job_sets.specs.Jobs.{job_has}
use Rattle.ledger.proofs.Changes.{Shape, shape_sane}
use Rattle.ledger.proofs.Counted.{Says, admission_says, gate_says}
use Rattle.ledger.proofs.Demand3.{along, filled, first, kept}
use Rattle.ledger.proofs.Effects.{sign_signed}
use Rattle.ledger.proofs.Gates.{done_gate, entered}
use Rattle.ledger.proofs.Invariant.{Inv}
use Rattle.ledger.proofs.NoQuota.{same_histories}
use Rattle.ledger.proofs.Views.{signed_at}
use Rattle.ledger.specs.Decisions.{
  admission_at,
  client_preflighting,
  consent,
  consenting,
  counted_consent,
  counting,
  gated,
  preflighting,
  refusing,
  within_quota,
}
use Rattle.ledger.specs.Meaning.{Entered, Sane}
use Rattle.ledger.specs.Quota.{Quota, as_preflight, ask_of, asked, asks, counts, is_client_preflight, is_over, signed_in}
use Rattle.ledger.specs.Refused.{is_counted}
use Rattle.ledger.specs.Register.{Register, is_done, new_register}
use Rattle.ledger.specs.State.{applied, counted, history_at, new_ledger, signers_of, vault_at, version_of, voted, with_vault}
use Rattle.ledger.specs.Steps.{carried, client_preflight_decision, preflight_decision, vault_gate}
use Rattle.ledger.specs.Worlds.{
  Event,
  Request,
  World,
  after,
  after_all,
  client_preflight,
  commit,
  dependencies,
  equivocating,
  faulty_vote,
  generations,
  lent,
  preflight,
  propose,
  release,
  reply_to,
  show,
  snapshot,
  start,
  step_of,
}
use Rattle.ledger.specs.declared.Decision.{Decision}
use Rattle.ledger.specs.declared.Ledger.{Ledger}
use Rattle.ledger.specs.declared.Reply.{Reply}
use Rattle.vaults.specs.Vaults.{consented, vault_preflight}
use Rattle.vaults.specs.declared.Consent.TheVariants.{Already}
use Rattle.vaults.specs.declared.Signing.{Signing}

abbrev is_quota : ℕ → Bool
is_quota number = eqb number 23

abbrev signs : Ledger → ℕ → ℕ → Bool
signs l v k = job_has (vault_at l v).signed k

client_below : (c : ℕ) → is_client c ≡ true → c < 8
unfolding is_client
client_below c e = ltb-true c 8 e

-- ---- what a client's request comes to
module _ (l : Ledger) (bs : List ℕ) (sh : Shape l bs) (journal : List ℕ) (v k c : ℕ) where
  abbrev history : ℕ
  history = history_at l v c

  -- one that does not count leaves the histories
  record Turned (r : Reply) : Type 0 where
    uncounted : counts r.outcome ≡ false
    histories : r.ledger.histories ≡ l.histories

  -- one that counts, by what is seen of it
  record Entry (a : Ask) (r : Reply) : Type 0 where
    vault : v < 16
    client : c < 8
    counted : counts r.outcome ≡ true
    over : is_over r.outcome ≡ a.over
    fresh : (not (signs l v k) && signs r.ledger v k) ≡ a.fresh
    histories : r.ledger.histories ≡ set l.histories (history_place v c) (remembered history a.fresh)
    new : a.fresh ≡ true → is_spent history ≡ false
    decides : a.over ≡ (not (signs l v k) && is_spent history)

  abbrev Comes : Reply → Type 0
  Comes r = Turned r ⊎ ((a : Ask) × Entry a r)

  enters : Entered l journal v k false → c < 8 → (signed : Bool) → signs l v k ≡ signed → (spent : Bool) → is_spent history ≡ spent
      → (d : Verdict) → Says is_counted true d → Says is_quota false d
      → let answer : Signing = cond signed (record { consent = Already; vault = vault_at l v }) (consented (cond spent (Err OverQuota) d) (vault_at l v) k) in
      (a : Ask) × Entry a (carried l (counting answer.consent answer.vault c history (signers_of l k) v) v k)
  unfolding applied counted voted with_vault signed_at
  enters h hc true s spent t d i j = (
    record { fresh = false; over = false },
    record {
      vault = omega (arith, h.vault, sh.lawful.vaults);
      client = hc;
      counted = refl;
      over = refl;
      fresh = rw s refl;
      histories = refl;
      new = λ e. absurd (true≢false (sym e));
      decides = rw s refl;
    },
  )
  enters h hc false s true t d i j = (
    record { fresh = false; over = true },
    record {
      vault = omega (arith, h.vault, sh.lawful.vaults);
      client = hc;
      counted = refl;
      over = refl;
      fresh = rw s refl;
      histories = refl;
      new = λ e. absurd (true≢false (sym e));
      decides = rw (s, t) refl;
    },
  )
  enters h hc false s false t (Err why) i j = (
    record { fresh = false; over = false },
    record {
      vault = omega (arith, h.vault, sh.lawful.vaults);
      client = hc;
      counted = i;
      over = j;
      fresh = rw s refl;
      histories = refl;
      new = λ e. absurd (true≢false (sym e));
      decides = rw (s, t) refl;
    },
  )
  enters h hc false s false t (Ok _) i j = (
    record { fresh = true; over = false },
    record {
      vault = omega (arith, h.vault, sh.lawful.vaults);
      client = hc;
      counted = refl;
      over = refl;
      fresh = ap₂ (λ (x y : Bool). not x && y) s
          (sign_signed l v k (omega (arith, h.vault, sh.vaults, sh.lawful.vaults)) (omega (arith, h.known.below, sh.room))).new;
      histories = refl;
      new = λ e. t;
      decides = rw (s, t) refl;
    },
  )

  turns : (g : Verdict) → Says is_counted false g → (d : Decision) → (g ≡ Ok (tt {0}) → Comes (carried l d v k)) → Comes (carried l (gated g d) v k)
  unfolding applied
  turns (Ok _) s d h = h refl
  turns (Err why) s d h = inl (record { uncounted = s; histories = refl })

  known : (b : Bool) (d : Decision) → (b ≡ true → Comes (carried l d v k)) → Comes (carried l (cond b d (refusing NoClient)) v k)
  unfolding applied
  known true d h = h refl
  known false d h = inl (record { uncounted = refl; histories = refl })

  comes : Comes (carried l (client_preflight_decision l journal v k c) v k)
  unfolding client_preflight_decision client_preflighting counted_consent vault_preflight within_quota
  comes =
      let d = admission_at (vault_at l v) (version_of l) journal l.booked k in
      turns (vault_gate l journal v k false) (gate_says is_counted false l journal v k false refl refl refl refl) _
      (λ g. known (is_client c) (counted_consent (vault_at l v) d c history (signers_of l k) v k)
      (λ e. inr (enters (entered l journal v k false g) (client_below c e) (signs l v k) refl (is_spent history) refl d
      (admission_says is_counted true (vault_at l v) (version_of l) journal l.booked k refl refl refl refl)
      (admission_says is_quota false (vault_at l v) (version_of l) journal l.booked k refl refl refl refl))))

-- ---- along a list

-- the history is the newest fifteen, and the list is one that the quota lets come about
record Kept (v c : ℕ) (w : World) (past : List Ask) : Type 0 where
  bits : v < 16 → c < 8 → history_at w.ledger v c ≡ bits 15 past
  ruled : Ruled past

-- other clients and other vaults have other places
pub apart : (u d v c : ℕ) → u < 16 → v < 16 → d < 8 → c < 8 → (u ≢ v) ⊎ (d ≢ c) → history_place v c ≢ history_place u d
unfolding history_place
apart u d v c hu hv hd hc (inl n) e = n (omega (arith, e))
apart u d v c hu hv hd hc (inr n) e = n (omega (arith, e))

pub place_below : (v c : ℕ) → history_place v c < 128
unfolding history_place
place_below v c = omega arith

same_kept : (v c : ℕ) (w w' : World) (past : List Ask) → w'.ledger.histories ≡ w.ledger.histories → Kept v c w past → Kept v c w' past
unfolding history_at
same_kept v c w w' past e h = record {
  bits = λ hv hc. ap (λ (hs : List ℕ). get_or hs (history_place v c) 0) e ∙ h.bits hv hc;
  ruled = h.ruled;
}

module _ (v c : ℕ) (w : World) (sh : Shape w.ledger w.booked) (e : Event) (past : List Ask) (h : Kept v c w past) where
  abbrev l : Ledger
  l = w.ledger

  ledger_of : (after w e).ledger ≡ (reply_to w e).ledger
  unfolding after
  ledger_of = refl

  others : is_client_preflight e.request ≡ false → Kept v c (after w e) past
  others n = same_kept v c w (after w e) past (ap (λ (x : Ledger). x.histories) ledger_of ∙ same_histories l (lent w e) e.request n) h

  module _ (u k d : ℕ) (q : e.request ≡ client_preflight u k d) where
    abbrev reply : Reply
    reply = carried l (client_preflight_decision l (lent w e) u k d) u k

    is_reply : reply_to w e ≡ reply
    is_reply = ap (step_of l (lent w e)) q

    ledger_is : (after w e).ledger ≡ reply.ledger
    ledger_is = ledger_of ∙ ap (λ (r : Reply). r.ledger) is_reply

    -- whether it joins the list
    abbrev joins : Bool
    joins = eqb u v && (eqb d c && counts (reply_to w e).outcome)

    abbrev Joined : Bool → Type 0
    Joined b = Kept v c (after w e) (cond b (ask_of u k w e ∷ past) past)

    abbrev Entering : Ask → Type 0
    Entering a = Entry l w.booked sh (lent w e) u k d a reply

    turned_on : Turned l w.booked sh (lent w e) u k d reply → Joined joins
    turned_on t =
        let out : counts (reply_to w e).outcome ≡ false = ap (λ (r : Reply). counts r.outcome) is_reply ∙ t.uncounted in
        let same : Kept v c (after w e) past = same_kept v c w (after w e) past (ap (λ (x : Ledger). x.histories) ledger_is ∙ t.histories) h in
        by_cases (λ b. Kept v c (after w e) (cond (b && (eqb d c && counts (reply_to w e).outcome)) (ask_of u k w e ∷ past) past)) (eqb u v)
        (λ _. by_cases (λ b. Kept v c (after w e) (cond (b && counts (reply_to w e).outcome) (ask_of u k w e ∷ past) past)) (eqb d c)
        (λ _. rw out same) (λ _. same)) (λ _. same)

    module _ (a : Ask) (n : Entering a) where
      is_fresh : (ask_of u k w e).fresh ≡ a.fresh
      is_fresh = ap (λ (x : Ledger). not (signs l u k) && signs x u k) ledger_is ∙ n.fresh

      is_over_lem : (ask_of u k w e).over ≡ a.over
      is_over_lem = ap (λ (r : Reply). is_over r.outcome) is_reply ∙ n.over

      written : (after w e).ledger.histories ≡ set l.histories (history_place u d) (remembered (history_at l u d) a.fresh)
      written = ap (λ (x : Ledger). x.histories) ledger_is ∙ n.histories

      elsewhere : (u ≢ v) ⊎ (d ≢ c) → Kept v c (after w e) past
      unfolding history_at
      elsewhere o = record {
        bits = λ hv hc.
            ap (λ (hs : List ℕ). get_or hs (history_place v c) 0) written
            ∙ get_or-set_other l.histories (history_place u d) (history_place v c) _ 0 (apart u d v c n.vault hv n.client hc o) ∙ h.bits hv hc;
        ruled = h.ruled;
      }

      here : u ≡ v → d ≡ c → Kept v c (after w e) (ask_of u k w e ∷ past)
      unfolding history_at
      here x y =
          let place : history_place v c ≡ history_place u d = ap₂ history_place (sym x) (sym y) in
          let old : history_at l u d ≡ bits 15 past =
          ap₂ (history_at l) x y ∙ h.bits (subst (λ (z : ℕ). z < 16) x n.vault) (subst (λ (z : ℕ). z < 8) y n.client) in
          let spent : is_spent (history_at l u d) ≡ spends past = ap is_spent old ∙ spent_is past in
          record {
            bits = λ hv hc.
                ap₂ (λ (hs : List ℕ) (i : ℕ). get_or hs i 0) written place
                ∙ get_or-set_same l.histories (history_place u d) (remembered (history_at l u d) a.fresh) 0 (omega (arith, sh.histories, place_below u d))
                ∙ ap₂ remembered old (sym is_fresh) ∙ remembers (ask_of u k w e) past;
            ruled = (
              (λ f. sym spent ∙ n.new (sym is_fresh ∙ f)),
              (λ o.
                  let both = and_true (not (signs l u k)) (is_spent (history_at l u d)) (sym n.decides ∙ (sym is_over_lem ∙ o)) in
                  (sym spent ∙ both.1, is_fresh ∙ not_true_false a.fresh (λ f. true≢false (sym both.1 ∙ n.new f)))),
              h.ruled,
            );
          }

      joined_on : Joined joins
      joined_on = go (ℕ_discrete u v) (ℕ_discrete d c)
        where
          counts_now : counts (reply_to w e).outcome ≡ true
          counts_now = ap (λ (r : Reply). counts r.outcome) is_reply ∙ n.counted

          go : Dec (u ≡ v) → Dec (d ≡ c) → Kept v c (after w e) (cond joins (ask_of u k w e ∷ past) past)
          go (yes x) (yes y) = rw (eq-eqb u v x, eq-eqb d c y, counts_now) (here x y)
          go (yes x) (no y) = rw (eq-eqb u v x, ne_eqb d c y) (elsewhere (inr y))
          go (no x) y = rw (ne_eqb u v x) (elsewhere (inl x))

    client_on : Joined joins
    client_on = ⊎_elim turned_on (λ p. joined_on p.0 p.1) (comes l w.booked sh (lent w e) u k d)

  kept_on : Kept v c (after w e) (asks v c w e e.request past)
  kept_on = go e.request refl
    where
      go : (q : Request) → e.request ≡ q → Kept v c (after w e) (asks v c w e q past)
      go (propose bytes) q = others (ap is_client_preflight q)
      go (preflight u k) q = others (ap is_client_preflight q)
      go (commit u k signers) q = others (ap is_client_preflight q)
      go (faulty_vote column u k) q = others (ap is_client_preflight q)
      go (show k) q = others (ap is_client_preflight q)
      go (generations k) q = others (ap is_client_preflight q)
      go snapshot q = others (ap is_client_preflight q)
      go (release u k rival) q = others (ap is_client_preflight q)
      go (dependencies u k) q = others (ap is_client_preflight q)
      go equivocating q = others (ap is_client_preflight q)
      go (client_preflight u k d) q = client_on u k d q

kept_along : (v c : ℕ) (es : List Event) (w : World) (r : Register) → Inv w r → (past : List Ask) → Kept v c w past
    → Kept v c (after_all w es) (asked v c w es past)
kept_along v c [] w r i past h = h
kept_along v c (e ∷ es) w r i past h = kept_along v c es (after w e) _ (kept w r i e) (asks v c w e e.request past) (kept_on v c w i.shape e past h)

-- ---- the claim
deciding : (v c : ℕ) (w : World) → Shape w.ledger w.booked → (past : List Ask) → Kept v c w past → (e : Event) (k : ℕ)
    → e.request ≡ client_preflight v k c → counts (reply_to w e).outcome ≡ true → is_over (reply_to w e).outcome ≡ (not (signed_in w v k) && spends past)
deciding v c w sh past h e k q t =
    let is : reply_to w e ≡ carried w.ledger (client_preflight_decision w.ledger (lent w e) v k c) v k = ap (step_of w.ledger (lent w e)) q in
    ⊎_elim
    (λ u. absurd (true≢false (sym t ∙ (ap (λ (r : Reply). counts r.outcome) is ∙ u.uncounted))))
    (λ p.
    let n = p.1 in
    ap (λ (r : Reply). is_over r.outcome) is
    ∙ (n.over ∙ (n.decides ∙ ap (λ (b : Bool). not (signed_in w v k) && b) (ap is_spent (h.bits n.vault n.client) ∙ spent_is past))))
    (comes w.ledger w.booked sh (lent w e) v k c)

-- a refusal by the quota counts
over_counts : (answer : Outcome) → is_over answer ≡ true → counts answer ≡ true
over_counts answer o = rw (eqb-true (number_of answer) 23 o) refl

-- so the next request is not refused by the quota where the past does not spend it, whether that request counts or not
unspent : (v c : ℕ) (w : World) → Shape w.ledger w.booked → (past : List Ask) → Kept v c w past → spends past ≡ false
    → (e : Event) (k : ℕ) → e.request ≡ client_preflight v k c → is_over (reply_to w e).outcome ≡ false
unspent v c w sh past h n e k q =
    not_true_false (is_over (reply_to w e).outcome)
    (λ o.
    let both = and_true (not (signed_in w v k)) (spends past) (sym (deciding v c w sh past h e k q (over_counts (reply_to w e).outcome o)) ∙ o) in
    true≢false (sym both.1 ∙ n))

-- ---- a preflight, and the quota besides
module _ (l : Ledger) (journal : List ℕ) (v k c : ℕ) where
  abbrev plain : Bool
  plain = is_done (preflight_decision l journal v k).outcome

  accepted : is_done (client_preflight_decision l journal v k c).outcome ≡ (is_client c && (plain && (signs l v k || not (is_spent (history_at l v c)))))
  unfolding client_preflight_decision client_preflighting counted_consent preflight_decision preflighting consent vault_preflight within_quota
  accepted =
      go (vault_gate l journal v k false) (is_client c) (signs l v k) (is_spent (history_at l v c)) (admission_at (vault_at l v) (version_of l) journal l.booked k)
    where
      go : (g : Verdict) (known signed spent : Bool) (d : Verdict)
          → let asked : Signing = cond signed (record { consent = Already; vault = vault_at l v }) (consented (cond spent (Err OverQuota) d) (vault_at l v) k) in
          let usual : Signing = cond signed (record { consent = Already; vault = vault_at l v }) (consented d (vault_at l v) k) in
          is_done (gated g (cond known (counting asked.consent asked.vault c (history_at l v c) (signers_of l k) v) (refusing NoClient))).outcome
          ≡ (known && (is_done (gated g (consenting usual.consent usual.vault (signers_of l k) v)).outcome && (signed || not spent)))
      go (Err why) true signed spent d = refl
      go (Err why) false signed spent d = refl
      go (Ok _) false signed spent d = refl
      go (Ok _) true true spent d = refl
      go (Ok _) true false true (Ok _) = refl
      go (Ok _) true false true (Err why) = refl
      go (Ok _) true false false (Ok _) = refl
      go (Ok _) true false false (Err why) = refl

  -- a vault that signs is one of the vaults
  is_vault : Sane l → plain ≡ true → v < 16
  unfolding preflight_decision
  is_vault s e =
      let h = entered l journal v k false (done_gate (vault_gate l journal v k false) _ e) in
      omega (arith, h.vault, s.lawful.vaults)

same_behind : (a b x y : Bool) → (a ≡ true → b ≡ true → x ≡ y) → (a && (b && x)) ≡ (a && (b && y))
same_behind true true x y h = h refl refl
same_behind true false x y h = refl
same_behind false b x y h = refl

granting : (v c : ℕ) (w : World) → Shape w.ledger w.booked → (past : List Ask) → Kept v c w past → (e : Event) (k : ℕ)
    → e.request ≡ client_preflight v k c
    → is_done (reply_to w e).outcome
    ≡ (is_client c && (is_done (reply_to w (as_preflight v k e)).outcome && (signed_in w v k || not (spends past))))
granting v c w sh past h e k q =
    let l = w.ledger in
    ap (λ (x : Request). is_done (step_of l (lent w e) x).outcome) q
    ∙ (accepted l (lent w e) v k c
    ∙ same_behind (is_client c) (plain l (lent w e) v k c) _ _
    (λ known done. ap (λ (b : Bool). signed_in w v k || not b)
    (ap is_spent (h.bits (is_vault l (lent w e) v k c (shape_sane sh) done) (client_below c known)) ∙ spent_is past)))

pub quota : Quota
unfolding start new_ledger history_at
quota n b faulty version lawful es v c =
    let w₀ = start n b faulty version in
    let i₀ = first n b faulty version lawful in
    let k₀ : Kept v c w₀ [] = record { bits = λ hv hc. filled 128 (history_place v c) 0; ruled = tt } in
    let h = kept_along v c es w₀ (new_register version) i₀ [] k₀ in
    record {
      window = window _ h.ruled;
      decides = deciding v c (after_all w₀ es) (along es w₀ (new_register version) i₀).shape _ h;
      grants = granting v c (after_all w₀ es) (along es w₀ (new_register version) i₀).shape _ h;
      patience = patience _ h.ruled;
      again = λ s older whole none twelve.
          unspent v c (after_all w₀ es) (along es w₀ (new_register version) i₀).shape _ h (ap spends whole ∙ recovers s older none twelve);
    }
