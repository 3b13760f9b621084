-- "And only there": of all changes that a step can make, signing alone adds to what a correct vault has signed or to its recorded signatures, and holding
-- alone to what it holds or acknowledges. A faulty vault's vote is its own, so it is no correct vault's. Both go together, so a vault has acknowledged what
-- it holds.
use mathlib.Core.Bool.{Bool, false, true, true≢false}
use mathlib.Core.List.{List, [], ◌∷◌}
use mathlib.Core.Logic.{⊎_elim}
use mathlib.Core.Path.{◌∙◌, ◌≡◌, ap, refl, subst, sym}
use Prim.Native.Nat.{◌<◌, ℕ}
use Rattle.sets.specs.Bits.{has_bit}
use Rattle.job_sets.specs.Jobs.{job_without}
use Rattle.vaults.specs.declared.Column.TheVariants.{Acknowledgements, Signatures}
use Rattle.ledger.proofs.Changes.{Change, appends, changes, counts, grants, holds, idle, nothing, releases, sees, signs, votes}
use Rattle.ledger.proofs.Obeys.{booked_valid, obeys}
use Rattle.ledger.proofs.Changes.{held as held_here}
use Rattle.ledger.proofs.Demand3.{kept}
use Rattle.ledger.proofs.Effects.{hold_acked, hold_held, hold_recorded, hold_signed, release_held, release_signed, sign_acked, sign_held, sign_recorded}
use Rattle.ledger.proofs.Effects.{sign_signed}
use Rattle.ledger.proofs.Gates.{done_gate, entered}
use Rattle.ledger.proofs.Invariant.{Inv, in_vaults, in_votes, is_job, is_vault}
use Rattle.ledger.proofs.Paper.{admission_signs, unblocked_admission}
use Rattle.ledger.proofs.Views.{acked_at, held_at, recorded_at, signed_at, voted_added, voted_at}
use Rattle.ledger.specs.Demand2.{AsksToSign, HoldsBy, MaySign, OnlyThen, SignsBy, accepts, for_client, plainly}
use Rattle.ledger.specs.Demand3.{Correct, booked_job}
use Rattle.ledger.specs.Graph.{Unblocked}
use Rattle.ledger.specs.Register.{Register, feed, is_done}
use Rattle.ledger.specs.State.{booking, counted, vault_at, visited, voted, votes_in, with_vault}
use Rattle.ledger.specs.Steps.{commit_decision, vault_gate}
use Rattle.ledger.specs.Worlds.{Event, Request, World, after, after_all, client_preflight, commit, lend, preflight, reply_to}
use Rattle.ledger.specs.declared.Ledger.{Ledger}

-- ---- a correct vault has acknowledged what it holds
abbrev pub Acknowledges : World → Type 0
Acknowledges w = (v k : ℕ) → held_at w.ledger v k ≡ true → acked_at w.ledger v k ≡ true

module _ {w : World} {r : Register} (i : Inv w r) where
  abbrev l : Ledger
  l = w.ledger

  -- an equal relation has no new pair
  was : {f g : ℕ → ℕ → Bool} → g ≡ f → (v k : ℕ) → g v k ≡ true → f v k ≡ true
  was e v k t = sym (ap (λ (f : ℕ → ℕ → Bool). f v k) e) ∙ t

  is : {f g : ℕ → ℕ → Bool} → g ≡ f → (v k : ℕ) → f v k ≡ true → g v k ≡ true
  is e v k t = ap (λ (f : ℕ → ℕ → Bool). f v k) e ∙ t

  acknowledges : Acknowledges w → (q : Request) (done : Bool) (w' : World) → Change w q done w' → Acknowledges w'
  unfolding booking counted visited voted with_vault held_at voted_at votes_in
  acknowledges a q done w' (nothing p) = a
  acknowledges a q done w' (idle p m) = a
  acknowledges a q done w' (appends bytes e h n) = a
  acknowledges a q done w' (signs u m c h b) = λ v k t. is (sign_acked l u m) v k (a v k (was (sign_held l u m) v k t))
  acknowledges a q done w' (votes c u m h f b) = λ v k t. (voted_added l c u m (is_vault i u h) Acknowledgements).old k v (a v k t)
  acknowledges a q done w' (holds u m signers c h e) = λ v k t.
      let acked = hold_acked l u m (in_votes i m h) (is_vault i u c.below) in
      ⊎_elim (λ o. acked.old k v (a v k o))
      (λ p. subst (λ (x : ℕ). acked_at (held_here l u m) x k ≡ true) (sym p.0)
      (subst (λ (y : ℕ). acked_at (held_here l u m) u y ≡ true) (sym p.1) acked.new))
      ((hold_held l u m (in_vaults i u c.below) (is_job i m h)).cases v k t)
  acknowledges a q done w' sees = a
  acknowledges a q done w' (releases u m rival c s h n) = λ v k t. a v k (was (release_held l u m) v k t)
  acknowledges a q done w' (counts u m client d h) = a
  acknowledges a q done w' (grants u m client z c h b) = λ v k t. is (sign_acked l u m) v k (a v k (was (sign_held l u m) v k t))

  -- ---- what is new of a correct vault
  module _ (v k : ℕ) (c : Correct l.settings v) where
    allowed : k < l.booked → Unblocked (booked_job w) l.booked (vault_at l v).held (job_without (vault_at l v).signed k) (booked_job w k) → MaySign w v k
    allowed h u =
        admission_signs (booked_job w) l.booked (vault_at l v).held (job_without (vault_at l v).signed k) (booked_job w k) (booked_valid i k h)
        (unblocked_admission (booked_job w) l.booked (vault_at l v).held (job_without (vault_at l v).signed k) (booked_job w k) u)

    abbrev Free : ℕ → ℕ → Type 0
    Free u m = Unblocked (booked_job w) l.booked (vault_at l u).held (job_without (vault_at l u).signed m) (booked_job w m)

    -- the pair of the step is this one
    sign_by : (q : ℕ → ℕ → Request) → AsksToSign v k (q v k) → (u m : ℕ) → v ≡ u → k ≡ m → m < l.booked → Free u m → SignsBy w (q u m) v k
    sign_by q a u m ev ek h b =
        subst (λ (x : ℕ). Free x m → SignsBy w (q x m) v k) ev
        (subst (λ (y : ℕ). y < l.booked → Free v y → SignsBy w (q v y) v k) ek (λ h' b'. record { asked = a; allowed = allowed h' b' }) h) b

    none : {b : Bool} {A : Type 0} → b ≡ false → b ≡ true → A
    none n t = absurd (true≢false (sym t ∙ n))

    new_signed : (q : Request) (done : Bool) (w' : World) → Change w q done w' → signed_at l v k ≡ false → signed_at w'.ledger v k ≡ true → SignsBy w q v k
    unfolding booking counted visited voted signed_at
    new_signed q done w' (nothing p) n t = none n t
    new_signed q done w' (idle p m) n t = none n t
    new_signed q done w' (appends bytes e h x) n t = none n t
    new_signed q done w' (signs u m d h b) n t =
        ⊎_elim (none n) (λ e. sign_by preflight plainly u m e.0 e.1 h b) ((sign_signed l u m (in_vaults i u d.below) (is_job i m h)).cases v k t)
    new_signed q done w' (votes d u m h f b) n t = none n t
    new_signed q done w' (holds u m signers d h e) n t = none n (was (hold_signed l u m) v k t)
    new_signed q done w' sees n t = none n t
    new_signed q done w' (releases u m rival d s h x) n t = none n ((release_signed l u m).old v k t)
    new_signed q done w' (counts u m client d h) n t = none n t
    new_signed q done w' (grants u m client z d h b) n t =
        ⊎_elim (none n) (λ e. sign_by (λ x y. client_preflight x y client) (for_client client) u m e.0 e.1 h b)
        ((sign_signed l u m (in_vaults i u d.below) (is_job i m h)).cases v k t)

    -- a faulty vault's vote is not this vault's
    not_faulty : {A : Type 0} (u : ℕ) → v ≡ u → has_bit l.settings.faulty u ≡ true → A
    not_faulty u e f = absurd (true≢false (sym f ∙ ap (has_bit l.settings.faulty) (sym e) ∙ c.sound))

    new_recorded : (q : Request) (done : Bool) (w' : World) → Change w q done w' → recorded_at l v k ≡ false → recorded_at w'.ledger v k ≡ true
        → SignsBy w q v k
    unfolding booking counted visited with_vault voted_at votes_in
    new_recorded q done w' (nothing p) n t = none n t
    new_recorded q done w' (idle p m) n t = none n t
    new_recorded q done w' (appends bytes e h x) n t = none n t
    new_recorded q done w' (signs u m d h b) n t =
        ⊎_elim (none n) (λ e. sign_by preflight plainly u m e.1 e.0 h b) ((sign_recorded l u m (in_votes i m h) (is_vault i u d.below)).cases k v t)
    new_recorded q done w' (votes d u m h f b) n t =
        ⊎_elim (none n) (λ e. not_faulty u e.1 f) ((voted_added l d u m (is_vault i u h) Signatures).cases k v t)
    new_recorded q done w' (holds u m signers d h e) n t = none n (was (hold_recorded l u m) v k t)
    new_recorded q done w' sees n t = none n t
    new_recorded q done w' (releases u m rival d s h x) n t = none n t
    new_recorded q done w' (counts u m client d h) n t = none n t
    new_recorded q done w' (grants u m client z d h b) n t =
        ⊎_elim (none n) (λ e. sign_by (λ x y. client_preflight x y client) (for_client client) u m e.1 e.0 h b)
        ((sign_recorded l u m (in_votes i m h) (is_vault i u d.below)).cases k v t)

    -- a commit of this job at this vault, answered 0
    record Committed (q : Request) (done : Bool) : Type 0 where
      signers : ℕ
      asked : q ≡ commit v k signers
      answered : done ≡ true

    committed : (u m signers : ℕ) → v ≡ u → k ≡ m → Committed (commit u m signers) true
    committed u m signers ev ek =
        record { signers = signers; asked = ap (λ (x : ℕ). commit x m signers) (sym ev) ∙ ap (λ (y : ℕ). commit v y signers) (sym ek); answered = refl }

    new_held : (q : Request) (done : Bool) (w' : World) → Change w q done w' → held_at l v k ≡ false → held_at w'.ledger v k ≡ true → Committed q done
    unfolding booking counted visited voted held_at
    new_held q done w' (nothing p) n t = none n t
    new_held q done w' (idle p m) n t = none n t
    new_held q done w' (appends bytes e h x) n t = none n t
    new_held q done w' (signs u m d h b) n t = none n (was (sign_held l u m) v k t)
    new_held q done w' (votes d u m h f b) n t = none n t
    new_held q done w' (holds u m signers d h e) n t =
        ⊎_elim (none n) (λ p. committed u m signers p.0 p.1) ((hold_held l u m (in_vaults i u d.below) (is_job i m h)).cases v k t)
    new_held q done w' sees n t = none n t
    new_held q done w' (releases u m rival d s h x) n t = none n (was (release_held l u m) v k t)
    new_held q done w' (counts u m client d h) n t = none n t
    new_held q done w' (grants u m client z d h b) n t = none n (was (sign_held l u m) v k t)

    new_acked : (q : Request) (done : Bool) (w' : World) → Change w q done w' → acked_at l v k ≡ false → acked_at w'.ledger v k ≡ true → Committed q done
    unfolding booking counted visited with_vault voted_at votes_in
    new_acked q done w' (nothing p) n t = none n t
    new_acked q done w' (idle p m) n t = none n t
    new_acked q done w' (appends bytes e h x) n t = none n t
    new_acked q done w' (signs u m d h b) n t = none n (was (sign_acked l u m) v k t)
    new_acked q done w' (votes d u m h f b) n t =
        ⊎_elim (none n) (λ e. not_faulty u e.1 f) ((voted_added l d u m (is_vault i u h) Acknowledgements).cases k v t)
    new_acked q done w' (holds u m signers d h e) n t =
        ⊎_elim (none n) (λ p. committed u m signers p.1 p.0) ((hold_acked l u m (in_votes i m h) (is_vault i u d.below)).cases k v t)
    new_acked q done w' sees n t = none n t
    new_acked q done w' (releases u m rival d s h x) n t = none n t
    new_acked q done w' (counts u m client d h) n t = none n t
    new_acked q done w' (grants u m client z d h b) n t = none n (was (sign_acked l u m) v k t)

    -- a commit that is answered 0 passed its gate, and Algorithm 2 allowed it
    hold_by : (e : Event) → Committed e.request (is_done (reply_to w e).outcome) → HoldsBy w e.request v k
    unfolding commit_decision
    hold_by e x =
        let done : accepts w e.size e.beyond (commit v k x.signers) ≡ true = ap (accepts w e.size e.beyond) (sym x.asked) ∙ x.answered in
        let h = entered l (lend w.booked e.size e.beyond) v k false
        (done_gate (vault_gate l (lend w.booked e.size e.beyond) v k false) _ done) in
        record {
          signers = x.signers;
          asked = x.asked;
          allowed = ((obeys i e.size e.beyond v k (record { correct = c; booked = h.known.below; whole = h.known.inside })).commits
              x.signers).sound done;
        }

    pub only_then : (e : Event) → OnlyThen w (after w e) e.request v k
    unfolding held_at signed_at voted_at
    only_then e =
        let done = is_done (reply_to w e).outcome in
        let change = changes w i.shape e in
        record {
          signs = new_signed e.request done (after w e) change;
          signature = new_recorded e.request done (after w e) change;
          holds = λ n t. hold_by e (new_held e.request done (after w e) change n t);
          acknowledgement = λ n t. hold_by e (new_acked e.request done (after w e) change n t);
        }

pub acknowledges_along : (es : List Event) (w : World) (r : Register) → Inv w r → Acknowledges w → Acknowledges (after_all w es)
acknowledges_along [] w r i a = a
acknowledges_along (e ∷ es) w r i a =
    let done = is_done (reply_to w e).outcome in
    acknowledges_along es (after w e) (feed r e.request done) (kept w r i e) (acknowledges i a e.request done (after w e) (changes w i.shape e))
