-- Acceptance lasts: what preflight accepts at a vault it goes on accepting, while the vault signs and holds no rival of the job. What check 11 found there
-- stays held, what is new there has no label of the job, and where no correct vault holds a rival of the job none can release it. Beside it, what a step leaves
-- that is answered 0: a preflight the vault's signature, a commit the job held; and what a vault holds it has acknowledged.
use mathlib.Core.Bool.{Bool, true, true≢false}
use mathlib.Core.List.{List, [], ◌∷◌}
use mathlib.Core.Logic.{◌≢◌, ◌⊎◌, inl, inr, ⊎_elim}
use mathlib.Core.Path.{◌∙◌, ◌≡◌, ap, ap₂, refl, subst, sym}
use Prim.Native.Nat.{◌<◌, ◌≤◌, ℕ}
use native.Mathlib.Nat.{le_refl, le_trans}
use native.Mathlib.Omega.{arith}
use lib.ListN.{get_or-append, get_or, length}
use Rattle.base.proofs.Members.{in_map}
use Rattle.base.specs.Lists.{In}
use Rattle.codec.specs.Codec.{job_of}
use Rattle.conflicts.specs.Tapes.{input_tapes, labels, output_tapes, used_from}
use Rattle.record.specs.declared.Entry.{Entry}
use Rattle.record.specs.declared.Job.{Job}
use Rattle.job_sets.proofs.Jobs.{job_without_other, job_without_same}
use Rattle.sets.specs.Bits.{has_bit}
use Rattle.job_sets.specs.Jobs.{job_has, job_without}
use Rattle.job_sets.specs.declared.job_set.JobSet.{JobSet}
use Rattle.ledger.proofs.Changes.{Change, Idle, Shape, appends, changes, counts, grants, holds, idle, nothing, releases, sees, signs}
use Rattle.ledger.proofs.Changes.{signed_by, table_of, votes}
use Rattle.ledger.proofs.Effects.{
  hold_acked,
  hold_booked,
  hold_settings,
  hold_held,
  hold_signed,
  release_held,
  release_signed,
  sign_acked,
  sign_held,
  sign_recorded,
  sign_signed,
}
use Rattle.ledger.proofs.Growth.{grow}
use Rattle.ledger.proofs.Invariant.{Inv}
use Rattle.ledger.proofs.Lending.{records_length, records_snoc}
use Rattle.ledger.proofs.Places.{examined_length}
use Rattle.ledger.proofs.Rivals.{Rival}
use Rattle.ledger.proofs.Views.{acked_at, held_at, recorded_at, signed_at, voted_added, voted_at}
use Rattle.ledger.specs.Demand3.{Apart, Correct, booked_job, records_in}
use Rattle.ledger.specs.Graph.{Algorithm1, Lister}
use Rattle.consequences.specs.Ready.{NoRival, Spares}
use Rattle.ledger.specs.Register.{Register, is_done, tabled}
use Rattle.ledger.specs.State.{booking, counted, vault_at, version_of, visited, voted, votes_in, with_vault}
use Rattle.ledger.specs.Worlds.{Event, Request, World, after, client_preflight, commit, dependencies, equivocating, faulty_vote, generations, preflight}
use Rattle.ledger.specs.Worlds.{propose, release, reply_to, show, snapshot}
use Rattle.federation.specs.declared.Settings.{Settings}
use Rattle.ledger.specs.declared.History.{History}
use Rattle.ledger.specs.declared.Ledger.{Ledger}
use Rattle.vaults.specs.declared.Vault.{Vault}
use Rattle.vaults.specs.declared.Column.TheVariants.{Acknowledgements}

-- no correct vault holds a rival of the job, so none can release it
abbrev pub Unopposed : World → ℕ → Type 0
Unopposed w j = (u k : ℕ) → Correct w.ledger.settings u → job_has (vault_at w.ledger u).held k ≡ true → Rival (tabled (table_of w)) k j → ⊥

-- ---- what a vault holds it has acknowledged
abbrev pub Acknowledged : Ledger → Type 0
Acknowledged l = (v k : ℕ) → held_at l v k ≡ true → acked_at l v k ≡ true

module _ (w : World) (sh : Shape w.ledger w.booked) where
  abbrev l : Ledger
  l = w.ledger

  in_vaults : (v : ℕ) → v < l.settings.n → v < length l.vaults
  in_vaults v h = omega (arith, sh.vaults, sh.lawful.vaults)

  is_vault : (v : ℕ) → v < l.settings.n → v < 16
  is_vault v h = omega (arith, sh.lawful.vaults)

  is_job : (k : ℕ) → k < l.booked → k < 128
  is_job k h = omega (arith, sh.room)

  has_votes : (k : ℕ) → k < l.booked → k < length l.votes
  has_votes k h = omega (arith, sh.votes, sh.room)

  -- a signature leaves both as they were
  acknowledged_sign : (v k : ℕ) → Acknowledged l → Acknowledged (signed_by l v k)
  acknowledged_sign v k a u m t =
      ap (λ (f : ℕ → ℕ → Bool). f u m) (sign_acked l v k) ∙ a u m (ap (λ (f : ℕ → ℕ → Bool). f u m) (sym (sign_held l v k)) ∙ t)

  pub acknowledged_on : (q : Request) (done : Bool) (w' : World) → Change w q done w' → Acknowledged l → Acknowledged w'.ledger
  unfolding booking counted visited voted with_vault votes_in voted_at held_at
  acknowledged_on q done w' (nothing p) a = a
  acknowledged_on q done w' (idle p m) a = a
  acknowledged_on q done w' (appends bytes e h n) a = a
  acknowledged_on q done w' (signs v k c h b) a = acknowledged_sign v k a
  acknowledged_on q done w' (votes d v k h f b) a = λ u m t. (voted_added l d v k (is_vault v h) Acknowledgements).old m u (a u m t)
  acknowledged_on q done w' (holds v k signers c h e) a =
      λ u m t.
      let g = hold_acked l v k (has_votes k h) (is_vault v c.below) in
      ⊎_elim (λ o. g.old m u (a u m o)) (λ x. rw (x.0, x.1) g.new) ((hold_held l v k (in_vaults v c.below) (is_job k h)).cases u m t)
  acknowledged_on q done w' sees a = a
  acknowledged_on q done w' (releases v k m c s h n) a = λ u i t. a u i (ap (λ (f : ℕ → ℕ → Bool). f u i) (sym (release_held l v k)) ∙ t)
  acknowledged_on q done w' (counts v k client d h) a = a
  acknowledged_on q done w' (grants v k client h c b u) a = acknowledged_sign v k a

  -- ---- what a request that is answered 0 leaves
  abbrev pub Leaves : World → Request → Type 0
  Leaves w' (propose bytes) = Unit {0}
  Leaves w' (preflight v k) = recorded_at w'.ledger v k ≡ true
  Leaves w' (commit v k signers) = held_at w'.ledger v k ≡ true
  Leaves w' (faulty_vote c v k) = Unit {0}
  Leaves w' (show k) = Unit {0}
  Leaves w' (generations k) = Unit {0}
  Leaves w' snapshot = Unit {0}
  Leaves w' (release v k rival) = Unit {0}
  Leaves w' (dependencies v k) = Unit {0}
  Leaves w' (client_preflight v k client) = Unit {0}
  Leaves w' equivocating = Unit {0}

  leaves_idle : ((v k : ℕ) → signed_at l v k ≡ true → recorded_at l v k ≡ true) → (q : Request) → Idle w q → Leaves w q
  unfolding signed_at held_at
  leaves_idle b (propose bytes) m = tt
  leaves_idle b (preflight v k) m = b v k m
  leaves_idle b (commit v k signers) m = m.held
  leaves_idle b (faulty_vote c v k) m = tt
  leaves_idle b (show k) m = tt
  leaves_idle b (generations k) m = tt
  leaves_idle b snapshot m = tt
  leaves_idle b (release v k rival) m = tt
  leaves_idle b (dependencies v k) m = tt
  leaves_idle b (client_preflight v k client) m = tt
  leaves_idle b equivocating m = tt

  pub leaves : ((v k : ℕ) → signed_at l v k ≡ true → recorded_at l v k ≡ true) → (q : Request) (done : Bool) (w' : World) → Change w q done w' → done ≡ true
      → Leaves w' q
  leaves b q done w' (nothing p) d = absurd (true≢false (sym d))
  leaves b q done w' (idle p m) d = leaves_idle b p m
  leaves b q done w' (appends bytes e h n) d = tt
  leaves b q done w' (signs v k c h u) d = (sign_recorded l v k (has_votes k h) (is_vault v c.below)).new
  leaves b q done w' (votes e v k h f x) d = tt
  leaves b q done w' (holds v k signers c h e) d = (hold_held l v k (in_vaults v c.below) (is_job k h)).new
  leaves b q done w' sees d = tt
  leaves b q done w' (releases v k m c s h n) d = tt
  leaves b q done w' (counts v k client e h) d = tt
  leaves b q done w' (grants v k client h c x u) d = tt

  -- ---- booked jobs stay as they are
  pub record More (w' : World) : Type 0 where
    pub booked : l.booked ≤ w'.ledger.booked
    pub jobs : (k : ℕ) → k < l.booked → booked_job w' k ≡ booked_job w k

  pub more : (q : Request) (done : Bool) (w' : World) → Change w q done w' → More w'
  unfolding booking counted visited voted with_vault
  more q done w' (nothing p) = record { booked = le_refl _; jobs = λ k h. refl }
  more q done w' (idle p m) = record { booked = le_refl _; jobs = λ k h. refl }
  more q done w' (appends bytes e h n) = record {
    booked = omega arith;
    jobs = λ k b.
        ap (λ (t : List (List ℕ)). job_of (get_or t k [])) (records_snoc (version_of l) l.booked w.booked bytes sh.records
        (examined_length (version_of l) bytes e))
        ∙ ap job_of (get_or-append (table_of w) (bytes ∷ []) [] k (omega (arith, records_length (version_of l) l.booked w.booked)));
  }
  more q done w' (signs v k c h u) = record { booked = le_refl _; jobs = λ k h. refl }
  more q done w' (votes e v k h f x) = record { booked = le_refl _; jobs = λ k h. refl }
  more q done w' (holds v k signers c h e) = record {
    booked = rw (hold_booked l v k) (le_refl _);
    jobs = λ m b. ap₂ (λ (s : Settings) (n : ℕ). job_of (get_or (records_in s.version n w.booked) m [])) (hold_settings l v k) (hold_booked l v k);
  }
  more q done w' sees = record { booked = le_refl _; jobs = λ k h. refl }
  more q done w' (releases v k m c s h n) = record { booked = le_refl _; jobs = λ k h. refl }
  more q done w' (counts v k client d h) = record { booked = le_refl _; jobs = λ k h. refl }
  more q done w' (grants v k client h c x u) = record { booked = le_refl _; jobs = λ k h. refl }

  -- ---- what a step that spares the job does at a vault of the set
  module _ (s j v : ℕ) (member : has_bit s v ≡ true) where
    -- a booked job without a label of j
    abbrev Away : ℕ → Type 0
    Away k = (k < l.booked) × Apart (booked_job w j) (booked_job w k)

    record Spared (l' : Ledger) : Type 0 where
      held : (k : ℕ) → held_at l' v k ≡ true → (held_at l v k ≡ true) ⊎ Away k
      signed : (k : ℕ) → k ≢ j → signed_at l' v k ≡ true → (signed_at l v k ≡ true) ⊎ Away k
      still : signed_at l v j ≡ true → signed_at l' v j ≡ true

    -- the vault is as it was
    spared_as : (l' : Ledger) → vault_at l' v ≡ vault_at l v → Spared l'
    unfolding held_at signed_at
    spared_as l' e = record {
      held = λ k t. inl (ap (λ (x : Vault). job_has x.held k) (sym e) ∙ t);
      signed = λ k n t. inl (ap (λ (x : Vault). job_has x.signed k) (sym e) ∙ t);
      still = λ t. ap (λ (x : Vault). job_has x.signed j) e ∙ t;
    }

    -- it signed a job that has no label of j
    spared_sign : (u k : ℕ) → u < l.settings.n → k < l.booked → (has_bit s u ≡ true → NoRival w j k) → Spared (signed_by l u k)
    spared_sign u k c h a =
        let g = sign_signed l u k (in_vaults u c) (is_job k h) in
        record {
          held = λ m t. inl (ap (λ (f : ℕ → ℕ → Bool). f v m) (sym (sign_held l u k)) ∙ t);
          signed = λ m n t. ⊎_elim inl
              (λ e. inr (subst Away (sym e.1) (h, a (ap (has_bit s) (sym e.0) ∙ member) (λ i. n (e.1 ∙ i)) h)))
              (g.cases v m t);
          still = g.old v j;
        }

    -- a history is no part of a vault
    spared_count : (m : Ledger) (u : ℕ) (h : History) → Spared m → Spared (counted m u h)
    unfolding counted held_at signed_at
    spared_count m u h p = record { held = p.held; signed = p.signed; still = p.still }

    spared : Unopposed w j → (q : Request) (done : Bool) (w' : World) → Change w q done w' → Spares w s j q → Spared w'.ledger
    unfolding booking visited voted
    spared free q done w' (nothing p) a = spared_as w'.ledger refl
    spared free q done w' (idle p m) a = spared_as w'.ledger refl
    spared free q done w' (appends bytes e h n) a = spared_as w'.ledger refl
    spared free q done w' (signs u k c h b) a = spared_sign u k c.below h a
    spared free q done w' (votes e u k h f x) a = spared_as w'.ledger refl
    spared free q done w' (holds u k signers c h e) a = record {
      held = λ m t. ⊎_elim inl
          (λ e. let x = a (ap (has_bit s) (sym e.0) ∙ member) in inr (subst Away (sym e.1) (h, x.1 x.0 h)))
          ((hold_held l u k (in_vaults u c.below) (is_job k h)).cases v m t);
      signed = λ m n t. inl (ap (λ (f : ℕ → ℕ → Bool). f v m) (sym (hold_signed l u k)) ∙ t);
      still = λ t. ap (λ (f : ℕ → ℕ → Bool). f v j) (hold_signed l u k) ∙ t;
    }
    spared free q done w' sees a = spared_as w'.ledger refl
    spared free q done w' (releases u k m c g h n) a = record {
      held = λ i t. inl (ap (λ (f : ℕ → ℕ → Bool). f v i) (sym (release_held l u k)) ∙ t);
      signed = λ i ne t. inl ((release_signed l u k).old v i t);
      still = λ t. ⊎_elim (λ o. o) (λ e. absurd (free u m c h (subst (λ (y : ℕ). Rival (tabled (table_of w)) m y) (sym e.1) n)))
          ((release_signed l u k).cases v j t);
    }
    spared free q done w' (counts u k client d h) a = spared_count l u h (spared_as l refl)
    spared free q done w' (grants u k client h c b x) a = spared_count (signed_by l u k) u h (spared_sign u k c.below b a)

-- ---- acceptance lasts
module _ {w : World} {r : Register} (i : Inv w r) (e : Event) (s j v : ℕ) (booked : j < w.ledger.booked) (member : has_bit s v ≡ true)
    (spares : Spares w s j e.request) (free : Unopposed w j) where
  abbrev w' : World
  w' = after w e

  abbrev before : Ledger
  before = w.ledger

  abbrev later : Ledger
  later = (after w e).ledger

  change : Change w e.request (is_done (reply_to w e).outcome) w'
  change = changes w i.shape e

  grown : More w i.shape w'
  grown = more w i.shape e.request _ w' change

  at_vault : Spared w i.shape s j v member later
  at_vault = spared w i.shape s j v member free e.request _ w' change spares

  -- a job of the set afterwards that has a label of j was in the set before
  abbrev Old : JobSet → JobSet → Type 0
  Old set set' = (k : ℕ) → job_has set' k ≡ true → ((job_has set k ≡ true) × (k < before.booked)) ⊎ Away w i.shape s j v member k

  old_held : Old (vault_at before v).held (vault_at later v).held
  unfolding held_at
  old_held k t = ⊎_elim (λ o. inl (o, i.safe.booked_held v k o)) inr (at_vault.held k t)

  old_signed : Old (job_without (vault_at before v).signed j) (job_without (vault_at later v).signed j)
  unfolding signed_at
  old_signed k t =
      let now = (vault_at later v).signed in
      let n : k ≢ j = λ (q : k ≡ j). true≢false (sym t ∙ (ap (job_has (job_without now j)) q ∙ job_without_same now j)) in
      ⊎_elim
      (λ o. inl (job_without_other (vault_at before v).signed j k n ∙ o, i.safe.booked_recorded v k (i.safe.backed v k o)))
      inr
      (at_vault.signed k n (sym (job_without_other now j k n) ∙ t))

  abbrev Label : ℕ → ℕ → ℕ → Type 0
  Label half k x = In x (labels (used_from (booked_job w k) half 4))

  -- so who has a label of j afterwards had it before
  lister : (half : ℕ) → ((k : ℕ) → Apart (booked_job w j) (booked_job w k) → (x : ℕ) → Label half j x → Label half k x → ⊥)
      → {set set' : JobSet} → Old set set' → (x : ℕ) → Label half j x
      → Lister (booked_job w') later.booked half set' x → Lister (booked_job w) before.booked half set x
  lister half apart {set} {set'} old x m c = by (old c.which c.member)
    where
      same : c.which < before.booked → Label half c.which x
      same b = subst (λ (y : Job). In x (labels (used_from y half 4))) (grown.jobs c.which b) c.lists

      by : ((job_has set c.which ≡ true) × (c.which < before.booked)) ⊎ Away w i.shape s j v member c.which
          → Lister (booked_job w) before.booked half set x
      by (inl (o, b)) = record { which = c.which; below = b; member = o; lists = same b }
      by (inr (b, a)) = absurd (apart c.which a x m (same b))

  consumer : {set set' : JobSet} → Old set set' → (x : ℕ) → Label 0 j x
      → Lister (booked_job w') later.booked 0 set' x → Lister (booked_job w) before.booked 0 set x
  consumer = lister 0 (λ k a. a.inputs)

  maker : {set set' : JobSet} → Old set set' → (x : ℕ) → Label 4 j x
      → Lister (booked_job w') later.booked 4 set' x → Lister (booked_job w) before.booked 4 set x
  maker = lister 4 (λ k a. a.outputs)

  abbrev Over : World → Job → Type 0
  Over u = Algorithm1 (booked_job u) u.ledger.booked (vault_at u.ledger v).held (job_without (vault_at u.ledger v).signed j)

  still_allowed : Over w (booked_job w j) → Over w' (booked_job w j)
  still_allowed a =
      let here = a.admissible in
      record {
        admissible = record {
          valid = here.valid;
          inputs_once = here.inputs_once;
          outputs_once = here.outputs_once;
          apart = here.apart;
          frontier = λ t m.
              let f = here.frontier t m in
              let c = f.created in
              record {
                created = record {
                  which = c.which;
                  below = le_trans c.below grown.booked;
                  member = (grow w i.shape e.request _ w' change).held v c.which c.member;
                  makes = subst (λ (y : Job). In t (output_tapes y)) (sym (grown.jobs c.which c.below)) c.makes;
                };
                unconsumed = λ x. f.unconsumed (consumer old_held t.label (in_map (λ (t : Entry). t.label) (input_tapes (booked_job w j)) t m) x);
              };
          fresh = λ x m y. here.fresh x m (maker old_held x m y);
        };
        unmarked_inputs = λ x m y. a.unmarked_inputs x m (consumer old_signed x m y);
        unmarked_outputs = λ x m y. a.unmarked_outputs x m (maker old_signed x m y);
      }

  -- a job that is signed there stays signed
  pub signed_lasts : job_has (vault_at before v).signed j ≡ true → job_has (vault_at later v).signed j ≡ true
  unfolding signed_at
  signed_lasts = at_vault.still

  -- and one that Algorithm 1 signs it goes on signing
  pub algorithm_lasts : Over w (booked_job w j) → Over w' (booked_job w' j)
  algorithm_lasts a = subst (Over w') (sym (grown.jobs j booked)) (still_allowed a)
