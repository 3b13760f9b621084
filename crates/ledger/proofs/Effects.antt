-- What each effect does to the relations and to the shape: a vote or a held job is one more pair, a release one less, and the rest is as it was.
use Rattle.job_sets.specs.declared.job_set.JobSet.{JobSet}
use Rattle.snapshot.proofs.Visits.{stays_below}
use mathlib.Core.Bool.{Bool, false, true}
use mathlib.Core.List.{List, [], ◌++◌, ◌∷◌}
use mathlib.Core.Path.{◌∙◌, ◌≡◌, ap, ap₂, refl, subst, sym}
use Prim.Native.Nat.{◌<◌, ◌^◌, ◌≤◌, ℕ}
use native.Mathlib.Omega.{arith}
use lib.Count.{ones}
use lib.ListN.{get_or, length, length-append, length-set, set}
use Rattle.codec.proofs.Numbers.{room}
use Rattle.codec.proofs.Sizes.{place_next}
use Rattle.codec.specs.Codec.{place_of, record_size}
use Rattle.sets.specs.Bits.{has_bit}
use Rattle.job_sets.specs.Jobs.{job_has}
use Rattle.ledger.proofs.Changes.{Shape, held, released_by, signed_by}
use Rattle.ledger.proofs.Views.{
  Added,
  Arrives,
  Grown,
  Shrunk,
  acked_at,
  arrive_again,
  arrive_first,
  arrives,
  grown_row,
  held_at,
  kept_row,
  minus_job,
  plus_job,
  recorded_at,
  shrunk_row,
  signed_at,
  voted_added,
  voted_below,
  voted_grown,
  voted_ones,
  voted_other,
  voted_at,
}
use Rattle.federation.specs.Federation.{Lawful}
use Rattle.generations.specs.Generations.{is_at}
use Rattle.ledger.specs.declared.Change.{Change}
use Rattle.ledger.specs.declared.Change.TheVariants.{Book, Count, Grant, Hold, Nothing, Record, Release, See, Sign}
use Rattle.ledger.specs.State.{applied, arrived, arriving, booking, counted, has_arrived, signers_of, vault_at, version_of, visited, voted}
use Rattle.ledger.specs.State.{votes_in, with_vault}
use Rattle.vaults.specs.Vaults.{holding, new_vault, signing, unsigning}
use Rattle.vaults.specs.Votes.{column_of, no_votes}
use Rattle.vaults.specs.declared.Column.{Column}
use Rattle.vaults.specs.declared.Column.TheVariants.{Acknowledgements, Signatures}
use Rattle.ledger.specs.declared.History.{History}
use Rattle.ledger.specs.declared.Ledger.{Ledger}
use Rattle.federation.specs.declared.Settings.{Settings}
use Rattle.vaults.specs.declared.Vault.{Vault}
use Rattle.vaults.specs.declared.Votes.{Votes}

-- ---- a vault signs
module _ (l : Ledger) (v k : ℕ) where
  abbrev signer : Vault
  signer = signing (vault_at l v) k

  pub sign_held : held_at (signed_by l v k) ≡ held_at l
  unfolding held_at voted with_vault signing
  sign_held = λ i u m. kept_row (λ (s : Vault). job_has s.held) new_vault l.vaults v signer (λ n. refl) u m i

  pub sign_signed : v < length l.vaults → k < 128 → Grown (signed_at l) (signed_at (signed_by l v k)) v k
  unfolding signed_at voted with_vault signing
  sign_signed hv hk = grown_row (λ (s : Vault). job_has s.signed) new_vault l.vaults v signer k hv (plus_job (vault_at l v).signed k hk)

  pub sign_recorded : k < length l.votes → v < 16 → Grown (λ m u. recorded_at l u m) (λ m u. recorded_at (signed_by l v k) u m) k v
  unfolding voted_at votes_in with_vault
  sign_recorded hk hv = voted_grown (with_vault l v signer) Signatures v k hk hv

  pub sign_acked : acked_at (signed_by l v k) ≡ acked_at l
  unfolding voted_at votes_in with_vault
  sign_acked = ap {B = ℕ → ℕ → Bool} (λ f u m. has_bit (f m) u) (voted_other (with_vault l v signer) Signatures v k)

  pub sign_votes : v < 16 → (d : Column) → Added (λ m u. voted_at l d u m) (λ m u. voted_at (signed_by l v k) d u m) k v
  unfolding voted_at votes_in with_vault
  sign_votes hv d = voted_added (with_vault l v signer) Signatures v k hv d

  pub sign_ones : (m : ℕ) → ones (signers_of l m) ≤ ones (signers_of (signed_by l v k) m)
  unfolding votes_in with_vault
  sign_ones m = voted_ones (with_vault l v signer) Signatures v k Signatures m

  -- ---- a vault releases
  abbrev releaser : Vault
  releaser = unsigning (vault_at l v) k

  pub release_held : held_at (released_by l v k) ≡ held_at l
  unfolding held_at with_vault unsigning
  release_held = λ i u m. kept_row (λ (s : Vault). job_has s.held) new_vault l.vaults v releaser (λ n. refl) u m i

  pub release_signed : Shrunk (signed_at l) (signed_at (released_by l v k)) v k
  unfolding signed_at with_vault unsigning
  release_signed = shrunk_row (λ (s : Vault). job_has s.signed) new_vault l.vaults v releaser k (minus_job (vault_at l v).signed k)

  -- ---- a vault holds, and the job arrives
  abbrev holder : Vault
  holder = holding (vault_at l v) k

  abbrev pub kept : Ledger
  kept = voted (with_vault l v holder) Acknowledgements v k

  hold_arrives : Arrives kept k (held l v k)
  unfolding held
  hold_arrives = arrives kept k

  pub kept_vaults : (held l v k).vaults ≡ set l.vaults v holder
  unfolding voted with_vault
  kept_vaults = hold_arrives.vaults

  kept_votes : votes_in (held l v k) ≡ votes_in kept
  unfolding votes_in
  kept_votes = ap {B = Column → ℕ → ℕ} (λ (xs : List Votes) c m. column_of c (get_or xs m no_votes)) hold_arrives.votes

  pub hold_settings : (held l v k).settings ≡ l.settings
  unfolding voted with_vault
  hold_settings = hold_arrives.settings

  pub hold_booked : (held l v k).booked ≡ l.booked
  unfolding voted with_vault
  hold_booked = hold_arrives.booked

  pub hold_next : (held l v k).next ≡ l.next
  unfolding voted with_vault
  hold_next = hold_arrives.next

  pub hold_histories : (held l v k).histories ≡ l.histories
  unfolding voted with_vault
  hold_histories = hold_arrives.histories

  pub hold_seen : (held l v k).seen ≡ l.seen
  unfolding voted with_vault
  hold_seen = hold_arrives.seen

  pub hold_held : v < length l.vaults → k < 128 → Grown (held_at l) (held_at (held l v k)) v k
  unfolding held_at holding
  hold_held hv hk =
      subst (λ (vs : List Vault). Grown (λ u. job_has (get_or l.vaults u new_vault).held) (λ u. job_has (get_or vs u new_vault).held) v k) (sym kept_vaults)
      (grown_row (λ (s : Vault). job_has s.held) new_vault l.vaults v holder k hv (plus_job (vault_at l v).held k hk))

  pub hold_signed : signed_at (held l v k) ≡ signed_at l
  unfolding signed_at holding
  hold_signed =
      ap {B = ℕ → ℕ → Bool} (λ vs u m. job_has (get_or vs u new_vault).signed m) kept_vaults
      ∙ (λ i u m. kept_row (λ (s : Vault). job_has s.signed) new_vault l.vaults v holder (λ n. refl) u m i)

  pub hold_signers : signers_of (held l v k) ≡ signers_of l
  unfolding votes_in with_vault
  hold_signers = ap {B = ℕ → ℕ} (λ f. f Signatures) kept_votes ∙ voted_other (with_vault l v holder) Acknowledgements v k

  pub hold_recorded : recorded_at (held l v k) ≡ recorded_at l
  unfolding voted_at
  hold_recorded = ap {B = ℕ → ℕ → Bool} (λ f u m. has_bit (f m) u) hold_signers

  pub hold_acked : k < length l.votes → v < 16 → Grown (λ m u. acked_at l u m) (λ m u. acked_at (held l v k) u m) k v
  unfolding voted_at votes_in with_vault
  hold_acked hk hv =
      subst (λ (f : Column → ℕ → ℕ). Grown (λ m u. acked_at l u m) (λ m u. has_bit (f Acknowledgements m) u) k v) (sym kept_votes)
      (voted_grown (with_vault l v holder) Acknowledgements v k hk hv)

  pub hold_votes : v < 16 → (d : Column) → Added (λ m u. voted_at l d u m) (λ m u. voted_at (held l v k) d u m) k v
  unfolding voted_at votes_in with_vault
  hold_votes hv d =
      subst (λ (f : Column → ℕ → ℕ). Added (λ m u. voted_at l d u m) (λ m u. has_bit (f d m) u) k v) (sym kept_votes)
      (voted_added (with_vault l v holder) Acknowledgements v k hv d)

  -- the order grows where the job had not arrived
  pub hold_again : has_arrived l.order l.arrivals k ≡ true → arrived (held l v k) ≡ arrived l
  unfolding held voted with_vault has_arrived is_at
  hold_again e = ap arrived (arrive_again kept k e)

  pub hold_first : has_arrived l.order l.arrivals k ≡ false → l.arrivals < 128 → l.arrivals < length l.order
      → arrived (held l v k) ≡ arrived l ++ (k ∷ [])
  unfolding held voted with_vault has_arrived is_at
  hold_first e h h' = arrive_first kept k e h h'

-- ---- the shape stays, whatever part of the ledger changes
module _ {l : Ledger} {bs : List ℕ} (s : Shape l bs) where
  pub shape_vault : (v : ℕ) (state : Vault) → Shape (with_vault l v state) bs
  unfolding with_vault votes_in
  shape_vault v state = record {
    lawful = s.lawful;
    vaults = length-set l.vaults v _ ∙ s.vaults;
    votes = s.votes;
    order = s.order;
    histories = s.histories;
    arrivals = s.arrivals;
    records = s.records;
    room = s.room;
    next = s.next;
    votes_below = s.votes_below;
  }

  pub shape_vote : (c : Column) (v k : ℕ) → v < l.settings.n → Shape (voted l c v k) bs
  unfolding voted
  shape_vote c v k hv = record {
    lawful = s.lawful;
    vaults = s.vaults;
    votes = length-set l.votes k _ ∙ s.votes;
    order = s.order;
    histories = s.histories;
    arrivals = s.arrivals;
    records = s.records;
    room = s.room;
    next = s.next;
    votes_below = voted_below l c v k l.settings.n hv s.lawful.vaults s.votes_below;
  }

  shape_arrive : (k : ℕ) → Shape (arriving l k) bs
  unfolding votes_in
  shape_arrive k =
      let a = arrives l k in
      record {
        lawful = subst Lawful (sym a.settings) s.lawful;
        vaults = ap length a.vaults ∙ s.vaults;
        votes = ap length a.votes ∙ s.votes;
        order = a.order ∙ s.order;
        histories = ap length a.histories ∙ s.histories;
        arrivals = a.arrivals s.arrivals;
        records = s.records ∙ ap₂ (λ (x : Settings) (m : ℕ). place_of x.version m) (sym a.settings) (sym a.booked);
        room = rw a.booked s.room;
        next = rw (a.next, a.settings) s.next;
        votes_below = λ c m.
            subst (λ (st : Settings). column_of c (get_or (arriving l k).votes m no_votes) < 2 ^ st.n) (sym a.settings)
            (subst (λ (xs : List Votes). column_of c (get_or xs m no_votes) < 2 ^ l.settings.n) (sym a.votes) (s.votes_below c m));
      }

  pub shape_see : (seen : JobSet) → Shape (visited l seen) bs
  unfolding visited votes_in
  shape_see seen = record {
    lawful = s.lawful;
    vaults = s.vaults;
    votes = s.votes;
    order = s.order;
    histories = s.histories;
    arrivals = s.arrivals;
    records = s.records;
    room = s.room;
    next = stays_below l.settings.n l.next (omega (arith, s.lawful.few));
    votes_below = s.votes_below;
  }

  pub shape_count : (v : ℕ) (h : History) → Shape (counted l v h) bs
  unfolding counted votes_in
  shape_count v h = record {
    lawful = s.lawful;
    vaults = s.vaults;
    votes = s.votes;
    order = s.order;
    histories = length-set l.histories _ _ ∙ s.histories;
    arrivals = s.arrivals;
    records = s.records;
    room = s.room;
    next = s.next;
    votes_below = s.votes_below;
  }

  pub shape_book : (bytes : List ℕ) → l.booked < 128 → length bytes ≡ record_size (version_of l) → Shape (booking l) (bs ++ bytes)
  unfolding booking votes_in
  shape_book bytes h e = record {
    lawful = s.lawful;
    vaults = s.vaults;
    votes = s.votes;
    order = s.order;
    histories = s.histories;
    arrivals = s.arrivals;
    records = omega (arith, length-append bs bytes, s.records, place_next (version_of l) l.booked);
    room = omega arith;
    next = s.next;
    votes_below = s.votes_below;
  }

module _ {l : Ledger} {bs : List ℕ} (s : Shape l bs) (v k : ℕ) (hv : v < l.settings.n) where
  still_vault : (state : Vault) → v < (with_vault l v state).settings.n
  unfolding with_vault
  still_vault state = hv

  pub shape_sign : Shape (signed_by l v k) bs
  shape_sign = shape_vote (shape_vault s v (signing (vault_at l v) k)) Signatures v k (still_vault _)

  pub shape_hold : Shape (held l v k) bs
  unfolding held
  shape_hold = shape_arrive (shape_vote (shape_vault s v (holding (vault_at l v) k)) Acknowledgements v k (still_vault _)) k

-- no change touches the settings
pub applied_settings : (l : Ledger) (c : Change) (v job : ℕ) → (applied l c v job).settings ≡ l.settings
unfolding applied booking counted voted with_vault visited
applied_settings l Nothing v job = refl
applied_settings l Book v job = refl
applied_settings l (Sign state) v job = refl
applied_settings l (Hold state) v job = (arrives (voted (with_vault l v state) Acknowledgements v job) job).settings
applied_settings l (Release state) v job = refl
applied_settings l (Record column) v job = refl
applied_settings l (See seen) v job = refl
applied_settings l (Count history) v job = refl
applied_settings l (Grant grant) v job = refl
