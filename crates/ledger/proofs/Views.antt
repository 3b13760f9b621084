-- What each change does to the ledger, in words of which vault holds, signed and acknowledged which job. A change of one set adds one
-- pair to one of these relations, or takes one away, and leaves the others; one law over the list and the view says so for all of them.
use mathlib.Core.Bool.{Bool, ◌||◌, cond, false, true, true≢false}
use mathlib.Core.List.{List, [], ◌++◌, ◌∷◌}
use mathlib.Core.Logic.{◌≢◌, ◌⊎◌, inl, inr, ⊎_elim}
use mathlib.Core.Path.{◌∙◌, ◌≡◌, ap, refl, subst, sym}
use Prim.Native.Nat.{◌<◌, ◌^◌, ◌≤◌, ℕ}
use native.Mathlib.Nat.{le_refl}
use native.Mathlib.Numerals.{add-one}
use native.Mathlib.Omega.{arith}
use lib.Count.{ones}
use lib.Dec.{eqb, leb, ltb}
use lib.ListN.{get_or, length, length-set, set}
use lib.Seq.{get_or-set_other, get_or-set_same, get_or-take, length-take-le, set_out, take-suc-set}
use borrow.Author.Tests.{eqb-false, eqb-true, leb-false, lt-leb, ltb-false, ltb-true}
use Rattle.base.proofs.Members.{get_d_in, in_get_d}
use Rattle.base.proofs.Reflect.{by_cases, or_false, reflect_as, reflect_eq}
use Rattle.base.proofs.Search.{reflect_any}
use Rattle.base.specs.Lists.{In}
use Rattle.base.specs.Reflect.{Reflects}
use Rattle.sets.proofs.Bits.{has_member_other, has_member_same, member_again, member_below, member_beyond, ones_member, with_lt}
use Rattle.job_sets.proofs.Jobs.{job_with_other, job_with_same, job_without_other, job_without_same}
use Rattle.sets.specs.Bits.{has_bit, with_member}
use Rattle.job_sets.specs.Jobs.{job_has, job_with, job_without}
use Rattle.job_sets.specs.declared.job_set.JobSet.{JobSet}
use Rattle.generations.specs.Generations.{is_at}
use Rattle.ledger.specs.State.{arrived, arriving, enqueued, has_arrived, vault_at, voted, votes_at, votes_in}
use Rattle.vaults.specs.Votes.{column_of, no_votes, with_vote}
use Rattle.vaults.specs.declared.Column.{Column}
use Rattle.vaults.specs.declared.Column.TheVariants.{Acknowledgements, Signatures}
use Rattle.ledger.specs.declared.Ledger.{Ledger}
use Rattle.vaults.specs.declared.Votes.{Votes}

-- ---- the relations
unfoldable pub held_at : Ledger → ℕ → ℕ → Bool
held_at l v k = job_has (vault_at l v).held k

unfoldable pub signed_at : Ledger → ℕ → ℕ → Bool
signed_at l v k = job_has (vault_at l v).signed k

-- the vault's vote on the job is recorded in the column
unfoldable pub voted_at : Ledger → Column → ℕ → ℕ → Bool
voted_at l c v k = has_bit (votes_in l c k) v

abbrev pub recorded_at : Ledger → ℕ → ℕ → Bool
recorded_at l = voted_at l Signatures

abbrev pub acked_at : Ledger → ℕ → ℕ → Bool
acked_at l = voted_at l Acknowledgements

-- s' is s and m
pub record Plus (s s' : ℕ → Bool) (m : ℕ) : Type 0 where
  pub old : (k : ℕ) → s k ≡ true → s' k ≡ true
  pub new : s' m ≡ true
  pub cases : (k : ℕ) → s' k ≡ true → (s k ≡ true) ⊎ (k ≡ m)

-- s' is s and, at most, the pair (i, m)
pub record Added (s s' : ℕ → ℕ → Bool) (i m : ℕ) : Type 0 where
  pub old : (u k : ℕ) → s u k ≡ true → s' u k ≡ true
  pub cases : (u k : ℕ) → s' u k ≡ true → (s u k ≡ true) ⊎ ((u ≡ i) × (k ≡ m))

-- s' is s and the pair (i, m)
pub record Grown (s s' : ℕ → ℕ → Bool) (i m : ℕ) : Type 0 where
  pub old : (u k : ℕ) → s u k ≡ true → s' u k ≡ true
  pub cases : (u k : ℕ) → s' u k ≡ true → (s u k ≡ true) ⊎ ((u ≡ i) × (k ≡ m))
  pub new : s' i m ≡ true

-- s' is s without, at most, the pair (i, m)
pub record Shrunk (s s' : ℕ → ℕ → Bool) (i m : ℕ) : Type 0 where
  pub old : (u k : ℕ) → s' u k ≡ true → s u k ≡ true
  pub cases : (u k : ℕ) → s u k ≡ true → (s' u k ≡ true) ⊎ ((u ≡ i) × (k ≡ m))

plus_by : (s s' : ℕ → Bool) (m : ℕ) → s' m ≡ true → ((k : ℕ) → k ≢ m → s' k ≡ s k) → Plus s s' m
plus_by s s' m new other = record {
  old = λ k h. by_cases (λ _. s' k ≡ true) (eqb k m) (λ e. rw (eqb-true k m e) new) (λ e. other k (eqb-false k m e) ∙ h);
  new = new;
  cases = λ k h. by_cases (λ _. (s k ≡ true) ⊎ (k ≡ m)) (eqb k m) (λ e. inr (eqb-true k m e)) (λ e. inl (sym (other k (eqb-false k m e)) ∙ h));
}

pub plus_job : (s : JobSet) (m : ℕ) → m < 128 → Plus (job_has s) (job_has (job_with s m)) m
plus_job s m h = plus_by (job_has s) (job_has (job_with s m)) m (job_with_same s m h) (job_with_other s m)

pub plus_member : (s m : ℕ) → m < 16 → Plus (has_bit s) (has_bit (with_member 16 s m)) m
plus_member s m h = plus_by (has_bit s) (has_bit (with_member 16 s m)) m (has_member_same 16 s m h) (has_member_other 16 s m)

-- s' is s without m
pub record Minus (s s' : ℕ → Bool) (m : ℕ) : Type 0 where
  pub old : (k : ℕ) → s' k ≡ true → s k ≡ true
  pub cases : (k : ℕ) → s k ≡ true → (s' k ≡ true) ⊎ (k ≡ m)

pub minus_job : (s : JobSet) (m : ℕ) → Minus (job_has s) (job_has (job_without s m)) m
minus_job s m = record {
  old = λ k h. by_cases (λ _. job_has s k ≡ true) (eqb k m)
      (λ e. absurd (true≢false (sym h ∙ ap (job_has (job_without s m)) (eqb-true k m e) ∙ job_without_same s m)))
      (λ e. sym (job_without_other s m k (eqb-false k m e)) ∙ h);
  cases = λ k h. by_cases (λ _. (job_has (job_without s m) k ≡ true) ⊎ (k ≡ m)) (eqb k m) (λ e. inr (eqb-true k m e))
      (λ e. inl (job_without_other s m k (eqb-false k m e) ∙ h));
}

-- ---- a store in a list

-- what is so of the element that is stored, and of each that stays, is so of all
pub at_store : {A : Type 0} (xs : List A) (i : ℕ) (a d : A) (P : ℕ → A → A → Type 0) → ((u : ℕ) (x : A) → P u x x) → P i (get_or xs i d) a
    → (u : ℕ) → P u (get_or xs u d) (get_or (set xs i a) u d)
at_store xs i a d P same stored u = by (eqb u i) refl (ltb i (length xs)) refl
  where
    by : (b : Bool) → eqb u i ≡ b → (c : Bool) → ltb i (length xs) ≡ c → P u (get_or xs u d) (get_or (set xs i a) u d)
    by false q c l = rw (get_or-set_other xs i u a d (eqb-false u i q)) (same u (get_or xs u d))
    by true q true l = rw (eqb-true u i q, get_or-set_same xs i a d (ltb-true i (length xs) l)) stored
    by true q false l = rw (set_out xs i a (ltb-false i (length xs) l)) (same u (get_or xs u d))

-- seen through a view of its elements
module _ {A : Type 0} (f : A → ℕ → Bool) (d : A) (xs : List A) (i : ℕ) (a : A) where
  pub grown_row : (m : ℕ) → i < length xs → Plus (f (get_or xs i d)) (f a) m → Grown (λ u. f (get_or xs u d)) (λ u. f (get_or (set xs i a) u d)) i m
  grown_row m h p = record {
    old = λ u k. at_store xs i a d (λ u x y. f x k ≡ true → f y k ≡ true) (λ u x t. t) (p.old k) u;
    cases = λ u k. at_store xs i a d (λ u x y. f y k ≡ true → (f x k ≡ true) ⊎ ((u ≡ i) × (k ≡ m))) (λ u x t. inl t)
        (λ t. ⊎_elim inl (λ e. inr (refl, e)) (p.cases k t)) u;
    new = ap (λ (x : A). f x m) (get_or-set_same xs i a d h) ∙ p.new;
  }

  pub shrunk_row : (m : ℕ) → Minus (f (get_or xs i d)) (f a) m → Shrunk (λ u. f (get_or xs u d)) (λ u. f (get_or (set xs i a) u d)) i m
  shrunk_row m p = record {
    old = λ u k. at_store xs i a d (λ u x y. f y k ≡ true → f x k ≡ true) (λ u x t. t) (p.old k) u;
    cases = λ u k. at_store xs i a d (λ u x y. f x k ≡ true → (f y k ≡ true) ⊎ ((u ≡ i) × (k ≡ m))) (λ u x t. inl t)
        (λ t. ⊎_elim inl (λ e. inr (refl, e)) (p.cases k t)) u;
  }

  -- a store that leaves the view of its element leaves every view
  pub kept_row : ((k : ℕ) → f a k ≡ f (get_or xs i d) k) → (u k : ℕ) → f (get_or (set xs i a) u d) k ≡ f (get_or xs u d) k
  kept_row e u k = at_store xs i a d (λ u x y. f y k ≡ f x k) (λ u x. refl) (e k) u

-- ---- one more vote on a job
member_ones : (v s : ℕ) → ones s ≤ ones (with_member 16 s v)
member_ones v s = by (ltb v 16) refl (has_bit s v) refl
  where
    by : (a : Bool) → ltb v 16 ≡ a → (b : Bool) → has_bit s v ≡ b → ones s ≤ ones (with_member 16 s v)
    by false l b e = rw (member_beyond 16 s v (ltb-false v 16 l)) (le_refl (ones s))
    by true l true e = rw (member_again 16 s v e) (le_refl (ones s))
    by true l false e = omega (arith, ones_member 16 s v (ltb-true v 16 l) e)

abbrev pub other : Column → Column
other Signatures = Acknowledgements
other Acknowledgements = Signatures

module _ (l : Ledger) (c : Column) (v k : ℕ) where
  -- at the job and in the column the set with the vault, elsewhere the set as it was
  vote_by_lem : (P : ℕ → ℕ → ℕ → Type 0) → ((m s : ℕ) → P m s s) → ((s : ℕ) → P k s (with_member 16 s v))
      → (d : Column) (m : ℕ) → P m (votes_in l d m) (votes_in (voted l c v k) d m)
  unfolding votes_in voted
  vote_by_lem P same more d m =
      at_store l.votes k (with_vote c v (votes_at l k)) no_votes (λ u x y. P u (column_of d x) (column_of d y)) (λ u x. same u (column_of d x)) (joined c d) m
    where
      joined : (c d : Column) → P k (column_of d (votes_at l k)) (column_of d (with_vote c v (votes_at l k)))
      joined Signatures Signatures = more _
      joined Signatures Acknowledgements = same k _
      joined Acknowledgements Signatures = same k _
      joined Acknowledgements Acknowledgements = more _

  pub voted_ones : (d : Column) (m : ℕ) → ones (votes_in l d m) ≤ ones (votes_in (voted l c v k) d m)
  voted_ones d m = vote_by_lem (λ m s t. ones s ≤ ones t) (λ m s. le_refl (ones s)) (member_ones v) d m

  pub voted_below : (n : ℕ) → v < n → n ≤ 16 → ((d : Column) (m : ℕ) → votes_in l d m < 2 ^ n) → (d : Column) (m : ℕ) → votes_in (voted l c v k) d m < 2 ^ n
  voted_below n hv hn h d m =
      vote_by_lem (λ m s t. s < 2 ^ n → t < 2 ^ n) (λ m s b. b) (λ s b. rw (member_below 16 s v (omega arith)) (with_lt n s v b hv)) d m (h d m)

  pub voted_added : v < 16 → (d : Column) → Added (λ m u. voted_at l d u m) (λ m u. voted_at (voted l c v k) d u m) k v
  unfolding voted_at
  voted_added hv d = record {
    old = λ m u. vote_by_lem (λ m s t. has_bit s u ≡ true → has_bit t u ≡ true) (λ m s t. t) (λ s. (plus_member s v hv).old u) d m;
    cases = λ m u. vote_by_lem (λ m s t. has_bit t u ≡ true → (has_bit s u ≡ true) ⊎ ((m ≡ k) × (u ≡ v))) (λ m s t. inl t)
        (λ s t. ⊎_elim inl (λ e. inr (refl, e)) ((plus_member s v hv).cases u t)) d m;
  }

  pub voted_grown : k < length l.votes → v < 16 → Grown (λ m u. voted_at l c u m) (λ m u. voted_at (voted l c v k) c u m) k v
  unfolding voted_at votes_in voted
  voted_grown hk hv =
      let a = voted_added hv c in
      record {
        old = a.old;
        cases = a.cases;
        new = ap (λ (x : Votes). has_bit (column_of c x) v) (get_or-set_same l.votes k (with_vote c v (votes_at l k)) no_votes hk) ∙ new c;
      }
    where
      new : (c : Column) → has_bit (column_of c (with_vote c v (votes_at l k))) v ≡ true
      new Signatures = (plus_member _ v hv).new
      new Acknowledgements = (plus_member _ v hv).new

  pub voted_other : votes_in (voted l c v k) (other c) ≡ votes_in l (other c)
  unfolding votes_in voted
  voted_other =
      λ i m. at_store l.votes k (with_vote c v (votes_at l k)) no_votes (λ u x y. column_of (other c) y ≡ column_of (other c) x) (λ u x. refl) (kept c) m i
    where
      kept : (c : Column) → column_of (other c) (with_vote c v (votes_at l k)) ≡ column_of (other c) (votes_at l k)
      kept Signatures = refl
      kept Acknowledgements = refl

-- ---- the arrival order
module _ (l : Ledger) (job : ℕ) where
  pub arrive_again : has_arrived l.order l.arrivals job ≡ true → arriving l job ≡ l
  unfolding arriving
  arrive_again e = simp e

  pub arrive_first : has_arrived l.order l.arrivals job ≡ false → l.arrivals < 128 → l.arrivals < length l.order
      → arrived (arriving l job) ≡ arrived l ++ (job ∷ [])
  unfolding arriving enqueued
  arrive_first e h h' = simp (e, lt-leb 128 l.arrivals h) (rw add-one (take-suc-set l.order l.arrivals job h'))

  -- nothing else changes
  pub record Arrives (l' : Ledger) : Type 0 where
    pub settings : l'.settings ≡ l.settings
    pub booked : l'.booked ≡ l.booked
    pub next : l'.next ≡ l.next
    pub seen : l'.seen ≡ l.seen
    pub histories : l'.histories ≡ l.histories
    pub votes : l'.votes ≡ l.votes
    pub vaults : l'.vaults ≡ l.vaults
    pub order : length l'.order ≡ length l.order
    pub arrivals : l.arrivals ≤ 128 → l'.arrivals ≤ 128

  pub arrives : Arrives (arriving l job)
  unfolding arriving enqueued
  arrives = by_cases (λ b. Arrives (cond b l (enqueued l job))) (has_arrived l.order l.arrivals job || leb 128 l.arrivals)
      (λ e. record {
        settings = refl;
        booked = refl;
        next = refl;
        seen = refl;
        histories = refl;
        votes = refl;
        vaults = refl;
        order = refl;
        arrivals = λ h. h;
      })
      (λ e. record {
        settings = refl;
        booked = refl;
        next = refl;
        seen = refl;
        histories = refl;
        votes = refl;
        vaults = refl;
        order = length-set l.order l.arrivals job;
        arrivals = λ h. omega (arith, leb-false 128 l.arrivals (or_false (has_arrived l.order l.arrivals job) _ e).1);
      })

-- a job has arrived exactly where it is in the list of arrivals
pub reflect_arrived : (l : Ledger) (job : ℕ) → l.arrivals ≤ length l.order → Reflects (has_arrived l.order l.arrivals job) (In job (arrived l))
unfolding has_arrived is_at
reflect_arrived l job h =
    reflect_as (reflect_any l.arrivals (λ i b. reflect_eq (get_or l.order i 0) job))
    (λ s. subst (λ (x : ℕ). In x (arrived l)) (get_or-take l.arrivals l.order s.which 0 s.below ∙ s.has)
    (in_get_d (arrived l) 0 s.which (omega (arith, s.below, length-take-le l.arrivals l.order h))))
    (λ m. let q = get_d_in (arrived l) 0 job m in
    let b : q.0 < l.arrivals = omega (arith, q.1, length-take-le l.arrivals l.order h) in
    record { which = q.0; below = b; has = sym (get_or-take l.arrivals l.order q.0 0 b) ∙ q.2 })
