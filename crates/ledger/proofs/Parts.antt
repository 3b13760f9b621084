-- What each effect moves. A vault's new state, a vote, an arrival, a visit, a client's entry and a booked record each move one part and leave the others, so
-- a step that is made of some of them moves their parts alone; and what lasts is its parts, since each list in a ledger keeps its length.
use mathlib.Core.Bool.{Bool, true}
use mathlib.Core.List.{List, [], ◌++◌, ◌∷◌}
use mathlib.Core.Logic.{inl, inr, ⊎_elim}
use mathlib.Core.Path.{◌∙◌, ◌≡◌, ap, ap₂, refl, sym}
use Prim.Native.Nat.{suc, ℕ}
use native.Mathlib.Omega.{arith}
use lib.ListN.{get_or, length}
use Rattle.base.proofs.Members.{in_left, in_right}
use Rattle.base.specs.Lists.{In}
use Rattle.job_sets.specs.declared.job_set.JobSet.{JobSet}
use Rattle.vaults.specs.Vaults.{new_vault}
use Rattle.vaults.specs.Votes.{no_votes}
use Rattle.vaults.specs.declared.Column.{Column}
use Rattle.vaults.specs.declared.Column.TheVariants.{Acknowledgements, Signatures}
use Rattle.vaults.specs.declared.Vault.{Vault}
use Rattle.vaults.specs.declared.Votes.{Votes}
use Rattle.ledger.proofs.Changes.{with_ledger}
use Rattle.ledger.proofs.Demand3.{along, first}
use Rattle.ledger.proofs.Invariant.{Inv}
use Rattle.ledger.proofs.Views.{Grown, arrives, at_store, voted_other}
use Rattle.ledger.specs.Parts.{AllParts, Joins, Only, Part, Same, held, histories, order, records, round, settings, signed, votes}
use Rattle.ledger.specs.State.{arriving, booking, counted, vault_at, visited, voted, votes_in, with_vault}
use Rattle.ledger.specs.Register.{Register, new_register}
use Rattle.ledger.specs.Worlds.{World, start}
use Rattle.ledger.specs.declared.History.{History}
use Rattle.ledger.specs.declared.Ledger.{Ledger}

-- ---- one pair more
pub joins : {s s' : ℕ → ℕ → Bool} {v k : ℕ} → Grown s s' v k → Joins s s' v k
joins g = record { joined = g.new; kept = g.old; only = g.cases }

-- of a relation of jobs and vaults
pub joins_turned : {s s' : ℕ → ℕ → Bool} {v k : ℕ} → Grown (λ m u. s u m) (λ m u. s' u m) k v → Joins s s' v k
joins_turned g = record {
  joined = g.new;
  kept = λ u m. g.old m u;
  only = λ u m t. ⊎_elim inl (λ e. inr (e.1, e.0)) (g.cases m u t);
}

pub joins_same : (s : ℕ → ℕ → Bool) (v k : ℕ) → s v k ≡ true → Joins s s v k
joins_same s v k t = record { joined = t; kept = λ u m h. h; only = λ u m h. inl h }

-- ---- the same part, from world to world
pub same_refl : (p : Part) (w : World) → Same p w w
same_refl settings w = refl
same_refl records w = (refl, refl)
same_refl order w = (refl, refl)
same_refl held w = λ v. refl
same_refl signed w = λ v. refl
same_refl (votes column) w = λ k. refl
same_refl round w = (refl, refl)
same_refl histories w = refl

same_on : (p : Part) (w x y : World) → Same p w x → Same p x y → Same p w y
same_on settings w x y a b = b ∙ a
same_on records w x y a b = (b.0 ∙ a.0, b.1 ∙ a.1)
same_on order w x y a b = (b.0 ∙ a.0, b.1 ∙ a.1)
same_on held w x y a b = λ v. b v ∙ a v
same_on signed w x y a b = λ v. b v ∙ a v
same_on (votes column) w x y a b = λ k. b k ∙ a k
same_on round w x y a b = (b.0 ∙ a.0, b.1 ∙ a.1)
same_on histories w x y a b = b ∙ a

pub only_on : (a b : List Part) (w x y : World) → Only a w x → Only b x y → Only (a ++ b) w y
only_on a b w x y f g p n = same_on p w x y (f p (λ m. n (in_left a b p m))) (g p (λ m. n (in_right a b p m)))

-- ---- the effects
module _ (w : World) where
  abbrev l : Ledger
  l = w.ledger

  -- a vault whose signed jobs change
  pub only_signed : (v : ℕ) (state : Vault) → state.held ≡ (vault_at l v).held → Only (signed ∷ []) w (with_ledger w (with_vault l v state))
  unfolding with_vault votes_in
  only_signed v state e settings n = refl
  only_signed v state e records n = (refl, refl)
  only_signed v state e order n = (refl, refl)
  only_signed v state e held n = at_store l.vaults v state new_vault (λ u x y. y.held ≡ x.held) (λ u x. refl) e
  only_signed v state e signed n = absurd (n (inl refl))
  only_signed v state e (votes column) n = λ k. refl
  only_signed v state e round n = (refl, refl)
  only_signed v state e histories n = refl

  -- a vault whose held jobs change
  pub only_held : (v : ℕ) (state : Vault) → state.signed ≡ (vault_at l v).signed → Only (held ∷ []) w (with_ledger w (with_vault l v state))
  unfolding with_vault votes_in
  only_held v state e settings n = refl
  only_held v state e records n = (refl, refl)
  only_held v state e order n = (refl, refl)
  only_held v state e held n = absurd (n (inl refl))
  only_held v state e signed n = at_store l.vaults v state new_vault (λ u x y. y.signed ≡ x.signed) (λ u x. refl) e
  only_held v state e (votes column) n = λ k. refl
  only_held v state e round n = (refl, refl)
  only_held v state e histories n = refl

  -- a vote
  vote_column : (c d : Column) (v k : ℕ) → (In (votes d) (votes c ∷ []) → ⊥) → (m : ℕ) → votes_in (voted l c v k) d m ≡ votes_in l d m
  vote_column Signatures Signatures v k n m = absurd (n (inl refl))
  vote_column Signatures Acknowledgements v k n m = ap (λ (f : ℕ → ℕ). f m) (voted_other l Signatures v k)
  vote_column Acknowledgements Signatures v k n m = ap (λ (f : ℕ → ℕ). f m) (voted_other l Acknowledgements v k)
  vote_column Acknowledgements Acknowledgements v k n m = absurd (n (inl refl))

  pub only_voted : (c : Column) (v k : ℕ) → Only (votes c ∷ []) w (with_ledger w (voted l c v k))
  unfolding voted
  only_voted c v k settings n = refl
  only_voted c v k records n = (refl, refl)
  only_voted c v k order n = (refl, refl)
  only_voted c v k held n = λ u. refl
  only_voted c v k signed n = λ u. refl
  only_voted c v k (votes column) n = vote_column c column v k n
  only_voted c v k round n = (refl, refl)
  only_voted c v k histories n = refl

  -- an arrival
  pub only_arrived : (k : ℕ) → Only (order ∷ []) w (with_ledger w (arriving l k))
  unfolding votes_in
  only_arrived k settings n = (arrives l k).settings
  only_arrived k records n = ((arrives l k).booked, refl)
  only_arrived k order n = absurd (n (inl refl))
  only_arrived k held n = λ u. ap (λ (xs : List Vault). (get_or xs u new_vault).held) (arrives l k).vaults
  only_arrived k signed n = λ u. ap (λ (xs : List Vault). (get_or xs u new_vault).signed) (arrives l k).vaults
  only_arrived k (votes Signatures) n = λ m. ap (λ (xs : List Votes). (get_or xs m no_votes).signatures) (arrives l k).votes
  only_arrived k (votes Acknowledgements) n = λ m. ap (λ (xs : List Votes). (get_or xs m no_votes).acknowledgements) (arrives l k).votes
  only_arrived k round n = ((arrives l k).next, (arrives l k).seen)
  only_arrived k histories n = (arrives l k).histories

  -- a snapshot's visit
  pub only_visited : (seen : JobSet) → Only (round ∷ []) w (with_ledger w (visited l seen))
  unfolding visited votes_in
  only_visited seen settings n = refl
  only_visited seen records n = (refl, refl)
  only_visited seen order n = (refl, refl)
  only_visited seen held n = λ u. refl
  only_visited seen signed n = λ u. refl
  only_visited seen (votes column) n = λ k. refl
  only_visited seen round n = absurd (n (inl refl))
  only_visited seen histories n = refl

  -- a client's entry
  pub only_counted : (v : ℕ) (h : History) → Only (histories ∷ []) w (with_ledger w (counted l v h))
  unfolding counted votes_in
  only_counted v h settings n = refl
  only_counted v h records n = (refl, refl)
  only_counted v h order n = (refl, refl)
  only_counted v h held n = λ u. refl
  only_counted v h signed n = λ u. refl
  only_counted v h (votes column) n = λ k. refl
  only_counted v h round n = (refl, refl)
  only_counted v h histories n = absurd (n (inl refl))

  -- a booked record
  pub only_booked : (bytes : List ℕ) → Only (records ∷ []) w (record { ledger = booking l; booked = bytes })
  unfolding booking votes_in
  only_booked bytes settings n = refl
  only_booked bytes records n = absurd (n (inl refl))
  only_booked bytes order n = (refl, refl)
  only_booked bytes held n = λ u. refl
  only_booked bytes signed n = λ u. refl
  only_booked bytes (votes column) n = λ k. refl
  only_booked bytes round n = (refl, refl)
  only_booked bytes histories n = refl

-- ---- and they are all that lasts

-- two lists of a length that have the same elements are the same
same_list_lem : {A : Type 0} (d : A) (xs ys : List A) → length xs ≡ length ys → ((n : ℕ) → get_or xs n d ≡ get_or ys n d) → xs ≡ ys
same_list_lem d [] [] e h = refl
same_list_lem d [] (y ∷ ys) e h = absurd (omega (arith, e))
same_list_lem d (x ∷ xs) [] e h = absurd (omega (arith, e))
same_list_lem d (x ∷ xs) (y ∷ ys) e h = ap₂ ◌∷◌ (h 0) (same_list_lem d xs ys (omega (arith, e)) (λ n. h (suc n)))

module _ {w w' : World} {r r' : Register} (i : Inv w r) (j : Inv w' r') (same : (p : Part) → Same p w w') where
  same_vaults : w'.ledger.vaults ≡ w.ledger.vaults
  same_vaults =
      same_list_lem new_vault _ _ (j.shape.vaults ∙ sym i.shape.vaults)
      (λ v. ap₂ (λ (a b : JobSet). record { held = a; signed = b }) (same held v) (same signed v))

  same_votes : w'.ledger.votes ≡ w.ledger.votes
  unfolding votes_in
  same_votes =
      same_list_lem no_votes _ _ (j.shape.votes ∙ sym i.shape.votes)
      (λ k. ap₂ (λ (a b : ℕ). record { signatures = a; acknowledgements = b }) (same (votes Signatures) k) (same (votes Acknowledgements) k))

  same_world : w' ≡ w
  same_world = λ x. record {
    ledger = record {
      settings = same settings x;
      booked = (same records).0 x;
      arrivals = (same order).0 x;
      next = (same round).0 x;
      seen = (same round).1 x;
      votes = same_votes x;
      order = (same order).1 x;
      vaults = same_vaults x;
      histories = same histories x;
    };
    booked = (same records).1 x;
  }

pub all_parts : AllParts
all_parts n b faulty version lawful es fs same =
    let i = first n b faulty version lawful in
    same_world (along es (start n b faulty version) (new_register version) i) (along fs (start n b faulty version) (new_register version) i) same
