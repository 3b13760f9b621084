-- What is held, recorded, acknowledged and booked only grows, over any list of steps: each change adds one pair to a relation or one record to the
-- booked bytes, and a release touches none of these.
use mathlib.Core.Bool.{Bool, true}
use mathlib.Core.List.{List, [], ◌++◌, ◌∷◌, append_assoc, append-nil}
use mathlib.Core.Path.{◌∙◌, ◌≡◌, ap, refl, sym}
use Prim.Native.Nat.{ℕ}
use native.Mathlib.Omega.{arith}
use Rattle.ledger.proofs.Changes.{Change, Shape, appends, changes, counts, grants, holds, idle, nothing, releases, sees, signs, votes, with_ledger}
use Rattle.ledger.proofs.Demand3.{kept}
use Rattle.ledger.proofs.Effects.{hold_held, hold_votes, release_held, sign_held, sign_votes}
use Rattle.ledger.proofs.Invariant.{Inv}
use Rattle.ledger.proofs.Views.{held_at, voted_added, voted_at}
use Rattle.ledger.specs.Growth.{Grows}
use Rattle.ledger.specs.Register.{Register, feed, is_done}
use Rattle.ledger.specs.State.{booking, counted, visited, voted, votes_in, with_vault}
use Rattle.vaults.specs.declared.Column.{Column}
use Rattle.vaults.specs.declared.Column.TheVariants.{Acknowledgements, Signatures}
use Rattle.ledger.specs.declared.Ledger.{Ledger}
use Rattle.ledger.specs.Worlds.{Event, Request, World, after, after_all, reply_to}

pub grows_same : (w : World) → Grows w w
grows_same w = record {
  held = λ v k h. h;
  signatures = λ v k h. h;
  acknowledgements = λ v k h. h;
  more = [];
  booked = sym (append-nil w.booked);
}

pub grows_on : {a b c : World} → Grows a b → Grows b c → Grows a c
grows_on {a} {b} {c} p q = record {
  held = λ v k h. q.held v k (p.held v k h);
  signatures = λ v k h. q.signatures v k (p.signatures v k h);
  acknowledgements = λ v k h. q.acknowledgements v k (p.acknowledgements v k h);
  more = p.more ++ q.more;
  booked = q.booked ∙ (ap (λ (x : List ℕ). x ++ q.more) p.booked ∙ append_assoc a.booked p.more q.more);
}

-- a change of the ledger alone, by what it does to the relations
grows_ledger : (w : World) (l' : Ledger)
    → ((v k : ℕ) → held_at w.ledger v k ≡ true → held_at l' v k ≡ true)
    → ((c : Column) (k v : ℕ) → voted_at w.ledger c v k ≡ true → voted_at l' c v k ≡ true)
    → Grows w (with_ledger w l')
unfolding held_at voted_at
grows_ledger w l' held voted = record {
  held = held;
  signatures = λ v k. voted Signatures k v;
  acknowledgements = λ v k. voted Acknowledgements k v;
  more = [];
  booked = sym (append-nil w.booked);
}

module _ (w : World) (sh : Shape w.ledger w.booked) where
  abbrev l : Ledger
  l = w.ledger

  -- an equal relation only grows
  same : {f g : ℕ → ℕ → Bool} → g ≡ f → (u m : ℕ) → f u m ≡ true → g u m ≡ true
  same e u m t = ap (λ (f : ℕ → ℕ → Bool). f u m) e ∙ t

  pub grow : (q : Request) (done : Bool) (w' : World) → Change w q done w' → Grows w w'
  unfolding booking counted visited votes_in voted voted_at held_at with_vault
  grow q done w' (nothing p) = grows_same w
  grow q done w' (idle p m) = grows_same w
  grow q done w' (appends bytes e h n) = record {
    held = λ v k h. h;
    signatures = λ v k h. h;
    acknowledgements = λ v k h. h;
    more = bytes;
    booked = refl;
  }
  grow q done w' (signs v k c h u) = grows_ledger w _ (same (sign_held l v k)) (λ d. (sign_votes l v k (omega (arith, c.below, sh.lawful.vaults)) d).old)
  grow q done w' (votes d v k h f b) = grows_ledger w _ (λ u m t. t) (λ e. (voted_added l d v k (omega (arith, h, sh.lawful.vaults)) e).old)
  grow q done w' (holds v k signers c h e) =
      grows_ledger w _ (hold_held l v k (omega (arith, c.below, sh.vaults, sh.lawful.vaults)) (omega (arith, sh.room))).old
      (λ d. (hold_votes l v k (omega (arith, c.below, sh.lawful.vaults)) d).old)
  grow q done w' sees = grows_ledger w _ (λ u m t. t) (λ d m u t. t)
  grow q done w' (releases v k m c s h n) = grows_ledger w _ (same (release_held l v k)) (λ d m u t. t)
  grow q done w' (counts v k client d h) = grows_ledger w _ (λ u m t. t) (λ d m u t. t)
  grow q done w' (grants v k client h c b u) =
      grows_ledger w _ (same (sign_held l v k)) (λ d. (sign_votes l v k (omega (arith, c.below, sh.lawful.vaults)) d).old)

pub grows : (es : List Event) (w : World) (r : Register) → Inv w r → Grows w (after_all w es)
grows [] w r i = grows_same w
grows (e ∷ es) w r i =
    grows_on (grow w i.shape e.request (is_done (reply_to w e).outcome) (after w e) (changes w i.shape e))
    (grows es (after w e) (feed r e.request (is_done (reply_to w e).outcome)) (kept w r i e))
