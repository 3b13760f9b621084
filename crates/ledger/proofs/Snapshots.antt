-- What a step does to the snapshot: a visit makes its own change, and every other step leaves both the jobs seen and whose turn it is.
use mathlib.Core.Bool.{Bool, cond, false, true, true≢false}
use mathlib.Core.List.{List, [], ◌++◌, ◌∷◌}
use mathlib.Core.Path.{◌≡◌, refl, subst, sym}
use Rattle.ledger.proofs.Changes.{Change, Idle, Shape, appends, changes, counts, grants, holds, idle, nothing, releases}
use Rattle.ledger.proofs.Changes.{seen_next, sees, shape_sane, signs, votes}
use Rattle.ledger.proofs.Effects.{hold_next, hold_seen}
use Rattle.ledger.proofs.Gates.{reflect_sane}
use Rattle.ledger.specs.Decisions.{snapshotting}
use Rattle.ledger.specs.Register.{is_done}
use Rattle.ledger.specs.Rounds.{is_snapshot}
use Rattle.ledger.specs.State.{booking, counted, visited, voted, with_vault}
use Rattle.ledger.specs.Steps.{sane_gate, snapshot_decision}
use Rattle.ledger.specs.Worlds.{
  Event,
  Request,
  World,
  after,
  after_all,
  client_preflight,
  commit,
  dependencies,
  equivocating,
  faulty_vote,
  generations,
  preflight,
  propose,
  release,
  reply_to,
  show,
  snapshot,
}
use Rattle.ledger.specs.declared.Ledger.{Ledger}

pub record Untouched (l l' : Ledger) : Type 0 where
  pub next : l'.next ≡ l.next
  pub seen : l'.seen ≡ l.seen

-- a visit that is answered 0 makes its own change, and every other step leaves the snapshot
abbrev Turned : World → Bool → Bool → World → Type 0
Turned w visit done w' =
    cond visit (done ≡ true → w'.ledger ≡ visited w.ledger (seen_next w.ledger)) (Untouched w.ledger w'.ledger)

untouched : (w : World) (visit done : Bool) → (visit ≡ true → done ≡ true → ⊥) → Turned w visit done w
untouched w true done n = λ d. absurd (n refl d)
untouched w false done n = record { next = refl; seen = refl }

pub is_snapshot_lem : (q : Request) → is_snapshot q ≡ true → q ≡ snapshot
is_snapshot_lem (propose bytes) e = absurd (true≢false (sym e))
is_snapshot_lem (preflight v k) e = absurd (true≢false (sym e))
is_snapshot_lem (commit v k signers) e = absurd (true≢false (sym e))
is_snapshot_lem (faulty_vote c v k) e = absurd (true≢false (sym e))
is_snapshot_lem (show k) e = absurd (true≢false (sym e))
is_snapshot_lem (generations k) e = absurd (true≢false (sym e))
is_snapshot_lem snapshot e = refl
is_snapshot_lem (release v k rival) e = absurd (true≢false (sym e))
is_snapshot_lem (dependencies v k) e = absurd (true≢false (sym e))
is_snapshot_lem (client_preflight v k client) e = absurd (true≢false (sym e))
is_snapshot_lem equivocating e = absurd (true≢false (sym e))

turned : (w : World) (q : Request) (done : Bool) (w' : World) → Change w q done w' → Turned w (is_snapshot q) done w'
unfolding booking counted voted with_vault
turned w q done w' (nothing p) = untouched w (is_snapshot p) false (λ _ d. true≢false (sym d))
turned w q done w' (idle p m) = untouched w (is_snapshot p) true (λ e _. subst (Idle w) (is_snapshot_lem p e) m)
turned w q done w' (appends bytes e h n) = record { next = refl; seen = refl }
turned w q done w' (signs v k c h u) = record { next = refl; seen = refl }
turned w q done w' (votes d v k h f b) = record { next = refl; seen = refl }
turned w q done w' (holds v k signers c h e) = record { next = hold_next w.ledger v k; seen = hold_seen w.ledger v k }
turned w q done w' sees = λ _. refl
turned w q done w' (releases v k m c s h n) = record { next = refl; seen = refl }
turned w q done w' (counts v k client d h) = record { next = refl; seen = refl }
turned w q done w' (grants v k client h c b u) = record { next = refl; seen = refl }

-- a sane ledger answers every visit with 0
granted : (w : World) → Shape w.ledger w.booked → (e : Event) → e.request ≡ snapshot → is_done (reply_to w e).outcome ≡ true
unfolding snapshot_decision snapshotting sane_gate
granted w sh e q = simp (q, (reflect_sane w.ledger).complete (shape_sane sh))

-- so its change is made
pub made : (w : World) → Shape w.ledger w.booked → (e : Event) → is_snapshot e.request ≡ true
    → (after w e).ledger ≡ visited w.ledger (seen_next w.ledger)
made w sh e q =
    subst (λ (b : Bool). Turned w b (is_done (reply_to w e).outcome) (after w e)) q
    (turned w e.request (is_done (reply_to w e).outcome) (after w e) (changes w sh e)) (granted w sh e (is_snapshot_lem e.request q))

pub left : (w : World) → Shape w.ledger w.booked → (e : Event) → is_snapshot e.request ≡ false → Untouched w.ledger (after w e).ledger
left w sh e q =
    subst (λ (b : Bool). Turned w b (is_done (reply_to w e).outcome) (after w e)) q
    (turned w e.request (is_done (reply_to w e).outcome) (after w e) (changes w sh e))

pub after_append : (xs ys : List Event) (w : World) → after_all w (xs ++ ys) ≡ after_all (after_all w xs) ys
after_append [] ys w = refl
after_append (x ∷ xs) ys w = after_append xs ys (after w x)
