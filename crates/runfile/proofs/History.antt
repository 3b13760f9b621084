-- A run is one of demand 3's lists. The journal of a run is lent whole: the booked bytes are its first and the rest of it follows them, and a
-- step leaves it as long as it was. So a step of the run is a step of the list, its line tells that step's outcome, and demand 3 holds where
-- the run ends.
use mathlib.Core.Bool.{cond, true}
use mathlib.Core.List.{List, [], ◌++◌, ◌∷◌, append-nil}
use mathlib.Core.Path.{◌∙◌, ◌≡◌, ap, refl, subst, sym}
use Prim.Native.Nat.{◌+◌, ◌-◌, suc, zero, ℕ}
use native.Mathlib.Omega.{arith}
use lib.Dec.{leb}
use lib.ListN.{drop, drop_of_length-le, get_or, length, length-take, replicate, take, take-append-drop}
use lib.Seq.{take-length}
use Rattle.base.proofs.Reflect.{and_true, by_cases}
use Rattle.codec.proofs.Sizes.{place_first}
use Rattle.codec.specs.Codec.{place_of}
use Rattle.ledger.proofs.Demand3.{demand3}
use Rattle.federation.proofs.Lawful.{reflect_lawful}
use Rattle.ledger.proofs.Effects.{applied_settings}
use Rattle.ledger.proofs.Places.{examined_length, proposed}
use Rattle.journal.proofs.Putting.{put_length}
use Rattle.ledger.specs.Demand3.{Besides, SingleRegister}
use Rattle.federation.specs.Federation.{Lawful}
use Rattle.federation.specs.declared.Settings.{Settings}
use Rattle.ledger.specs.Meaning.{Proposed, failed, full, insane, known, new}
use Rattle.ledger.specs.State.{new_ledger, version_of}
use Rattle.ledger.specs.Steps.{journal_after, journal_with, propose_decision}
use Rattle.ledger.specs.Worlds.{Request, client_preflight, commit, dependencies, equivocating, faulty_vote, generations, preflight, propose, release, show}
use Rattle.ledger.specs.Worlds.{snapshot}
use Rattle.ledger.specs.Worlds.{World, after as after_one_event, after_all, left_by, lend, lent, overlay, start, step_of}
use Rattle.ledger.specs.declared.Decision.{Decision}
use Rattle.ledger.specs.declared.Ledger.{Ledger}
use Rattle.runfile.specs.History.{Item, RunKeeps, begun, event_of, events, item_of, items_next, register_of, steps, told, world_of, world_with}
use Rattle.runfile.proofs.Turns.{runs_out}
use Rattle.runfile.specs.Run.{Run, begins, command_of, ended, is_header, journal_size, last_from, longest, opened, opens, opens_up_to, run_next, turn}
use Rattle.runfile.specs.Run.{text_from, text_next, text_of, text_up_to, version_in}
use Rattle.runfile.specs.Steps.{Command, draw, journal_by, reply_of, request, unreadable, word_at}

-- ---- a step leaves the journal as long as it was
proposed_length : (l : Ledger) (journal bytes : List ℕ) (d : Decision) → Proposed l journal bytes d
    → length (journal_with d.change l.booked (version_of l) journal bytes) ≡ length journal
proposed_length l journal bytes d (insane n) = refl
proposed_length l journal bytes d (failed why s e) = refl
proposed_length l journal bytes d (known k h) = refl
proposed_length l journal bytes d (full h) = refl
proposed_length l journal bytes d (new h) = put_length (version_of l) l.booked journal bytes (examined_length (version_of l) bytes h.passes) h.fits

left_length : (l : Ledger) (journal : List ℕ) (q : Request) → length (left_by l journal q) ≡ length journal
unfolding journal_after
left_length l journal (propose bytes) = proposed_length l journal bytes (propose_decision l journal bytes) (proposed l journal bytes)
left_length l journal (preflight v k) = refl
left_length l journal (commit v k signers) = refl
left_length l journal (faulty_vote c v k) = refl
left_length l journal (show k) = refl
left_length l journal (generations k) = refl
left_length l journal snapshot = refl
left_length l journal (release v job rival) = refl
left_length l journal (dependencies v job) = refl
left_length l journal (client_preflight v job client) = refl
left_length l journal equivocating = refl

-- ---- what is lent, and what is booked afterwards
pub lent_whole : (m : ℕ) (journal : List ℕ) → lend (take m journal) (length journal) (drop m journal) ≡ journal
unfolding lend
lent_whole m journal = ap (take (length journal)) (take-append-drop m journal) ∙ take-length journal

laid_over : (m : ℕ) (journal left : List ℕ) → length left ≡ length journal → overlay left (take m journal) ≡ left
unfolding overlay
laid_over m journal left e =
    let none = drop_of_length-le (take m journal) {i = length left} (omega (arith, e, length-take m journal)) in
    ap (λ (t : List ℕ). left ++ t) none ∙ append-nil left

-- ---- one step of the run is one of the list
module _ (r : Run) where
  whole : (q : Request) → lent (world_of r) (event_of r q) ≡ r.journal
  whole q = lent_whole (place_of (version_of r.ledger) r.ledger.booked) r.journal

  -- a step leaves the version
  same_version : (q : Request) → version_of (step_of r.ledger r.journal q).ledger ≡ version_of r.ledger
  same_version q = ap (λ (s : Settings). s.version) (applied_settings r.ledger _ _ _)

  abbrev at_version : ℕ → Ledger → List ℕ → World
  at_version version l journal = record { ledger = l; booked = take (place_of version l.booked) journal }

  after_event : (q : Request) → after_one_event (world_of r) (event_of r q) ≡ world_with (step_of r.ledger r.journal q).ledger (left_by r.ledger r.journal q)
  unfolding after_one_event
  after_event q =
      ap (λ (j : List ℕ). at_version (version_of r.ledger) (step_of r.ledger j q).ledger (overlay (left_by r.ledger j q) (world_of r).booked)) (whole q)
      ∙ ap (λ (version : ℕ). at_version version (step_of r.ledger r.journal q).ledger (overlay (left_by r.ledger r.journal q) (world_of r).booked))
      (sym (same_version q))
      ∙ ap (world_with (step_of r.ledger r.journal q).ledger)
      (laid_over (place_of (version_of r.ledger) r.ledger.booked) r.journal (left_by r.ledger r.journal q)
      (left_length r.ledger r.journal q))

  -- the world after a command
  abbrev world_by : Command → World
  world_by c = world_with (reply_of r.ledger r.journal c).ledger (journal_by r.ledger r.journal c)

  step_world : (c : Command) (items : List Item) → after_all (world_of r) (events (item_of r c ∷ items)) ≡ after_all (world_by c) (events items)
  step_world (request q) items = ap (λ (w : World). after_all w (events items)) (after_event q)
  step_world (draw u) items = refl
  step_world unreadable items = refl

  step_told : (c : Command) (items : List Item) (k : ℕ)
      → told k (world_of r) (item_of r c ∷ items) ≡ text_of (k + 1) r.ledger r.journal c ++ told (k + 1) (world_by c) items
  step_told (request q) items k =
      ap (λ (j : List ℕ). text_of (k + 1) r.ledger j (request q) ++ told (k + 1) (after_one_event (world_of r) (event_of r q)) items) (whole q)
      ∙ ap (λ (w : World). text_of (k + 1) r.ledger r.journal (request q) ++ told (k + 1) w items) (after_event q)
  step_told (draw u) items k = refl
  step_told unreadable items k = refl

-- ---- the whole run
-- the list of a run's next n steps leads where the run comes, and its answers are what the run prints
record Follows (n : ℕ) (input : List ℕ) (r : Run) : Type 0 where
  world : after_all (world_of r) (events (items_next n input r)) ≡ world_of (run_next n input r)
  text : text_next n input r ≡ told r.count (world_of r) (items_next n input r)

module _ (n : ℕ) (input : List ℕ) (r : Run) (f : Follows n input (turn input r)) where
  abbrev command : Command
  command = command_of input r

  abbrev later : List Item
  later = items_next n input (turn input r)

  abbrev said : List ℕ
  said = text_of (r.count + 1) r.ledger r.journal command

  next : Follows (suc n) input r
  unfolding items_next run_next text_next turn
  next = record {
    world = by_cases (λ b. after_all (world_of r) (events (cond b [] (item_of r command ∷ later))) ≡ world_of (cond b r (run_next n input (turn input r))))
        (ended input r) (λ e. refl) (λ e. step_world r command later ∙ f.world);
    text = by_cases (λ b. cond b [] (said ++ text_next n input (turn input r)) ≡ told r.count (world_of r) (cond b [] (item_of r command ∷ later)))
        (ended input r) (λ e. refl)
        (λ e. ap (λ (t : List ℕ). said ++ t) f.text ∙ sym (step_told r command later r.count));
  }

follows : (n : ℕ) (input : List ℕ) (r : Run) → Follows n input r
unfolding items_next run_next text_next
follows zero input r = record { world = refl; text = refl }
follows (suc n) input r = next n input r (follows n input (turn input r))

pub opens_lawful : (input : List ℕ) → opens input ≡ true → Lawful (opened input).settings
unfolding opens_up_to
opens_lawful input o = (reflect_lawful (opened input).settings).sound (and_true (is_header input) _ (and_true (leb (length input) longest) _ o).1).1

-- nothing is booked where a run begins
begun_world : (input : List ℕ) → begun input ≡ world_of (begins input)
unfolding start opened new_ledger
begun_world input =
    ap (λ (n : ℕ). record { ledger = opened input; booked = take n (replicate journal_size 0) }) (sym (place_first (version_in input)))

-- demand 3 of the run of any input that check 1 lets through
pub run_keeps : RunKeeps
unfolding text_up_to text_from last_from start opened new_ledger
run_keeps input o =
    let f = follows (length input - (begins input).count) input (begins input) in
    let d = demand3 (get_or input 5 0) (get_or input 6 0) (word_at input 7) (version_in input) (opens_lawful input o) (events (steps input)) in
    let there = ap (λ (w : World). after_all w (events (steps input))) (begun_world input) ∙ f.world in
    record {
      all = runs_out (length input - (begins input).count) input (begins input) (omega arith);
      world = there;
      text = simp o (f.text ∙ ap (λ (w : World). told 0 w (steps input)) (sym (begun_world input)));
      holds = subst (λ (w : World). SingleRegister w (register_of input)) there d.0;
      besides = subst (λ (w : World). Besides (opened input).settings w (register_of input)) there d.1;
      never_one = d.2;
    }
