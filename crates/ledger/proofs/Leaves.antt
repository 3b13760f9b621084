-- What a step that is answered 0 leaves. Each way of Acts.antt is one or more effects, of which Parts.antt says what they move; the value is the total of a set
-- that the effect has just stored.
use mathlib.Core.Bool.{Bool, ◌&&◌, cond, false, not, true, true≢false}
use mathlib.Core.List.{List, [], ◌∷◌}
use mathlib.Core.Logic.{◌≢◌, ◌⊎◌, inl, inr, ⊎_elim}
use mathlib.Core.Path.{◌∙◌, ◌≡◌, ap, refl, subst, sym}
use Prim.Native.Nat.{◌<◌, ◌≤◌, ℕ}
use native.Mathlib.Numerals.{add-one}
use native.Mathlib.Omega.{arith}
use lib.Count.{ones}
use lib.Dec.{eqb, ltb}
use lib.ListN.{get_or, length, take}
use lib.Seq.{get_or-set_other, get_or-set_same}
use borrow.Author.Tests.{ltb-true}
use Rattle.base.proofs.Members.{in_get_d, reflect_member}
use Rattle.base.proofs.Reflect.{reflect_eq, refuted}
use Rattle.base.specs.Lists.{In, any_in}
use Rattle.base.specs.Reflect.{Reflects}
use Rattle.outcome.specs.Figures.{Outcome, value_of}
use Rattle.std.specs.Prelude.{Ok, Err}
use Rattle.outcome.specs.declared.Refusal.{Refusal}
use Rattle.outcome.specs.declared.Refusal.TheVariants.{Full, Settings as BadSettings}
use Rattle.codec.specs.Codec.{place_of}
use Rattle.sets.specs.Bits.{with_member}
use Rattle.job_sets.proofs.Jobs.{job_without_same}
use Rattle.job_sets.specs.Jobs.{job_count, job_has}
use Rattle.journal.specs.Journal.{inside_of, job_at}
use Rattle.generations.specs.Generations.{age_in}
use Rattle.record.specs.declared.Job.{Job}
use Rattle.quota.specs.Quota.{history_place, is_client, remembered}
use Rattle.snapshot.proofs.Visits.{begins_anew, goes_on, sees_held, sees_only, sees_still}
use Rattle.vaults.specs.Vaults.{holding, new_vault, signing, unsigning}
use Rattle.vaults.specs.Votes.{no_votes}
use Rattle.vaults.specs.declared.Column.{Column}
use Rattle.vaults.specs.declared.Column.TheVariants.{Acknowledgements, Signatures}
use Rattle.vaults.specs.declared.Vault.{Vault}
use Rattle.vaults.specs.declared.Votes.{Votes}
use Rattle.ledger.proofs.Acts.{Act, ages, asks, asks_again, depends, holds, holds_again, names, releases, shows, signs, signs_again, visits, votes}
use Rattle.ledger.proofs.Acts.{act_client, act_commit, act_dependencies, act_equivocating, act_generations, act_preflight, act_release, act_show}
use Rattle.ledger.proofs.Acts.{act_snapshot, act_vote}
use Rattle.ledger.proofs.Changes.{released_by, seen_next, signed_by, slot_tabled, table_of, unknown, with_ledger}
use Rattle.ledger.proofs.Changes.{held as held_here}
use Rattle.ledger.proofs.Demand3.{kept}
use Rattle.ledger.proofs.Effects.{hold_acked, hold_held, release_signed, sign_recorded, sign_signed}
use Rattle.ledger.proofs.Holders.{status_means}
use Rattle.ledger.proofs.Invariant.{Inv, in_vaults, in_votes, is_job, is_vault}
use Rattle.ledger.proofs.Lending.{grown_bytes, jobs_read, kept_bytes, records_length}
use Rattle.ledger.proofs.Parts.{joins, joins_same, joins_turned, only_arrived, only_counted, only_held, only_on, only_signed, only_visited}
use Rattle.ledger.proofs.Parts.{only_booked, only_voted, same_refl}
use Rattle.ledger.proofs.Places.{examined_length, proposed}
use Rattle.ledger.proofs.Quota.{apart, place_below}
use Rattle.ledger.proofs.Views.{arrives, held_at, signed_at, voted_grown, voted_at}
use Rattle.ledger.specs.Decisions.{history_with, snapshotting}
use Rattle.ledger.specs.Demand2.{ByClientPreflight, ByCommit, ByFaultyVote, ByPreflight, ByRelease, BySnapshot, Leaves, Numbered}
use Rattle.ledger.specs.Demand3.{booked_job}
use Rattle.ledger.specs.Meaning.{KnownAt, Proposed, Status, failed, full, insane, known, new}
use Rattle.ledger.specs.Parts.{Arrival, Joins, Only, has_held, has_signed, has_voted, histories, held, order, signed, votes_on}
use Rattle.ledger.specs.Parts.{votes as votes_part}
use Rattle.ledger.specs.Register.{Register, feed, feed_commit, is_admissible, is_done, stopped, taking}
use Rattle.ledger.specs.State.{applied, arrived, booking, counted, history_at, vault_at, version_of, visited, voted, votes_at, votes_in, with_vault}
use Rattle.ledger.specs.Steps.{journal_after, journal_with, propose_decision}
use Rattle.ledger.specs.Worlds.{Event, Request, World, after, client_preflight, commit, dependencies, equivocating, faulty_vote, generations, job_in}
use Rattle.ledger.specs.Worlds.{left_by, lend, overlay, preflight, propose, release, reply_to, show, snapshot, step_of, vault_in}
use Rattle.ledger.specs.declared.Decision.{Decision}
use Rattle.ledger.specs.declared.History.{History}
use Rattle.ledger.specs.declared.Ledger.{Ledger}

-- a step carried out with the value
abbrev done : ℕ → Outcome
done value = Ok value

-- the value that an answer carries
answered : (a value : ℕ) → done a ≡ Ok value → value ≡ a
answered a value e = sym (ap value_of e)

module _ {w : World} {r : Register} (i : Inv w r) where
  abbrev l : Ledger
  l = w.ledger

  -- the set that a vote leaves, for its column
  stored : (l' : Ledger) (c : Column) (v k : ℕ) → k < length l'.votes → votes_in (voted l' c v k) c k ≡ with_member 16 (votes_in l' c k) v
  unfolding votes_in voted
  stored l' Signatures v k h = ap (λ (x : Votes). x.signatures) (get_or-set_same l'.votes k _ no_votes h)
  stored l' Acknowledgements v k h = ap (λ (x : Votes). x.acknowledgements) (get_or-set_same l'.votes k _ no_votes h)

  -- ---- a correct vault signs
  module _ (v k : ℕ) (hv : v < l.settings.n) (hk : k < l.booked) where
    abbrev signing_world : World
    signing_world = with_ledger w (signed_by l v k)

    sign_joins : Joins (has_signed w) (has_signed signing_world) v k
    unfolding signed_at
    sign_joins = joins (sign_signed l v k (in_vaults i v hv) (is_job i k hk))

    record_joins : Joins (has_voted w Signatures) (has_voted signing_world Signatures) v k
    unfolding voted_at
    record_joins = joins_turned (sign_recorded l v k (in_votes i k hk) (is_vault i v hv))

    sign_only : Only (signed ∷ votes_part Signatures ∷ []) w signing_world
    unfolding signing
    sign_only =
        only_on (signed ∷ []) (votes_part Signatures ∷ []) w (with_ledger w (with_vault l v (signing (vault_at l v) k))) signing_world
        (only_signed w v (signing (vault_at l v) k) refl)
        (only_voted (with_ledger w (with_vault l v (signing (vault_at l v) k))) Signatures v k)

    sign_count : ones (with_member 16 (votes_in l Signatures k) v) ≡ votes_on signing_world Signatures k
    unfolding with_vault votes_in
    sign_count = ap ones (sym (stored (with_vault l v (signing (vault_at l v) k)) Signatures v k (in_votes i k hk)))

    by_preflight : (value : ℕ) → has_signed w v k ≡ false → done (ones (with_member 16 (votes_in l Signatures k) v)) ≡ Ok value
        → ByPreflight w signing_world v k value
    by_preflight value s e = record {
      signs = sign_joins;
      recorded = record_joins;
      only = sign_only;
      again = λ t. absurd (true≢false (sym t ∙ s));
      value = answered _ value e ∙ sign_count;
    }

  -- a job signed before has its signature recorded
  signed_recorded : (v k : ℕ) → has_signed w v k ≡ true → has_voted w Signatures v k ≡ true
  unfolding signed_at voted_at
  signed_recorded v k s = i.safe.backed v k s

  by_preflight_again : (v k value : ℕ) → has_signed w v k ≡ true → done (votes_on w Signatures k) ≡ Ok value → ByPreflight w w v k value
  by_preflight_again v k value s e = record {
    signs = joins_same (has_signed w) v k s;
    recorded = joins_same (has_voted w Signatures) v k (signed_recorded v k s);
    only = λ p n. same_refl p w;
    again = λ _. refl;
    value = answered _ value e;
  }

  -- ---- a client's entry
  module _ (v client : ℕ) (hv : v < l.settings.n) (hc : is_client client ≡ true) (x : World) (same : x.ledger.histories ≡ l.histories) (fresh : Bool) where
    abbrev entry : History
    entry = history_with client (history_at l v client) fresh

    entered_once : history_at (counted x.ledger v entry) v client ≡ remembered (history_at l v client) fresh
    unfolding counted history_at
    entered_once =
        get_or-set_same x.ledger.histories (history_place v client) _ 0
        (omega (arith, place_below v client, ap length same, i.shape.histories))

    turned_round : (u c : ℕ) → (u ≢ v) ⊎ (c ≢ client) → (v ≢ u) ⊎ (client ≢ c)
    turned_round u c (inl n) = inl (λ e. n (sym e))
    turned_round u c (inr n) = inr (λ e. n (sym e))

    other_histories : (u c : ℕ) → u < l.settings.n → c < 8 → (u ≢ v) ⊎ (c ≢ client) → history_at (counted x.ledger v entry) u c ≡ history_at l u c
    unfolding counted history_at is_client
    other_histories u c hu hd n =
        get_or-set_other x.ledger.histories (history_place v client) (history_place u c) _ 0
        (apart v client u c (is_vault i v hv) (is_vault i u hu) (ltb-true client 8 hc) hd (turned_round u c n))
        ∙ ap (λ (hs : List ℕ). get_or hs (history_place u c) 0) same

  sign_histories : (v k : ℕ) → (signed_by l v k).histories ≡ l.histories
  unfolding voted with_vault
  sign_histories v k = refl

  by_client : (v k client value : ℕ) → v < l.settings.n → k < l.booked → is_client client ≡ true → has_signed w v k ≡ false
      → done (ones (with_member 16 (votes_in l Signatures k) v)) ≡ Ok value
      → ByClientPreflight w (with_ledger w (counted (signed_by l v k) v (history_with client (history_at l v client) true))) v k client value
  unfolding counted votes_in
  by_client v k client value hv hk hc s e =
      let x = with_ledger w (signed_by l v k) in
      let p = by_preflight v k hv hk value s e in
      record {
        signs = p.signs;
        recorded = p.recorded;
        counted = subst (λ (b : Bool). history_at (counted x.ledger v (history_with client (history_at l v client) true)) v client
            ≡ remembered (history_at l v client) (not b)) (sym s) (entered_once v client hv hc x (sign_histories v k) true);
        others = other_histories v client hv hc x (sign_histories v k) true;
        only = only_on (signed ∷ votes_part Signatures ∷ []) (histories ∷ []) w x
            (with_ledger w (counted x.ledger v (history_with client (history_at l v client) true))) p.only (only_counted x v _);
        again = λ t. absurd (true≢false (sym t ∙ s));
        value = p.value;
      }

  by_client_again : (v k client value : ℕ) → v < l.settings.n → is_client client ≡ true → has_signed w v k ≡ true
      → done (votes_on w Signatures k) ≡ Ok value
      → ByClientPreflight w (with_ledger w (counted l v (history_with client (history_at l v client) false))) v k client value
  unfolding counted votes_in
  by_client_again v k client value hv hc s e =
      let p = by_preflight_again v k value s e in
      record {
        signs = p.signs;
        recorded = p.recorded;
        counted = subst (λ (b : Bool). history_at (counted l v (history_with client (history_at l v client) false)) v client
            ≡ remembered (history_at l v client) (not b)) (sym s) (entered_once v client hv hc w refl false);
        others = other_histories v client hv hc w refl false;
        only = λ q n. only_counted w v _ q (λ m. n (inr (inr m)));
        again = λ t. only_counted w v _;
        value = p.value;
      }

  -- ---- a correct vault holds
  module _ (k : ℕ) where
    taken? : Reflects (any_in (eqb k) r.taken) (In k r.taken)
    taken? = reflect_member k r.taken (reflect_eq k)

    -- what the register has taken after a commit, by whether it runs on
    taken_then : (a : Bool) → any_in (eqb k) r.taken ≡ a → (b : Bool)
        → (cond a r (cond b (taking r k) (stopped r))).running ≡ true → Arrival r.taken (cond a r (cond b (taking r k) (stopped r))).taken k
    unfolding taking stopped
    taken_then true e b h = record { again = λ m. refl; first = λ n. absurd (n (taken?.sound e)) }
    taken_then false e true h = record { again = λ m. absurd (refuted taken? e m); first = λ n. refl }
    taken_then false e false h = absurd (true≢false (sym h))

    -- the register's list is the arrival order, and it never stops
    arrival : (v signers : ℕ) (w' : World) → Inv w' (feed r (commit v k signers) true) → Arrival (arrived l) (arrived w'.ledger) k
    unfolding feed_commit
    arrival v signers w' j =
        let fed : feed r (commit v k signers) true ≡ feed_commit r k = simp i.running in
        let j' : Inv w' (feed_commit r k) = subst (λ (x : Register). Inv w' x) fed j in
        subst (λ (ks : List ℕ). Arrival ks (arrived w'.ledger) k) i.taken
        (subst (λ (ks : List ℕ). Arrival r.taken ks k) j'.taken
        (taken_then (any_in (eqb k) r.taken) refl (ltb k (length r.table) && is_admissible r (get_or r.table k [])) j'.running))

  module _ (v k : ℕ) (hv : v < l.settings.n) (hk : k < l.booked) where
    abbrev receiving_vault : Ledger
    receiving_vault = with_vault l v (holding (vault_at l v) k)

    abbrev acknowledging : Ledger
    acknowledging = voted receiving_vault Acknowledgements v k

    abbrev holding_world : World
    holding_world = with_ledger w (held_here l v k)

    hold_joins : Joins (has_held w) (has_held holding_world) v k
    unfolding held_at
    hold_joins = joins (hold_held l v k (in_vaults i v hv) (is_job i k hk))

    acknowledge_joins : Joins (has_voted w Acknowledgements) (has_voted holding_world Acknowledgements) v k
    unfolding voted_at
    acknowledge_joins = joins_turned (hold_acked l v k (in_votes i k hk) (is_vault i v hv))

    hold_only : Only (held ∷ votes_part Acknowledgements ∷ order ∷ []) w holding_world
    unfolding holding held_here
    hold_only =
        only_on (held ∷ votes_part Acknowledgements ∷ []) (order ∷ []) w (with_ledger w acknowledging) holding_world
        (only_on (held ∷ []) (votes_part Acknowledgements ∷ []) w (with_ledger w receiving_vault) (with_ledger w acknowledging)
        (only_held w v (holding (vault_at l v) k) refl) (only_voted (with_ledger w receiving_vault) Acknowledgements v k))
        (only_arrived (with_ledger w acknowledging) k)

    hold_count : ones (with_member 16 (votes_in l Acknowledgements k) v) ≡ votes_on holding_world Acknowledgements k
    unfolding with_vault votes_in held_here
    hold_count =
        ap ones (sym (stored receiving_vault Acknowledgements v k (in_votes i k hk)))
        ∙ ap (λ (xs : List Votes). ones (get_or xs k no_votes).acknowledgements) (sym (arrives acknowledging k).votes)

    by_commit : (signers value : ℕ) → has_held w v k ≡ false → done (ones (with_member 16 (votes_in l Acknowledgements k) v)) ≡ Ok value
        → Inv holding_world (feed r (commit v k signers) true) → ByCommit w holding_world v k value
    by_commit signers value s e j = record {
      holds = hold_joins;
      recorded = acknowledge_joins;
      arrives = arrival k v signers holding_world j;
      only = hold_only;
      again = λ t. absurd (true≢false (sym t ∙ s));
      value = answered _ value e ∙ hold_count;
    }

  -- a held job has arrived
  by_commit_again : (v k value : ℕ) → has_voted w Acknowledgements v k ≡ true → has_held w v k ≡ true → done (votes_on w Acknowledgements k) ≡ Ok value
      → ByCommit w w v k value
  unfolding held_at
  by_commit_again v k value a s e = record {
    holds = joins_same (has_held w) v k s;
    recorded = joins_same (has_voted w Acknowledgements) v k a;
    arrives = record { again = λ _. refl; first = λ n. absurd (n (subst (λ (ks : List ℕ). In k ks) i.taken (i.held_taken v k s))) };
    only = λ p n. same_refl p w;
    again = λ _. refl;
    value = answered _ value e;
  }

  -- ---- a faulty vault votes
  by_vote : (c : Column) (v k value : ℕ) → v < l.settings.n → k < l.booked → done (ones (with_member 16 (votes_in l c k) v)) ≡ Ok value
      → ByFaultyVote w (with_ledger w (voted l c v k)) c v k value
  unfolding voted_at
  by_vote c v k value hv hk e = record {
    recorded = joins_turned (voted_grown l c v k (in_votes i k hk) (is_vault i v hv));
    only = only_voted w c v k;
    value = answered _ value e ∙ ap ones (sym (stored l c v k (in_votes i k hk)));
  }

  -- ---- a snapshot's visit
  by_snapshot : (value : ℕ) → done (job_count (seen_next l)) ≡ Ok value → BySnapshot w (with_ledger w (visited l (seen_next l))) value
  unfolding visited
  by_snapshot value e =
      let shown = (vault_at l l.next).held in
      record {
        kept = λ k n h. sees_still l.settings l.next l.seen shown k (positive n) h;
        seen = λ k c h. sees_held l.settings l.next l.seen shown k c.sound h;
        genuine = λ k h. ⊎_elim (λ a. inl (nonzero a.0, a.1)) (λ b. inr (record { below = i.shape.next; sound = b.0 }, b.1))
            (sees_only l.settings l.next l.seen shown k h);
        next = λ h. goes_on l.settings.n l.next (omega (arith, h)) ∙ add-one l.next;
        anew = λ h. begins_anew l.settings.n l.next (omega (arith, h));
        only = only_visited w (seen_next l);
        value = answered _ value e;
      }
    where
      positive : l.next ≢ 0 → 0 < l.next
      positive n = omega (arith, n)

      nonzero : 0 < l.next → l.next ≢ 0
      nonzero h e = omega (arith, h, e)

  -- ---- a release
  by_release : (v k value : ℕ) → v < l.settings.n → has_signed w v k ≡ true → done (votes_on w Signatures k) ≡ Ok value
      → ByRelease w (with_ledger w (released_by l v k)) v k value
  unfolding with_vault unsigning signed_at votes_in
  by_release v k value hv s e =
      let left = release_signed l v k in
      record {
        was = s;
        unsigned = record {
          gone = ap (λ (x : Vault). job_has x.signed k) (get_or-set_same l.vaults v (unsigning (vault_at l v) k) new_vault (in_vaults i v hv))
              ∙ job_without_same (vault_at l v).signed k;
          kept = left.cases;
          only = left.old;
        };
        only = only_signed w v (unsigning (vault_at l v) k) refl;
        value = answered _ value e;
      }

  -- ---- each way of a step that is answered 0, by the ledger that it leaves
  module _ (acknowledged : (v k : ℕ) → has_held w v k ≡ true → has_voted w Acknowledgements v k ≡ true) (journal : List ℕ)
      (read : place_of (version_of l) l.booked ≤ length journal → job_at (version_of l) journal l.booked ≡ booked_job w) where
    abbrev ledger_left : Request → Decision → Ledger
    ledger_left q d = applied l d.change (vault_in q) (job_in q)

    leave : (q : Request) (d : Decision) → Act l journal q d → (value : ℕ) → d.outcome ≡ Ok value → Inv (with_ledger w (ledger_left q d)) (feed r q true)
        → Leaves w (with_ledger w (ledger_left q d)) q value
    unfolding applied snapshotting held_here
    leave q d (signs_again v k h s) value e j = by_preflight_again v k value s e
    leave q d (signs v k h s) value e j = by_preflight v k h.vault h.known.below value s e
    leave q d (holds_again v k signers h s) value e j = by_commit_again v k value (acknowledged v k s) s e
    leave q d (holds v k signers h s) value e j = by_commit v k h.vault h.known.below signers value s e j
    leave q d (votes c v k h) value e j = by_vote c v k value h.vault h.known.below e
    leave q d visits value e j = by_snapshot value e
    leave q d (releases v k rival h s) value e j = by_release v k value h.vault s e
    leave q d (asks_again v k client h c s) value e j = by_client_again v k client value h.vault c s e
    leave q d (asks v k client h c s) value e j = by_client v k client value h.vault h.known.below c s e
    leave q d (shows k) value e j =
        record { same = refl; value = subst (Status l.settings (votes_at l k)) (sym (answered _ value e)) (status_means l.settings (votes_at l k)) }
    leave q d (ages k h) value e j =
        record { same = refl; value = answered _ value e ∙ ap (λ (job : ℕ → Job). age_in job l.order l.arrivals k) (read h.inside) }
    leave q d (depends v k x) value e j = refl
    leave q d (names x) value e j = refl

    -- none of them books a record
    unbooked : (q : Request) (d : Decision) → Act l journal q d → (ledger_left q d).booked ≡ l.booked
    unfolding applied snapshotting counted voted visited with_vault
    unbooked q d (signs_again v k h s) = refl
    unbooked q d (signs v k h s) = refl
    unbooked q d (holds_again v k signers h s) = refl
    unbooked q d (holds v k signers h s) = (arrives (voted (with_vault l v (holding (vault_at l v) k)) Acknowledgements v k) k).booked
    unbooked q d (votes c v k h) = refl
    unbooked q d visits = refl
    unbooked q d (releases v k rival h s) = refl
    unbooked q d (asks_again v k client h c s) = refl
    unbooked q d (asks v k client h c s) = refl
    unbooked q d (shows k) = refl
    unbooked q d (ages k h) = refl
    unbooked q d (depends v k x) = refl
    unbooked q d (names x) = refl

  -- ---- the world that it leaves
  module _ (acknowledged : (v k : ℕ) → has_held w v k ≡ true → has_voted w Acknowledgements v k ≡ true) (size : ℕ) (beyond : List ℕ) where
    abbrev journal : List ℕ
    journal = lend w.booked size beyond

    abbrev world_left : Ledger → List ℕ → World
    world_left l' js = record { ledger = l'; booked = take (place_of (version_of l) l'.booked) (overlay js w.booked) }

    -- behind check 4 the booked jobs are read as they are
    read : place_of (version_of l) l.booked ≤ length journal → job_at (version_of l) journal l.booked ≡ booked_job w
    read h = jobs_read (version_of l) l.booked size w.booked beyond i.shape.records h

    -- where nothing is booked the booked bytes stay
    settled : (l' : Ledger) → l'.booked ≡ l.booked → world_left l' journal ≡ with_ledger w l'
    settled l' e =
        ap (λ (bytes : List ℕ). record { ledger = l'; booked = bytes })
        (ap (λ (n : ℕ). take n (overlay journal w.booked)) (ap (λ (n : ℕ). place_of (version_of l) n) e ∙ sym i.shape.records)
        ∙ kept_bytes size w.booked beyond)

    abbrev Left : Request → Decision → Type 0
    Left q d = (value : ℕ) → d.outcome ≡ Ok value → Inv (world_left (ledger_left acknowledged journal read q d) journal) (feed r q true)
        → Leaves w (world_left (ledger_left acknowledged journal read q d) journal) q value

    acted : (q : Request) (d : Decision) → Act l journal q d → Left q d
    acted q d a value e j =
        let s = settled _ (unbooked acknowledged journal read q d a) in
        subst (λ (x : World). Leaves w x q value) (sym s) (leave acknowledged journal read q d a value e (subst (λ (x : World). Inv x (feed r q true)) s j))

    -- ---- proposals
    numbered : (bytes : List ℕ) (k : ℕ) → KnownAt l journal bytes k → Numbered w bytes k
    unfolding inside_of
    numbered bytes k h = (omega (arith, h.first.below), sym (slot_tabled w i.shape size beyond k h.first.below) ∙ h.first.has)

    refused : {A : Type 0} (why : Refusal) (value : ℕ) → Err why ≡ Ok value → A
    refused why value e = absurd (true≢false (sym (ap is_done e)))

    proposed_left : (bytes : List ℕ) (d : Decision) → Proposed l journal bytes d → (value : ℕ) → d.outcome ≡ Ok value
        → Leaves w (world_left (applied l d.change 0 0) (journal_with d.change l.booked (version_of l) journal bytes)) (propose bytes) value
    unfolding applied booking
    proposed_left bytes d (insane n) value e = refused BadSettings value e
    proposed_left bytes d (failed why s x) value e = refused why value e
    proposed_left bytes d (full h) value e = refused Full value e
    proposed_left bytes d (known k h) value e =
        inl (record { numbered = subst (Numbered w bytes) (sym (answered k value e)) (numbered bytes k h); same = settled l refl })
    proposed_left bytes d (new h) value e =
        let grown = grown_bytes (version_of l) size w.booked beyond bytes l.booked i.shape.records
        (examined_length (version_of l) bytes h.passes) h.fits in
        inr (record {
          new = λ k n. unknown w i.shape size beyond bytes h (subst (λ (x : List ℕ). In x (table_of w)) n.1
              (in_get_d (table_of w) [] k (omega (arith, n.0, records_length (version_of l) l.booked w.booked))));
          count = add-one l.booked;
          appended = grown;
          only = only_booked w _;
          value = answered _ value e;
        })

    leaves_by : (q : Request) (value : ℕ) → (step_of l journal q).outcome ≡ Ok value
        → Inv (world_left (step_of l journal q).ledger (left_by l journal q)) (feed r q true)
        → Leaves w (world_left (step_of l journal q).ledger (left_by l journal q)) q value
    unfolding journal_after
    leaves_by (propose bytes) value e j = proposed_left bytes (propose_decision l journal bytes) (proposed l journal bytes) value e
    leaves_by (preflight v k) value e j = acted (preflight v k) _ (act_preflight l journal v k (ap is_done e)) value e j
    leaves_by (commit v k signers) value e j = acted (commit v k signers) _ (act_commit l journal v k signers (ap is_done e)) value e j
    leaves_by (faulty_vote c v k) value e j = acted (faulty_vote c v k) _ (act_vote l journal c v k (ap is_done e)) value e j
    leaves_by (show k) value e j = acted (show k) _ (act_show l journal k (ap is_done e)) value e j
    leaves_by (generations k) value e j = acted (generations k) _ (act_generations l journal k (ap is_done e)) value e j
    leaves_by snapshot value e j = acted snapshot _ (act_snapshot l journal (ap is_done e)) value e j
    leaves_by (release v k rival) value e j = acted (release v k rival) _ (act_release l journal v k rival (ap is_done e)) value e j
    leaves_by (dependencies v k) value e j = acted (dependencies v k) _ (act_dependencies l journal v k (ap is_done e)) value e j
    leaves_by (client_preflight v k client) value e j =
        acted (client_preflight v k client) _ (act_client l journal v k client (ap is_done e)) value e j
    leaves_by equivocating value e j = acted equivocating _ (act_equivocating l journal (ap is_done e)) value e j

  pub leaves : ((v k : ℕ) → has_held w v k ≡ true → has_voted w Acknowledgements v k ≡ true) → (e : Event) (value : ℕ) → (reply_to w e).outcome ≡ Ok value
      → Leaves w (after w e) e.request value
  unfolding after
  leaves acknowledged e value h =
      leaves_by acknowledged e.size e.beyond e.request value h
      (subst (λ (b : Bool). Inv (after w e) (feed r e.request b)) (ap is_done h) (kept w r i e))
