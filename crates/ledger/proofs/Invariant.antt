-- The invariant of demand 3, and that each change a step makes keeps it. A job that arrives was signed by a quorum; so was every job
-- that arrived before, and two quorums share a correct vault, so the newcomer conflicts with none of them; its inputs were made by jobs
-- that a correct vault holds, and none of those has retired them. So the register takes it.
use Rattle.job_sets.specs.declared.job_set.JobSet.{JobSet}
use mathlib.Core.Bool.{Bool, ◌&&◌, cond, false, true, true≢false}
use mathlib.Core.List.{List, [], ◌++◌, ◌∷◌}
use mathlib.Core.Logic.{inl, inr, ⊎_elim}
use mathlib.Core.Path.{◌∙◌, ◌≡◌, ap, ap₂, refl, subst, sym}
use Prim.Native.Nat.{◌<◌, ◌≤◌, ℕ}
use native.Mathlib.Omega.{arith}
use lib.Count.{ones}
use lib.Dec.{eqb, ltb}
use lib.ListN.{get_or-append, get_or, length}
use lib.Seq.{length-take-le}
use borrow.Author.Tests.{lt-ltb}
use Rattle.base.proofs.Lists.{reflect_same}
use Rattle.base.proofs.Members.{any_in_lem, distinct_snoc, in_get_d, in_last, in_left, in_map, in_none, in_snoc, pigeons, reflect_member}
use Rattle.base.proofs.Reflect.{by_cases, reflect_eq, refuted, refutes}
use Rattle.base.specs.Lists.{Distinct, In, any_in, same_list}
use Rattle.base.specs.Reflect.{Reflects}
use Rattle.std.specs.Prelude.{Ok}
use Rattle.checks.specs.Checks.{examined}
use Rattle.codec.specs.Codec.{job_of, record_size}
use Rattle.conflicts.specs.Tapes.{input_tapes, output_tapes}
use Rattle.record.specs.declared.Entry.{Entry}
use Rattle.record.specs.declared.Job.{Job}
use Rattle.job_sets.proofs.Jobs.{job_without_other}
use Rattle.sets.specs.Bits.{has_bit}
use Rattle.job_sets.specs.Jobs.{job_has, job_without}
use Rattle.ledger.proofs.Account.{Books, books_enter, books_take}
use Rattle.ledger.proofs.Admissible.{CanTake, reflect_admissible}
use Rattle.ledger.proofs.Changes.{
  Change,
  Idle,
  Shape,
  appends,
  counts,
  grants,
  held,
  holds,
  idle,
  nothing,
  released_by,
  releases,
  seen_next,
  sees,
  signed_by,
  signs,
  table_of,
  votes,
  with_ledger,
}
use Rattle.ledger.proofs.Effects.{
  hold_acked,
  hold_again,
  hold_booked,
  hold_first,
  hold_held,
  hold_recorded,
  hold_settings,
  hold_signed,
  hold_signers,
  release_held,
  release_signed,
  shape_book,
  shape_count,
  shape_hold,
  shape_see,
  shape_sign,
  shape_vault,
  shape_vote,
  sign_acked,
  sign_held,
  sign_ones,
  sign_recorded,
  sign_signed,
}
use Rattle.ledger.proofs.Lending.{records_length, records_snoc}
use Rattle.ledger.proofs.Places.{examined_length}
use Rattle.ledger.proofs.Rivals.{Rival}
use Rattle.ledger.proofs.Safety.{Clear, Safe, Tally, certified_apart, certified_rooted, safe_book, safe_faulty, safe_hold, safe_release, safe_sign}
use Rattle.ledger.proofs.Views.{Grown, acked_at, held_at, recorded_at, reflect_arrived, signed_at, voted_added, voted_ones, voted_at}
use Rattle.ledger.specs.Demand3.{Apart, Correct, Held, records_in}
use Rattle.federation.specs.Federation.{threshold_of}
use Rattle.ledger.specs.Graph.{Unblocked}
use Rattle.ledger.specs.Register.{Register, entering, feed, feed_commit, feed_done, feed_proposal, is_admissible, stopped, tabled, taking}
use Rattle.ledger.specs.State.{arrived, booking, counted, signers_of, vault_at, version_of, visited, voted, votes_in, with_vault}
use Rattle.ledger.specs.Worlds.{Request, World, client_preflight, commit, dependencies, equivocating, faulty_vote, generations, preflight, propose}
use Rattle.ledger.specs.Worlds.{release, show, snapshot}
use Rattle.vaults.specs.declared.Column.{Column}
use Rattle.vaults.specs.declared.Column.TheVariants.{Acknowledgements, Signatures}
use Rattle.ledger.specs.declared.History.{History}
use Rattle.ledger.specs.declared.Ledger.{Ledger}
use Rattle.federation.specs.declared.Settings.{Settings}

pub record Inv (w : World) (r : Register) : Type 0 where
  pub shape : Shape w.ledger w.booked
  pub safe : Safe w.ledger.settings w.ledger.booked (tabled r.table) (held_at w.ledger) (signed_at w.ledger) (recorded_at w.ledger)
      (acked_at w.ledger) (signers_of w.ledger)
  pub version : r.version ≡ version_of w.ledger
  pub fit : (x : List ℕ) → In x r.table → examined r.version x ≡ Ok (tt {0})
  pub books : Books r
  pub running : r.running ≡ true
  pub table : r.table ≡ table_of w
  pub unique : Distinct r.table
  pub taken : r.taken ≡ arrived w.ledger
  pub once : Distinct r.taken
  pub taken_held : (k : ℕ) → In k r.taken → Held w.ledger k
  pub held_taken : (v k : ℕ) → held_at w.ledger v k ≡ true → In k r.taken

pub table_length : {w : World} {r : Register} → Inv w r → length r.table ≡ w.ledger.booked
table_length {w} i = ap length i.table ∙ records_length (version_of w.ledger) w.ledger.booked w.booked

-- ---- what is held stays held
abbrev pub Keeps : Ledger → Ledger → Type 0
Keeps l l' = (v k : ℕ) → held_at l v k ≡ true → held_at l' v k ≡ true

pub still : (l l' : Ledger) → l'.settings ≡ l.settings → Keeps l l' → (k : ℕ) → Held l k → Held l' k
unfolding held_at
still l l' e h k x = record {
  vault = x.vault;
  by = record { correct = subst (λ (s : Settings). Correct s x.vault) (sym e) x.by.correct; held = h x.vault k x.by.held };
}

pub held_by : (l : Ledger) (k : ℕ) → Held l k → (v : ℕ) × (held_at l v k ≡ true)
unfolding held_at
held_by l k x = (x.vault, x.by.held)

-- ---- the effects keep the invariant
module _ {w : World} {r : Register} (i : Inv w r) where
  abbrev l : Ledger
  l = w.ledger

  abbrev job : ℕ → Job
  job = tabled r.table

  pub in_vaults : (v : ℕ) → v < l.settings.n → v < length l.vaults
  in_vaults v h = omega (arith, i.shape.vaults, i.shape.lawful.vaults)

  pub is_vault : (v : ℕ) → v < l.settings.n → v < 16
  is_vault v h = omega (arith, i.shape.lawful.vaults)

  pub is_job : (k : ℕ) → k < l.booked → k < 128
  is_job k h = omega (arith, i.shape.room)

  pub in_votes : (k : ℕ) → k < l.booked → k < length l.votes
  in_votes k h = omega (arith, i.shape.room, i.shape.votes)

  pub tally : Tally l.settings (recorded_at l) (signers_of l)
  unfolding voted_at
  tally = record { lawful = i.shape.lawful; below = i.shape.votes_below Signatures; is = λ v k t. t }

  -- ---- a correct vault signs
  pub clear : (v k : ℕ) → Unblocked (tabled (table_of w)) l.booked (vault_at l v).held (job_without (vault_at l v).signed k) (tabled (table_of w) k)
      → Clear job (held_at l) (signed_at l) v k
  unfolding held_at signed_at
  clear v k u = subst (λ (t : List (List ℕ)). Clear (tabled t) (held_at l) (signed_at l) v k) (sym i.table) (record {
    rooted = λ t m. let c = u.created t m in record { maker = c.which; holds = c.member; makes = c.makes };
    unrivalled = λ m h. record {
      inputs = λ x a b. u.unconsumed x a (record { which = m; below = i.safe.booked_held v m h; member = h; lists = b });
      outputs = λ x a b. u.unmade x a (inl (record { which = m; below = i.safe.booked_held v m h; member = h; lists = b }));
    };
    apart = λ m s ne. record {
      inputs = λ x a b. u.unmarked x a (record { which = m; below = below m s; member = job_without_other (vault_at l v).signed k m ne ∙ s; lists = b });
      outputs = λ x a b. u.unmade x a (inr (record { which = m; below = below m s; member = job_without_other (vault_at l v).signed k m ne ∙ s; lists = b }));
    };
  })
    where
      below : (m : ℕ) → signed_at l v m ≡ true → m < l.booked
      below m s = i.safe.booked_recorded v m (i.safe.backed v m s)

  -- ---- a change of the ledger that books nothing and leaves the order: what is held stays held, and what is held now was taken
  record Alike (l' : Ledger) : Type 0 where
    settings : l'.settings ≡ l.settings
    booked : l'.booked ≡ l.booked
    order : arrived l' ≡ arrived l
    keeps : Keeps l l'
    taken : (v k : ℕ) → held_at l' v k ≡ true → In k r.taken

  inv_ledger : (l' : Ledger) → Alike l' → Shape l' w.booked
      → Safe l'.settings l'.booked job (held_at l') (signed_at l') (recorded_at l') (acked_at l') (signers_of l')
      → Inv (with_ledger w l') r
  inv_ledger l' a shape safe = record {
    shape = shape;
    safe = safe;
    version = i.version ∙ ap (λ (s : Settings). s.version) (sym a.settings);
    fit = i.fit;
    books = i.books;
    running = i.running;
    table = i.table ∙ ap₂ (λ (s : Settings) (n : ℕ). records_in s.version n w.booked) (sym a.settings) (sym a.booked);
    unique = i.unique;
    taken = i.taken ∙ sym a.order;
    once = i.once;
    taken_held = λ m x. still l l' a.settings a.keeps m (i.taken_held m x);
    held_taken = a.taken;
  }

  inv_sign : (v k : ℕ) → Correct l.settings v → k < l.booked → Clear job (held_at l) (signed_at l) v k → Inv (with_ledger w (signed_by l v k)) r
  unfolding voted with_vault
  inv_sign v k c hk cl =
      inv_ledger next
      (record { settings = refl; booked = refl; order = refl; keeps = λ u m t. same u m ∙ t; taken = λ u m t. i.held_taken u m (sym (same u m) ∙ t) })
      (shape_sign i.shape v k c.below)
      (subst (λ (h : ℕ → ℕ → Bool). Signed h (acked_at next)) (sym (sign_held l v k))
      (subst (Signed (held_at l)) (sym (sign_acked l v k))
      (safe_sign i.safe tally v k c hk (sign_signed l v k (in_vaults v c.below) (is_job k hk))
      (sign_recorded l v k (omega (arith, i.shape.votes, is_job k hk)) (is_vault v c.below)) (sign_ones l v k) cl)))
    where
      next : Ledger
      next = signed_by l v k

      same : (u m : ℕ) → held_at (signed_by l v k) u m ≡ held_at l u m
      same u m = ap (λ (f : ℕ → ℕ → Bool). f u m) (sign_held l v k)

      Signed : (ℕ → ℕ → Bool) → (ℕ → ℕ → Bool) → Type 0
      Signed h a = Safe l.settings l.booked job h (signed_at (signed_by l v k)) (recorded_at (signed_by l v k)) a (signers_of (signed_by l v k))

  -- ---- a correct vault releases a job that lost to one that it holds
  inv_release : (v k m : ℕ) → Correct l.settings v → signed_at l v k ≡ true → held_at l v m ≡ true → Rival (tabled (table_of w)) m k
      → Inv (with_ledger w (released_by l v k)) r
  unfolding with_vault voted_at votes_in
  inv_release v k m c s h rival =
      inv_ledger (released_by l v k)
      (record { settings = refl; booked = refl; order = refl; keeps = λ u n t. same u n ∙ t; taken = λ u n t. i.held_taken u n (sym (same u n) ∙ t) })
      (shape_vault i.shape v _)
      (subst (λ (f : ℕ → ℕ → Bool). Safe l.settings l.booked job f (signed_at (released_by l v k)) (recorded_at l) (acked_at l) (signers_of l))
      (sym (release_held l v k))
      (safe_release i.safe tally v k m c s h (subst (λ (t : List (List ℕ)). Rival (tabled t) m k) (sym i.table) rival)
      (release_signed l v k)))
    where
      same : (u n : ℕ) → held_at (released_by l v k) u n ≡ held_at l u n
      same u n = ap (λ (f : ℕ → ℕ → Bool). f u n) (release_held l v k)

  -- ---- a faulty vault votes
  inv_vote : (d : Column) (v k : ℕ) → v < l.settings.n → has_bit l.settings.faulty v ≡ true → k < l.booked → Inv (with_ledger w (voted l d v k)) r
  unfolding voted held_at signed_at
  inv_vote d v k hv f hk =
      let added = voted_added l d v k (is_vault v hv) in
      inv_ledger (voted l d v k)
      (record { settings = refl; booked = refl; order = refl; keeps = λ u m t. t; taken = i.held_taken })
      (shape_vote i.shape d v k hv)
      (safe_faulty i.safe tally v k hk (λ c. true≢false (sym f ∙ c.sound)) (added Signatures) (added Acknowledgements) (voted_ones l d v k Signatures))

  -- ---- a snapshot's visit: nothing that the invariant speaks of changes
  inv_see : (seen : JobSet) → Inv (with_ledger w (visited l seen)) r
  unfolding visited held_at signed_at voted_at votes_in
  inv_see seen =
      inv_ledger (visited l seen)
      (record { settings = refl; booked = refl; order = refl; keeps = λ u m t. t; taken = i.held_taken })
      (shape_see i.shape seen)
      i.safe

  -- ---- a client's history: nothing that the invariant speaks of changes
  inv_count : (v : ℕ) (h : History) → Inv (with_ledger w (counted l v h)) r
  unfolding counted held_at signed_at voted_at votes_in
  inv_count v h =
      inv_ledger (counted l v h)
      (record { settings = refl; booked = refl; order = refl; keeps = λ u m t. t; taken = i.held_taken })
      (shape_count i.shape v h)
      i.safe

  -- ---- a record is booked
  inv_book : (bytes : List ℕ) → examined (version_of l) bytes ≡ Ok (tt {0}) → l.booked < 128 → (In bytes (table_of w) → ⊥)
      → Inv (record { ledger = booking l; booked = w.booked ++ bytes }) (entering r bytes)
  unfolding booking entering held_at signed_at voted_at votes_in
  inv_book bytes e h n =
      let size : length bytes ≡ record_size (version_of l) = examined_length (version_of l) bytes e in
      let passes : examined r.version bytes ≡ (Ok (tt {0})) = subst (λ (v : ℕ). examined v bytes ≡ Ok (tt {0})) (sym i.version) e in
      record {
        shape = shape_book i.shape bytes h size;
        safe = safe_book i.safe tally (λ k b. ap job_of (get_or-append r.table (bytes ∷ []) [] k (omega (arith, table_length i))));
        version = i.version;
        fit = λ x m. ⊎_elim (i.fit x) (λ (q : x ≡ bytes). rw q passes) (in_snoc r.table bytes x m);
        books = books_enter r bytes i.books;
        running = i.running;
        table = ap (λ (t : List (List ℕ)). t ++ (bytes ∷ [])) i.table ∙ sym
            (records_snoc (version_of l) l.booked w.booked bytes i.shape.records size);
        unique = distinct_snoc r.table bytes i.unique (λ m. n (subst (λ (t : List (List ℕ)). In bytes t) i.table m));
        taken = i.taken;
        once = i.once;
        taken_held = λ m x. still l (booking l) refl (λ u m t. t) m (i.taken_held m x);
        held_taken = i.held_taken;
      }

  -- ---- a certified job that has not arrived is admissible
  quorum_of : (k : ℕ) → In k r.taken → threshold_of l.settings ≤ ones (signers_of l k)
  quorum_of k m = let h = held_by l k (i.taken_held k m) in i.safe.certified h.0 k h.1

  module _ (k : ℕ) (hk : k < l.booked) (quorum : threshold_of l.settings ≤ ones (signers_of l k)) (new : In k r.taken → ⊥) where
    apart : (m : ℕ) → In m r.taken → Apart (job m) (job k)
    apart m x =
        certified_apart i.safe tally m k (quorum_of m x) quorum
        (λ (e : m ≡ k). new (subst (λ (z : ℕ). In z r.taken) e x))

    pub can_take : CanTake r (get_or r.table k [])
    can_take = record {
      fits = i.fit (get_or r.table k []) (in_get_d r.table [] k (omega (arith, table_length i)));
      standing = λ t m.
          let q = certified_rooted i.safe tally k quorum t m in
          let p = q.1.1 in
          i.books.stands p.maker t (i.held_taken q.0 p.maker p.holds) p.makes
          (λ n x y. (apart n x).inputs t.label y (in_map (λ (t : Entry). t.label) (input_tapes (job k)) t m));
      new = λ t m x.
          let q = i.books.made_by_taken t.label x in
          (apart q.0 q.1.0).outputs t.label q.1.1 (in_map (λ (t : Entry). t.label) (output_tapes (job k)) t m);
    }

    -- and there is room for it in the order
    space : l.arrivals < 128
    space =
        let below : (m : ℕ) → In m (k ∷ r.taken) → m < l.booked = λ (m : ℕ) (x : In m (k ∷ r.taken)).
        ⊎_elim (λ (e : m ≡ k). rw e hk) (λ (y : In m r.taken). omega (arith, i.books.known m y, table_length i)) x in
        omega (
          arith,
          pigeons l.booked (k ∷ r.taken) (new, i.once) below,
          ap length i.taken,
          length-take-le l.arrivals l.order (omega (arith, i.shape.order, i.shape.arrivals)),
          i.shape.room,
        )

  -- ---- a correct vault holds a certified job
  module _ (v k : ℕ) (c : Correct l.settings v) (hk : k < l.booked) (quorum : threshold_of l.settings ≤ ones (signers_of l k)) where
    abbrev next : Ledger
    next = held l v k

    grown : Grown (held_at l) (held_at next) v k
    grown = hold_held l v k (in_vaults v c.below) (is_job k hk)

    safe_next : Safe next.settings next.booked job (held_at next) (signed_at next) (recorded_at next) (acked_at next) (signers_of next)
    safe_next =
        subst (λ (s : Settings). Safe s next.booked job (held_at next) (signed_at next) (recorded_at next) (acked_at next) (signers_of next))
        (sym (hold_settings l v k))
        (subst (λ (n : ℕ). Safe l.settings n job (held_at next) (signed_at next) (recorded_at next) (acked_at next) (signers_of next)) (sym (hold_booked l v k))
        (subst (λ (f : ℕ → ℕ → Bool). Safe l.settings l.booked job (held_at next) f (recorded_at next) (acked_at next) (signers_of next))
        (sym (hold_signed l v k))
        (subst (λ (f : ℕ → ℕ → Bool). Safe l.settings l.booked job (held_at next) (signed_at l) f (acked_at next) (signers_of next))
        (sym (hold_recorded l v k))
        (subst (λ (f : ℕ → ℕ). Safe l.settings l.booked job (held_at next) (signed_at l) (recorded_at l) (acked_at next) f) (sym (hold_signers l v k))
        (safe_hold i.safe tally v k hk quorum grown (hold_acked l v k (omega (arith, i.shape.votes, is_job k hk)) (is_vault v c.below)))))))

    table_next : r.table ≡ table_of (with_ledger w next)
    table_next =
        i.table ∙ ap₂ (λ (s : Settings) (n : ℕ). records_in s.version n w.booked) (sym (hold_settings l v k)) (sym (hold_booked l v k))

    still_held : (m : ℕ) → Held l m → Held next m
    still_held = still l next (hold_settings l v k) grown.old

    now_held : Held next k
    unfolding held_at
    now_held = record { vault = v; by = record { correct = subst (λ (s : Settings). Correct s v) (sym (hold_settings l v k)) c; held = grown.new } }

    order_long : l.arrivals ≤ length l.order
    order_long = omega (arith, i.shape.arrivals, i.shape.order)

    inv_again : In k r.taken → Inv (with_ledger w next) r
    inv_again m =
        inv_ledger next
        (record {
          settings = hold_settings l v k;
          booked = hold_booked l v k;
          order = hold_again l v k ((reflect_arrived l k order_long).complete (subst (λ (x : List ℕ). In k x) i.taken m));
          keeps = grown.old;
          taken = λ u n t. ⊎_elim (i.held_taken u n) (λ e. rw e.1 m) (grown.cases u n t);
        })
        (shape_hold i.shape v k c.below)
        safe_next

    inv_first : (In k r.taken → ⊥) → Inv (with_ledger w next) (taking r k)
    unfolding taking
    inv_first new = record {
      shape = shape_hold i.shape v k c.below;
      safe = safe_next;
      version = i.version ∙ ap (λ (s : Settings). s.version) (sym (hold_settings l v k));
      fit = i.fit;
      books = books_take r k i.books (omega (arith, table_length i)) (can_take k hk quorum new);
      running = i.running;
      table = table_next;
      unique = i.unique;
      taken = ap (λ (t : List ℕ). t ++ (k ∷ [])) i.taken
          ∙ sym (hold_first l v k (refutes (reflect_arrived l k order_long) (λ m. new (subst (λ (x : List ℕ). In k x) (sym i.taken) m)))
          (space k hk quorum new) (omega (arith, space k hk quorum new, i.shape.order)));
      once = distinct_snoc r.taken k i.once new;
      taken_held = λ n x. ⊎_elim (λ (m : In n r.taken). still_held n (i.taken_held n m)) (λ (e : n ≡ k). subst (λ (z : ℕ). Held next z) (sym e) now_held)
          (in_snoc r.taken k n x);
      held_taken = λ u n t. ⊎_elim
          (λ (o : held_at l u n ≡ true). in_left r.taken (k ∷ []) n (i.held_taken u n o))
          (λ e. subst (λ (z : ℕ). In z (r.taken ++ (k ∷ []))) (sym e.1) (in_last r.taken k))
          (grown.cases u n t);
    }

    inv_hold : Inv (with_ledger w next) (feed_commit r k)
    unfolding feed_commit
    inv_hold =
        by_cases
        (λ b. Inv (with_ledger w next) (cond b r (cond (ltb k (length r.table) && is_admissible r (get_or r.table k [])) (taking r k) (stopped r))))
        (any_in (eqb k) r.taken)
        (λ e. inv_again (taken?.sound e))
        (λ e.
        let new : In k r.taken → ⊥ = refuted taken? e in
        simp (
          lt-ltb k (length r.table) (omega (arith, table_length i)),
          (reflect_admissible r (get_or r.table k [])).complete
              (can_take k hk quorum new),
        ) (inv_first new))
      where
        taken? : Reflects (any_in (eqb k) r.taken) (In k r.taken)
        taken? = reflect_member k r.taken (reflect_eq k)

  -- ---- a request answered 0 that changes nothing
  inv_idle : (q : Request) → Idle w q → Inv w (feed_done r q)
  unfolding feed_proposal feed_commit held_at
  inv_idle (propose bytes) m =
      simp (any_in_lem (λ x. same_list x bytes) r.table bytes (subst (λ (t : List (List ℕ)). In bytes t) (sym i.table) m)
      ((reflect_same bytes bytes).complete refl)) i
  inv_idle (preflight v k) m = i
  inv_idle (commit v k signers) m =
      simp ((reflect_member k r.taken (reflect_eq k)).complete (i.held_taken v k m.held)) i
  inv_idle (faulty_vote d v k) m = absurd m
  inv_idle (show k) m = i
  inv_idle (generations k) m = i
  inv_idle snapshot m = absurd m
  inv_idle (release v k rival) m = absurd m
  inv_idle (dependencies v k) m = i
  inv_idle (client_preflight v k client) m = absurd m
  inv_idle equivocating m = i

  -- a record that is not in the table enters it
  feeds_new : (bytes : List ℕ) → (In bytes (table_of w) → ⊥) → feed_proposal r bytes ≡ entering r bytes
  unfolding feed_proposal
  feeds_new bytes n =
      simp (in_none (λ x. same_list x bytes) r.table
      (λ x m. refutes (reflect_same x bytes)
      (λ (e : x ≡ bytes). n (subst (λ (t : List (List ℕ)). In bytes t) i.table (subst (λ (z : List ℕ). In z r.table) e m)))))

  -- an answered request is fed to the running register
  fed : (q : Request) (w' : World) → Inv w' (feed_done r q) → Inv w' (feed r q true)
  fed q w' h = simp i.running h

-- the relations, as a change's guard says them
held_is : (l : Ledger) (v k : ℕ) → job_has (vault_at l v).held k ≡ true → held_at l v k ≡ true
unfolding held_at
held_is l v k t = t

signed_is : (l : Ledger) (v k : ℕ) → job_has (vault_at l v).signed k ≡ true → signed_at l v k ≡ true
unfolding signed_at
signed_is l v k t = t

-- ---- every step keeps it
pub keep : (w : World) (r : Register) → Inv w r → (q : Request) (done : Bool) (w' : World) → Change w q done w' → Inv w' (feed r q done)
keep w r i q done w' (nothing p) = i
keep w r i q done w' (idle p m) = fed i q w (inv_idle i q m)
keep w r i q done w' (appends bytes e h n) =
    fed i q w' (subst (λ (x : Register). Inv w' x) (sym (feeds_new i bytes n)) (inv_book i bytes e h n))
keep w r i q done w' (signs v k c h u) = fed i q w' (inv_sign i v k c h (clear i v k u))
keep w r i q done w' (votes d v k h f b) = fed i q w' (inv_vote i d v k h f b)
keep w r i q done w' (holds v k signers c h e) = fed i q w' (inv_hold i v k c h e)
keep w r i q done w' sees = fed i q w' (inv_see i (seen_next w.ledger))
keep w r i q done w' (releases v k m c s h n) = fed i q w' (inv_release i v k m c (signed_is w.ledger v k s) (held_is w.ledger v m h) n)
keep w r i q true w' (counts v k client d h) = fed i q w' (inv_count i v h)
keep w r i q false w' (counts v k client d h) = inv_count i v h
keep w r i q done w' (grants v k client h c b u) = fed i q w' (inv_count (inv_sign i v k c b (clear i v k u)) v h)
