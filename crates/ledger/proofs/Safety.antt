-- The invariant of the vaults: what a correct vault has signed and not released never conflicts, each input of what it ever signed was made by a job
-- that it holds, and what is held was signed by a quorum. What it released lost to a job that it holds, and a job that lost never gets a quorum:
-- `Outvoted` names a quorum without it. All is stated over the relations alone (who holds, has signed, has its signature or acknowledgement
-- recorded), so a change is one pair more or less in one of them. Two quorums share a correct vault, so no two held jobs conflict.
use mathlib.Core.Bool.{Bool, ◌&&◌, false, not, true, true≢false}
use mathlib.Core.Logic.{◌≢◌, ◌⊎◌, inl, inr, ⊎_elim}
use mathlib.Core.Path.{◌∙◌, ◌≡◌, subst, sym}
use Prim.Native.Nat.{◌+◌, ◌<◌, ◌^◌, ◌≤◌, ℕ}
use native.Mathlib.Nat.{le_trans}
use native.Mathlib.Omega.{arith}
use lib.Count.{ones}
use lib.Dec.{ltb}
use borrow.Author.Tests.{ltb-false, ltb-true}
use Rattle.base.proofs.Reflect.{by_test, not_false_true, not_true_false, reflect_and, reflect_false, reflect_true, refuted}
use Rattle.base.proofs.Search.{reflect_any}
use Rattle.base.specs.Lists.{In}
use Rattle.base.specs.Reflect.{Reflects}
use Rattle.base.specs.Search.{Some, any_below}
use Rattle.conflicts.specs.Tapes.{input_tapes, output_tapes}
use Rattle.record.specs.declared.Entry.{Entry}
use Rattle.record.specs.declared.Job.{Job}
use Rattle.sets.proofs.Quorum.{quorums_meet}
use Rattle.sets.specs.Bits.{has_bit}
use Rattle.ledger.proofs.Rivals.{Rival, apart_peaceful, apart_sym, no_labels, rival_sym}
use Rattle.ledger.proofs.Views.{Added, Grown, Shrunk}
use Rattle.ledger.specs.Demand3.{Apart, Correct}
use Rattle.federation.specs.Federation.{Lawful, threshold_of}
use Rattle.federation.specs.declared.Settings.{Settings}

-- a correct vault that is in both sets
pub record Meeting (st : Settings) (x y : ℕ) : Type 0 where
  pub vault : ℕ
  pub correct : Correct st vault
  pub first : has_bit x vault ≡ true
  pub second : has_bit y vault ≡ true

-- two quorums share a correct vault. Nothing else rests on 3b < n
pub meeting : {st : Settings} → Lawful st → (x y : ℕ) → x < 2 ^ st.n → y < 2 ^ st.n → threshold_of st ≤ ones x → threshold_of st ≤ ones y → Meeting st x y
unfolding threshold_of
meeting {st} lawful x y hx hy a b =
    let m = quorums_meet st.n st.b x y st.faulty lawful.few hx hy lawful.below (omega arith) (omega arith) lawful.bound in
    record { vault = m.vault; correct = record { below = m.below; sound = m.correct }; first = m.in_first; second = m.in_second }

-- job p is held at v and made the tape
pub record Rooted (job : ℕ → Job) (held : ℕ → ℕ → Bool) (v : ℕ) (t : Entry) : Type 0 where
  pub maker : ℕ
  pub holds : held v maker ≡ true
  pub makes : In t (output_tapes (job maker))

-- k lost at v, to a rival that v holds and never signed
pub record Superseded (job : ℕ → Job) (held recorded : ℕ → ℕ → Bool) (v k : ℕ) : Type 0 where
  pub rival : ℕ
  pub is : Rival job rival k
  pub holds : held v rival ≡ true
  pub unsigned : recorded v rival ≡ false

-- k lost to a held rival: a quorum has signed that one, and no correct vault of this quorum has signed k
pub record Outvoted (st : Settings) (job : ℕ → Job) (held recorded : ℕ → ℕ → Bool) (k : ℕ) : Type 0 where
  pub rival : ℕ
  pub is : Rival job rival k
  pub holder : ℕ
  pub holds : held holder rival ≡ true
  pub quorum : ℕ
  pub below : quorum < 2 ^ st.n
  pub enough : threshold_of st ≤ ones quorum
  pub signed : (v : ℕ) → has_bit quorum v ≡ true → recorded v rival ≡ true
  pub without : (v : ℕ) → Correct st v → has_bit quorum v ≡ true → recorded v k ≡ true → ⊥

-- it stays so while the rival is held and signed, and no correct vault of the quorum signs k
still_outvoted : {st : Settings} {job job' : ℕ → Job} {held held' recorded recorded' : ℕ → ℕ → Bool} {k : ℕ} (o : Outvoted st job held recorded k)
    → Rival job' o.rival k → held' o.holder o.rival ≡ true → ((v : ℕ) → recorded v o.rival ≡ true → recorded' v o.rival ≡ true)
    → ((v : ℕ) → Correct st v → has_bit o.quorum v ≡ true → recorded' v k ≡ true → ⊥) → Outvoted st job' held' recorded' k
still_outvoted o r h more none = record {
  rival = o.rival;
  is = r;
  holder = o.holder;
  holds = h;
  quorum = o.quorum;
  below = o.below;
  enough = o.enough;
  signed = λ v t. more v (o.signed v t);
  without = none;
}

pub record Safe (st : Settings) (booked : ℕ) (job : ℕ → Job) (held signed recorded acked : ℕ → ℕ → Bool) (signers : ℕ → ℕ) : Type 0 where
  pub booked_held : (v k : ℕ) → held v k ≡ true → k < booked
  pub booked_recorded : (v k : ℕ) → recorded v k ≡ true → k < booked
  -- what is signed has its signature recorded
  pub backed : (v k : ℕ) → signed v k ≡ true → recorded v k ≡ true
  -- what one vault has signed and not released does not conflict
  pub apart : (v i k : ℕ) → signed v i ≡ true → signed v k ≡ true → i ≢ k → Apart (job i) (job k)
  -- each input of what a correct vault ever signed was made by a job that the vault holds
  pub rooted : (v k : ℕ) → Correct st v → recorded v k ≡ true → (t : Entry) → In t (input_tapes (job k)) → Rooted job held v t
  -- a held job has a quorum of recorded signatures
  pub certified : (v k : ℕ) → held v k ≡ true → threshold_of st ≤ ones (signers k)
  -- what a correct vault released has lost there
  pub released : (v k : ℕ) → Correct st v → recorded v k ≡ true → signed v k ≡ false → Superseded job held recorded v k
  -- a job with a rival that a correct vault holds has lost for good
  pub outvoted : (v m k : ℕ) → Correct st v → held v m ≡ true → Rival job m k → Outvoted st job held recorded k
  -- a correct vault acknowledges only what it holds
  pub honest : (v k : ℕ) → Correct st v → acked v k ≡ true → held v k ≡ true

-- the settings are lawful, and each job's signers are vaults whose signature is recorded
pub record Tally (st : Settings) (recorded : ℕ → ℕ → Bool) (signers : ℕ → ℕ) : Type 0 where
  pub lawful : Lawful st
  pub below : (k : ℕ) → signers k < 2 ^ st.n
  pub is : (v k : ℕ) → has_bit (signers k) v ≡ true → recorded v k ≡ true

-- a job that a vault may sign, by the jobs that it holds and has signed (checks 11 to 14)
pub record Clear (job : ℕ → Job) (held signed : ℕ → ℕ → Bool) (v j : ℕ) : Type 0 where
  pub rooted : (t : Entry) → In t (input_tapes (job j)) → Rooted job held v t
  pub unrivalled : (k : ℕ) → held v k ≡ true → Apart (job j) (job k)
  pub apart : (k : ℕ) → signed v k ≡ true → k ≢ j → Apart (job j) (job k)

-- ---- what the invariant gives
module _ {st : Settings} {booked : ℕ} {job : ℕ → Job} {held signed recorded acked : ℕ → ℕ → Bool} {signers : ℕ → ℕ}
    (s : Safe st booked job held signed recorded acked signers) (tally : Tally st recorded signers) where
  -- a job with a held rival is never certified
  pub never_certified : (v m k : ℕ) → Correct st v → held v m ≡ true → Rival job m k → threshold_of st ≤ ones (signers k) → ⊥
  never_certified v m k c h r a =
      let o = s.outvoted v m k c h r in
      let q = meeting tally.lawful o.quorum (signers k) o.below (tally.below k) o.enough a in
      o.without q.vault q.correct q.first (tally.is q.vault k q.second)

  -- so a correct vault's signature of a certified job is never released
  pub unreleased : (v k : ℕ) → Correct st v → recorded v k ≡ true → threshold_of st ≤ ones (signers k) → signed v k ≡ true
  unreleased v k c t a =
      not_false_true (signed v k) (λ e. let l = s.released v k c t e in never_certified v l.rival k c l.holds l.is a)

  -- two certified jobs do not conflict
  pub certified_apart : (i k : ℕ) → threshold_of st ≤ ones (signers i) → threshold_of st ≤ ones (signers k) → i ≢ k → Apart (job i) (job k)
  certified_apart i k a b ne =
      let m = meeting tally.lawful (signers i) (signers k) (tally.below i) (tally.below k) a b in
      let v = m.vault in
      s.apart v i k (unreleased v i m.correct (tally.is v i m.first) a) (unreleased v k m.correct (tally.is v k m.second) b) ne

  -- each input of a certified job was made by a held job
  pub certified_rooted : (k : ℕ) → threshold_of st ≤ ones (signers k) → (t : Entry) → In t (input_tapes (job k))
      → (v : ℕ) × (Correct st v × Rooted job held v t)
  certified_rooted k a t m =
      let q = meeting tally.lawful (signers k) (signers k) (tally.below k) (tally.below k) a a in
      (q.vault, (q.correct, s.rooted q.vault k q.correct (tally.is q.vault k q.first) t m))

  -- ---- each change keeps it

  -- a correct vault signs: it has signed no job of the quorum against its own, since a certified one would be unreleased and in the way
  pub safe_sign : {signed' recorded' : ℕ → ℕ → Bool} {signers' : ℕ → ℕ} (v j : ℕ) → Correct st v → j < booked
      → Grown signed signed' v j → Grown (λ k u. recorded u k) (λ k u. recorded' u k) j v → ((k : ℕ) → ones (signers k) ≤ ones (signers' k))
      → Clear job held signed v j → Safe st booked job held signed' recorded' acked signers'
  safe_sign {signed'} {recorded'} v j cv hj gs gr more c = record {
    booked_held = s.booked_held;
    booked_recorded = λ u k t. ⊎_elim (s.booked_recorded u k) (λ e. rw e.0 hj) (gr.cases k u t);
    backed = λ u k t. ⊎_elim (λ o. gr.old k u (s.backed u k o)) (λ e. rw (e.0, e.1) gr.new) (gs.cases u k t);
    apart = λ u i k a b ne. both u i k ne (gs.cases u i a) (gs.cases u k b);
    rooted = λ u k cu t x m. ⊎_elim (λ o. s.rooted u k cu o x m) (λ e. rw e.1 (c.rooted x (rw e.0 at m))) (gr.cases k u t);
    certified = λ u k t. le_trans (s.certified u k t) (more k);
    released = λ u k cu t n. lost u k cu n (gr.cases k u t);
    outvoted = λ u m k cu t r. short k (s.outvoted u m k cu t r);
    honest = s.honest;
  }
    where
      both : (u i k : ℕ) → i ≢ k → (signed u i ≡ true) ⊎ ((u ≡ v) × (i ≡ j)) → (signed u k ≡ true) ⊎ ((u ≡ v) × (k ≡ j)) → Apart (job i) (job k)
      both u i k ne (inl a) (inl b) = s.apart u i k a b ne
      both u i k ne (inl a) (inr e) = rw e.1 (apart_sym (c.apart i (rw e.0 at a) (λ q. ne (q ∙ sym e.1))))
      both u i k ne (inr e) (inl b) = rw e.1 (c.apart k (rw e.0 at b) (λ q. ne (e.1 ∙ sym q)))
      both u i k ne (inr e) (inr f) = absurd (ne (e.1 ∙ sym f.1))

      -- the rival that u holds is not the job that is signed now: v holds no rival of itself
      still_unsigned : (u k : ℕ) (l : Superseded job held recorded u k) → recorded' u l.rival ≡ true → ⊥
      still_unsigned u k l t = ⊎_elim (λ o. true≢false (sym o ∙ l.unsigned))
          (λ e. no_labels (subst (λ (m : ℕ). Apart (job m) (job m)) (sym e.0) (c.unrivalled j (rw (e.1, e.0) at l.holds))) l.is)
          (gr.cases l.rival u t)

      lost : (u k : ℕ) → Correct st u → signed' u k ≡ false → (recorded u k ≡ true) ⊎ ((k ≡ j) × (u ≡ v)) → Superseded job held recorded' u k
      lost u k cu n (inl o) =
          let l = s.released u k cu o (not_true_false (signed u k) (λ t. true≢false (sym (gs.old u k t) ∙ n))) in
          record { rival = l.rival; is = l.is; holds = l.holds; unsigned = not_true_false _ (still_unsigned u k l) }
      lost u k cu n (inr e) = absurd (true≢false (sym gs.new ∙ (rw (e.0, e.1) at n)))

      -- v is not of the quorum against j: it would have signed a rival, and not released it
      short : (k : ℕ) → Outvoted st job held recorded k → Outvoted st job held recorded' k
      short k o =
          still_outvoted o o.is o.holds (λ u. gr.old o.rival u)
          (λ u cu h t. ⊎_elim (o.without u cu h)
          (λ e.
          let r : recorded v o.rival ≡ true = rw e.1 at (o.signed u h) in
          let i : Rival job o.rival j = rw e.0 at o.is in
          apart_peaceful (c.apart o.rival (unreleased v o.rival cv r (s.certified o.holder o.rival o.holds)) i.other)
          (rival_sym i).conflicts)
          (gr.cases k u t))

  -- a faulty vault votes, in either column
  pub safe_faulty : {recorded' acked' : ℕ → ℕ → Bool} {signers' : ℕ → ℕ} (v j : ℕ) → j < booked → (Correct st v → ⊥)
      → Added (λ k u. recorded u k) (λ k u. recorded' u k) j v → Added (λ k u. acked u k) (λ k u. acked' u k) j v
      → ((k : ℕ) → ones (signers k) ≤ ones (signers' k)) → Safe st booked job held signed recorded' acked' signers'
  safe_faulty {recorded'} {acked'} v j hj faulty gr ga more = record {
    booked_held = s.booked_held;
    booked_recorded = λ u k t. ⊎_elim (s.booked_recorded u k) (λ e. rw e.0 hj) (gr.cases k u t);
    backed = λ u k t. gr.old k u (s.backed u k t);
    apart = s.apart;
    rooted = λ u k cu t x m. s.rooted u k cu (same gr u k cu t) x m;
    certified = λ u k t. le_trans (s.certified u k t) (more k);
    released = λ u k cu t n.
        let l = s.released u k cu (same gr u k cu t) n in
        record {
          rival = l.rival;
          is = l.is;
          holds = l.holds;
          unsigned = not_true_false _ (λ h. true≢false (sym (same gr u l.rival cu h) ∙ l.unsigned));
        };
    outvoted = λ u m k cu t r.
        let o = s.outvoted u m k cu t r in
        still_outvoted o o.is o.holds (λ w. gr.old o.rival w) (λ w cw h x. o.without w cw h (same gr w k cw x));
    honest = λ u k cu t. s.honest u k cu (same ga u k cu t);
  }
    where
      -- of a correct vault nothing is new
      same : {p q : ℕ → ℕ → Bool} → Added (λ k u. p u k) (λ k u. q u k) j v → (u k : ℕ) → Correct st u → q u k ≡ true → p u k ≡ true
      same g u k cu t = ⊎_elim (λ o. o) (λ e. absurd (faulty (rw e.1 at cu))) (g.cases k u t)

  -- a correct vault that has signed both
  abbrev SignedBoth : ℕ → ℕ → ℕ → Type 0
  SignedBoth j k u = (has_bit st.faulty u ≡ false) × ((has_bit (signers j) u ≡ true) × (recorded u k ≡ true))

  -- the signers of a job that is held now outvote its rivals; where one of them signed the rival too, it released it, and the rival had lost before
  outvoting : {held' : ℕ → ℕ → Bool} (v j k : ℕ) → threshold_of st ≤ ones (signers j) → Rival job j k → Grown held held' v j → Outvoted st job held' recorded k
  outvoting {held'} v j k a r g =
      by_test (any_below st.n test)
      (λ e. let x = both?.sound e in earlier x.which (record { below = x.below; sound = x.has.0 }) x.has.1.0 x.has.1.1)
      (λ e. record {
        rival = j;
        is = r;
        holder = v;
        holds = g.new;
        quorum = signers j;
        below = tally.below j;
        enough = a;
        signed = λ u h. tally.is u j h;
        without = λ u cu h t. refuted both? e (record { which = u; below = cu.below; has = (cu.sound, (h, t)) });
      })
    where
      test : ℕ → Bool
      test u = not (has_bit st.faulty u) && (has_bit (signers j) u && recorded u k)

      both? : Reflects (any_below st.n test) (Some st.n (SignedBoth j k))
      both? = reflect_any st.n
          (λ u h. reflect_and (reflect_false (has_bit st.faulty u)) (reflect_and (reflect_true (has_bit (signers j) u)) (reflect_true (recorded u k))))

      earlier : (u : ℕ) → Correct st u → has_bit (signers j) u ≡ true → recorded u k ≡ true → Outvoted st job held' recorded k
      earlier u cu h t =
          let kept = unreleased u j cu (tally.is u j h) a in
          let l = s.released u k cu t (not_true_false (signed u k) (λ x. apart_peaceful (s.apart u j k kept x r.other) r.conflicts)) in
          let o = s.outvoted u l.rival k cu l.holds l.is in
          still_outvoted o o.is (g.old o.holder o.rival o.holds) (λ w x. x) o.without

  -- a correct vault holds a certified job and acknowledges it
  pub safe_hold : {held' acked' : ℕ → ℕ → Bool} (v j : ℕ) → j < booked → threshold_of st ≤ ones (signers j)
      → Grown held held' v j → Grown (λ k u. acked u k) (λ k u. acked' u k) j v → Safe st booked job held' signed recorded acked' signers
  safe_hold v j hj quorum gh ga = record {
    booked_held = λ u k t. ⊎_elim (s.booked_held u k) (λ e. rw e.1 hj) (gh.cases u k t);
    booked_recorded = s.booked_recorded;
    backed = s.backed;
    apart = s.apart;
    rooted = λ u k cu t x m. let r = s.rooted u k cu t x m in record { maker = r.maker; holds = gh.old u r.maker r.holds; makes = r.makes };
    certified = λ u k t. ⊎_elim (s.certified u k) (λ e. rw e.1 quorum) (gh.cases u k t);
    released = λ u k cu t n.
        let l = s.released u k cu t n in
        record { rival = l.rival; is = l.is; holds = gh.old u l.rival l.holds; unsigned = l.unsigned };
    outvoted = λ u m k cu t r. ⊎_elim
        (λ h. let o = s.outvoted u m k cu h r in still_outvoted o o.is (gh.old o.holder o.rival o.holds) (λ w x. x) o.without)
        (λ e. outvoting v j k quorum (rw e.1 at r) gh) (gh.cases u m t);
    honest = λ u k cu t. ⊎_elim (λ o. gh.old u k (s.honest u k cu o)) (λ e. rw (e.0, e.1) gh.new) (ga.cases k u t);
  }

  -- a correct vault releases a job that lost to one that it holds
  pub safe_release : {signed' : ℕ → ℕ → Bool} (v j m : ℕ) → Correct st v → signed v j ≡ true → held v m ≡ true → Rival job m j
      → Shrunk signed signed' v j → Safe st booked job held signed' recorded acked signers
  safe_release {signed'} v j m cv sj hm r g = record {
    booked_held = s.booked_held;
    booked_recorded = s.booked_recorded;
    backed = λ u k t. s.backed u k (g.old u k t);
    apart = λ u i k a b ne. s.apart u i k (g.old u i a) (g.old u k b) ne;
    rooted = s.rooted;
    certified = s.certified;
    released = λ u k cu t n. by_test (signed u k) (λ e. lost u k n (g.cases u k e)) (s.released u k cu t);
    outvoted = s.outvoted;
    honest = s.honest;
  }
    where
      -- what v holds is certified: had v signed it too, both would still be among what v has signed
      unsigned : recorded v m ≡ true → ⊥
      unsigned t = apart_peaceful (s.apart v m j (unreleased v m cv t (s.certified v m hm)) sj r.other) r.conflicts

      lost : (u k : ℕ) → signed' u k ≡ false → (signed' u k ≡ true) ⊎ ((u ≡ v) × (k ≡ j)) → Superseded job held recorded u k
      lost u k n (inl t) = absurd (true≢false (sym t ∙ n))
      lost u k n (inr e) = rw (e.0, e.1) (record { rival = m; is = r; holds = hm; unsigned = not_true_false _ unsigned })

  -- a record is booked: what is booked keeps its job, and nobody has signed the new one
  pub safe_book : {job' : ℕ → Job} → ((k : ℕ) → k < booked → job' k ≡ job k) → Safe st (booked + 1) job' held signed recorded acked signers
  safe_book {job'} e = record {
    booked_held = λ v k t. omega (arith, s.booked_held v k t);
    booked_recorded = λ v k t. omega (arith, s.booked_recorded v k t);
    backed = s.backed;
    apart = λ v i k a b ne. rw (e i (s.booked_recorded v i (s.backed v i a)), e k (s.booked_recorded v k (s.backed v k b))) (s.apart v i k a b ne);
    rooted = λ v k cv t x m.
        let r = s.rooted v k cv t x (rw (e k (s.booked_recorded v k t)) at m) in
        record { maker = r.maker; holds = r.holds; makes = rw (e r.maker (s.booked_held v r.maker r.holds)) r.makes };
    certified = s.certified;
    released = λ v k cv t n.
        let l = s.released v k cv t n in
        let is = rival (booked_at_lem v l.rival l.holds) (s.booked_recorded v k t) l.is in
        record { rival = l.rival; is = is; holds = l.holds; unsigned = l.unsigned };
    outvoted = λ v m k cv h r. by_test (ltb k booked) (λ b. again v m k cv h r (ltb-true k booked b)) (λ b. new v m k h r (ltb-false k booked b));
    honest = s.honest;
  }
    where
      booked_at_lem : (v k : ℕ) → held v k ≡ true → k < booked
      booked_at_lem = s.booked_held

      rival : {m k : ℕ} → m < booked → k < booked → Rival job m k → Rival job' m k
      rival {m} {k} hm hk r = record { other = r.other; conflicts = rw (e m hm, e k hk) r.conflicts }

      old_rival : {m k : ℕ} → m < booked → k < booked → Rival job' m k → Rival job m k
      old_rival {m} {k} hm hk r = record { other = r.other; conflicts = rw (e m hm, e k hk) at r.conflicts }

      again : (v m k : ℕ) → Correct st v → held v m ≡ true → Rival job' m k → k < booked → Outvoted st job' held recorded k
      again v m k cv h r hk =
          let o = s.outvoted v m k cv h (old_rival (booked_at_lem v m h) hk r) in
          still_outvoted o (rival (booked_at_lem o.holder o.rival o.holds) hk o.is) o.holds (λ w x. x) o.without

      new : (v m k : ℕ) → held v m ≡ true → Rival job' m k → booked ≤ k → Outvoted st job' held recorded k
      new v m k h r hk = record {
        rival = m;
        is = r;
        holder = v;
        holds = h;
        quorum = signers m;
        below = tally.below m;
        enough = s.certified v m h;
        signed = λ u t. tally.is u m t;
        without = λ u cu t x. absurd (omega (arith, s.booked_recorded u k x));
      }
