-- Each kind's row, read off its tests in the order in which the definitions make them: a test that fails is its claim, and one that passes is its claim's
-- denial. Behind check 4 the lent journal is read as the booked records, and the history of a client is the requests that a list of steps shows. At the end,
-- that a refused step changes nothing.
use mathlib.Core.Bool.{Bool, beq, ◌&&◌, cond, false, not, true, true≢false}
use mathlib.Core.List.{List, []}
use mathlib.Core.Logic.{◌⊎◌, inl, inr, ⊎_elim}
use mathlib.Core.Path.{◌∙◌, ◌≡◌, ap, ap₂, refl, subst, sym}
use Prim.Native.Nat.{◌+◌, ◌-◌, ◌<◌, ◌^◌, ◌≤◌, suc, zero, ℕ}
use native.Mathlib.Omega.{arith}
use lib.Count.{ones}
use lib.Dec.{eqb, leb, ltb}
use lib.ListN.{get_or, length, take}
use lib.Seq.{get_or-set_same}
use borrow.Author.Tests.{eqb-false, eqb-true, leb-false, leb-true, ltb-false, ltb-true}
use Rattle.base.proofs.Reflect.{by_cases, by_test, decided, not_false_true, not_true_false, reflect_and, reflect_false, reflect_le, reflect_lt}
use Rattle.base.proofs.Reflect.{reflect_true, refuted}
use Rattle.base.proofs.Search.{reflect_any}
use Rattle.base.specs.Reflect.{Reflects}
use Rattle.base.specs.Search.{Every, Some, any_below}
use Rattle.checks.proofs.Meaning.{check_answers}
use Rattle.checks.specs.Checks.{check_of, examined}
use Rattle.checks.specs.Meaning.{Answer, Balanced, RepeatedAt, UnsupportedAt, malformed, passes, repeated, takes, unbalanced, unsupported}
use Rattle.codec.proofs.Sizes.{place_before, place_first, place_suc, room_whole, whole_room}
use Rattle.codec.specs.Codec.{job_of, place_of, record_size}
use Rattle.conflicts.specs.Meaning.{Rivals}
use Rattle.federation.specs.Federation.{threshold_of}
use Rattle.job_sets.specs.Jobs.{job_count, job_has, job_without, no_jobs}
use Rattle.job_sets.specs.declared.job_set.JobSet.{JobSet}
use Rattle.journal.proofs.Booked.{reflect_booked}
use Rattle.journal.specs.Journal.{Booked, inside_of, is_booked, job_at}
use Rattle.outcome.specs.Figures.{number_of, refusal_number, refusal_value, value_of, Outcome, Verdict}
use Rattle.std.specs.Prelude.{Ok, Err}
use Rattle.outcome.specs.declared.Refusal.{Refusal}
use Rattle.outcome.specs.declared.Refusal.TheVariants.{Malformed, NoClient, NoVault, NotBooked, NotHeld, NotSigned, OverQuota, Settings as BadSettings}
use Rattle.outcome.specs.declared.Refusal.TheVariants.{TooFewSigners, WrongVault}
use Rattle.quota.specs.Asks.{Ask, news, spends}
use Rattle.quota.specs.Quota.{is_client, is_spent}
use Rattle.record.specs.declared.Job.{Job}
use Rattle.sets.proofs.Bits.{reflect_subset, subset_has}
use Rattle.sets.proofs.Size.{below_power}
use Rattle.sets.specs.Bits.{has_bit, subset_of, with_member}
use Rattle.supplies.specs.Missing.{missing_jobs}
use Rattle.vaults.specs.Vaults.{consented, holding, signing, unsigning, vault_preflight}
use Rattle.vaults.specs.Votes.{column_of, no_votes, with_vote}
use Rattle.vaults.specs.declared.Column.{Column}
use Rattle.vaults.specs.declared.Column.TheVariants.{Acknowledgements, Signatures}
use Rattle.vaults.specs.declared.Consent.TheVariants.{Already}
use Rattle.vaults.specs.declared.Signing.{Signing}
use Rattle.vaults.specs.declared.Vault.{Vault}
use Rattle.vaults.specs.declared.Votes.{Votes}
use Rattle.ledger.proofs.Changes.{Shape, shape_sane}
use Rattle.ledger.proofs.Counted.{Says, admission_says}
use Rattle.ledger.proofs.Creators.{generations_by_creators}
use Rattle.ledger.proofs.Demand3.{along, first}
use Rattle.ledger.proofs.Dependencies.{smallest}
use Rattle.ledger.proofs.Equivocation.{answers}
use Rattle.ledger.proofs.Gates.{enters, reflect_sane}
use Rattle.ledger.proofs.Holders.{reflect_held, somewhere_held, status_means}
use Rattle.ledger.proofs.Invariant.{Inv}
use Rattle.ledger.proofs.Lending.{jobs_read, kept_bytes}
use Rattle.ledger.proofs.Meaning.{admission_answers, supersession_means}
use Rattle.ledger.proofs.Places.{proposed}
use Rattle.ledger.proofs.Quota.{quota}
use Rattle.ledger.proofs.Unchanged.{unchanged}
use Rattle.ledger.proofs.Views.{arrives}
use Rattle.ledger.specs.Decisions.{admission_at, ageing, answering, certificate, client_preflighting, committing, consent, consenting, counted_consent}
use Rattle.ledger.specs.Decisions.{counting, gated, gated_listing, history_with, if_admitted, listing, preflighting, receiving, receiving_all, refusing}
use Rattle.ledger.specs.Decisions.{releasing, requiring, snapshotting, supersession, supplying, voting, within_quota}
use Rattle.ledger.specs.Demand1.{Admitted, Gives, AtCorrect, BookFull, CertifiedNow, CutShort, Demand1, EqualAt, FinishedNow, First, FirstAmong}
use Rattle.ledger.specs.Demand1.{GenerationsOf, Inside, MalformedRecord, NamedVaults, NoRivalHeld, NotBelow, RefusedUnchanged, CheckRow, SetWorks}
use Rattle.ledger.specs.Demand1.{SignedHere, SmallestSize, Unbooked, Unsigned, Value, Where, order}
use Rattle.ledger.specs.Demand2.{InPlace, accepts}
use Rattle.ledger.specs.Demand3.{ByCreators, Held, age_at, booked_job}
use Rattle.ledger.specs.Holders.{held_somewhere, is_held}
use Rattle.generations.specs.Generations.{age_in}
use Rattle.ledger.specs.Dependencies.{Smallest, holding_too}
use Rattle.ledger.specs.Equivocation.{Equivocates}
use Rattle.ledger.specs.Equivocators.{Answers, insane as insane_listing, listed, short}
use Rattle.ledger.specs.Meaning.{Admission, Entered, Proposed, Unknown, admitted, consumed, failed, full, insane, known, missing, new, remade, reserved}
use Rattle.ledger.specs.Meaning.{Status, Supersedes, Supersession, certified, finished, standing, superseded, unbooked, uncertified, unsigned}
use Rattle.ledger.specs.Quota.{asked, counts, is_over, signed_in}
use Rattle.ledger.specs.Refused.{is_counted, refused_ledger}
use Rattle.ledger.specs.Register.{Register, is_done, new_register}
use Rattle.ledger.specs.State.{acknowledgers_of, applied, arrived, arriving, counted, history_at, is_sane, signers_of, vault_at, version_of, visited, voted}
use Rattle.ledger.specs.State.{votes_at, votes_in, with_vault}
use Rattle.ledger.specs.Steps.{booked_gate, client_preflight_decision, commit_decision, dependencies_decision, dependencies_of, equivocators_decision}
use Rattle.ledger.specs.Steps.{equivocators_of, faulty_vote_decision, gate_of, generations_decision, preflight_decision, propose_decision, release_decision}
use Rattle.ledger.specs.Steps.{sane_gate}
use Rattle.ledger.specs.Steps.{show_decision, snapshot_decision, vault_gate}
use Rattle.ledger.specs.Worlds.{Event, Request, World, after, after_all, client_preflight, commit, dependencies, equivocating, faulty_vote, generations}
use Rattle.ledger.specs.Worlds.{left_by, lent, overlay, preflight, propose, release, reply_to, show, snapshot, start, step_of}
use Rattle.ledger.specs.declared.Change.TheVariants.{Hold, Nothing, Record, Release}
use Rattle.ledger.specs.declared.Decision.{Decision}
use Rattle.ledger.specs.declared.History.{History}
use Rattle.ledger.specs.declared.Ledger.{Ledger}
use Rattle.ledger.specs.declared.Listing.{Listing}

-- ---- small things
unlike : (b : Bool) → b ≡ not b → ⊥
unlike true e = true≢false e
unlike false e = true≢false (sym e)

wrong_one : (a b : Bool) → beq a b ≡ false → a ≡ not b
wrong_one true true e = absurd (true≢false e)
wrong_one true false e = refl
wrong_one false true e = refl
wrong_one false false e = absurd (true≢false e)

right_one : (a b : Bool) → beq a b ≡ true → a ≡ b
right_one true true e = refl
right_one true false e = absurd (true≢false (sym e))
right_one false true e = absurd (true≢false (sym e))
right_one false false e = refl

differ : {value : ℕ} {why : Refusal} → Ok value ≡ Err why → ⊥
differ e = true≢false (ap is_done e)

clash : {b : Bool} → b ≡ true → b ≡ false → ⊥
clash t f = true≢false (sym t ∙ f)

fails : {why : Refusal} → Err why ≡ Ok (tt {0}) → ⊥
fails p = true≢false (sym (ap is_pass p))
  where
    is_pass : Verdict → Bool
    is_pass (Ok _) = true
    is_pass (Err why) = false

-- the figures of a row of checks: those of its refusal, or these
abbrev number_or : ℕ → Verdict → ℕ
number_or number (Ok _) = number
number_or number (Err why) = refusal_number why

abbrev value_or : ℕ → Verdict → ℕ
value_or value (Ok _) = value
value_or value (Err why) = refusal_value why

-- ---- votes afterwards
vote_joins : (l : Ledger) (c : Column) (v k : ℕ) → k < length l.votes → votes_in (voted l c v k) c k ≡ with_member 16 (votes_in l c k) v
unfolding votes_in voted
vote_joins l c v k h = ap (column_of c) (get_or-set_same l.votes k (with_vote c v (votes_at l k)) no_votes h) ∙ joined c
  where
    joined : (c : Column) → column_of c (with_vote c v (votes_at l k)) ≡ with_member 16 (column_of c (votes_at l k)) v
    joined Signatures = refl
    joined Acknowledgements = refl

votes_arrive : (l : Ledger) (c : Column) (k : ℕ) → votes_in (arriving l k) c k ≡ votes_in l c k
unfolding votes_in
votes_arrive l c k = ap (λ (votes : List Votes). column_of c (get_or votes k no_votes)) (arrives l k).votes

module _ {w : World} {r : Register} (i : Inv w r) (e : Event) where
  abbrev l : Ledger
  l = w.ledger

  abbrev journal : List ℕ
  journal = lent w e

  sane : is_sane l ≡ true
  sane = (reflect_sane l).complete (shape_sane i.shape)

  -- ---- 4
  booked? : (k : ℕ) → Reflects (is_booked (version_of l) journal l.booked k) (Booked (version_of l) journal l.booked k)
  booked? k = reflect_booked (version_of l) journal l.booked k

  -- where a record is cut short the last one is
  cut_short : (place_of (version_of l) l.booked ≤ length journal → ⊥) → CutShort w e
  cut_short n = go l.booked refl
    where
      go : (m : ℕ) → l.booked ≡ m → CutShort w e
      go zero q = absurd (n (omega (arith, ap (place_of (version_of l)) q, place_first (version_of l))))
      go (suc m) q = record {
        which = m;
        below = omega (arith, q);
        has = λ inside. n (omega (arith, inside, ap (place_of (version_of l)) q, place_suc (version_of l) m));
      }

  not_cut : place_of (version_of l) l.booked ≤ length journal → CutShort w e → ⊥
  not_cut h s = s.has (omega (arith, h, place_before (version_of l) s.which l.booked s.below))

  is_unbooked : (k : ℕ) → (Booked (version_of l) journal l.booked k → ⊥) → Unbooked w e k
  is_unbooked k n = by (ltb k l.booked) refl
    where
      by : (b : Bool) → ltb k l.booked ≡ b → Unbooked w e k
      by false p = inl (ltb-false k l.booked p)
      by true p = inr (cut_short (λ h. n (record { inside = h; below = ltb-true k l.booked p })))

  not_unbooked : (k : ℕ) → Booked (version_of l) journal l.booked k → Unbooked w e k → ⊥
  not_unbooked k b u = ⊎_elim (λ (h : l.booked ≤ k). omega (arith, h, b.below)) (not_cut b.inside) u

  -- behind it the lent journal is read as the booked records
  jobs : place_of (version_of l) l.booked ≤ length journal → job_at (version_of l) journal l.booked ≡ booked_job w
  jobs h = jobs_read (version_of l) l.booked e.size w.booked e.beyond i.shape.records h

  -- ---- 3, 5, 4
  abbrev Gate : ℕ → Bool → ℕ → CheckRow → CheckRow
  Gate v wrong k rest = First (NotBelow w e v) 3 (First (has_bit l.settings.faulty v ≡ wrong) 5 (First (Unbooked w e k) 4 rest))

  gate_row : (v k : ℕ) (right : Bool) (rest : CheckRow) (d : Decision)
      → (Entered l journal v k right → rest (number_of d.outcome) (value_of d.outcome))
      → Gate v (not right) k rest (number_of (gated (vault_gate l journal v k right) d).outcome) (value_of (gated (vault_gate l journal v k right) d).outcome)
  unfolding vault_gate gate_of
  gate_row v k right rest d next =
      subst (λ (b : Bool). Shown (cond b (gate_of l.settings v right (is_booked (version_of l) journal l.booked k)) (Err BadSettings))) (sym sane)
      (by (ltb v l.settings.n) refl (beq (has_bit l.settings.faulty v) right) refl (is_booked (version_of l) journal l.booked k) refl)
    where
      Shown : Verdict → Type 0
      Shown g = Gate v (not right) k rest (number_of (gated g d).outcome) (value_of (gated g d).outcome)

      by : (a : Bool) → ltb v l.settings.n ≡ a → (b : Bool) → beq (has_bit l.settings.faulty v) right ≡ b → (c : Bool)
          → is_booked (version_of l) journal l.booked k ≡ c
          → Shown (cond a (cond b (cond c (Ok (tt {0})) (Err NotBooked)) (Err WrongVault)) (Err NoVault))
      by false p b q c r = inl (ltb-false v l.settings.n p, (refl, refl))
      by true p false q c r =
          inr (λ h. omega (arith, h, ltb-true v l.settings.n p), inl (wrong_one (has_bit l.settings.faulty v) right q, (refl, refl)))
      by true p true q false r =
          inr (
            λ h. omega (arith, h, ltb-true v l.settings.n p),
            inr (
              λ x. unlike right (sym (right_one (has_bit l.settings.faulty v) right q) ∙ x),
              inl (is_unbooked k (refuted (booked? k) r), (refl, refl)),
            ),
          )
      by true p true q true r =
          let known = (booked? k).sound r in
          let role = right_one (has_bit l.settings.faulty v) right q in
          inr (
            λ h. omega (arith, h, ltb-true v l.settings.n p),
            inr (
              λ x. unlike right (sym role ∙ x),
              inr (not_unbooked k known, next (record { sane = shape_sane i.shape; vault = ltb-true v l.settings.n p; role = role; known = known })),
            ),
          )

  -- what a step decides behind its gate, where it passes
  passing : {A : Type 0} (f : Decision → A) (v k : ℕ) (right : Bool) (d : Decision) → Entered l journal v k right
      → f (gated (vault_gate l journal v k right) d) ≡ f d
  passing f v k right d h = ap (λ (g : Verdict). f (gated g d)) (enters l journal v k right h)

  -- ---- 4 of a step that names no vault
  booked_row : (k : ℕ) (rest : CheckRow) (d : Decision)
      → (Booked (version_of l) journal l.booked k → rest (number_of d.outcome) (value_of d.outcome))
      → First (Unbooked w e k) 4 rest (number_of (gated (booked_gate l journal k) d).outcome) (value_of (gated (booked_gate l journal k) d).outcome)
  unfolding booked_gate
  booked_row k rest d next =
      subst (λ (b : Bool). Shown (cond b (cond (is_booked (version_of l) journal l.booked k) (Ok (tt {0})) (Err NotBooked)) (Err BadSettings))) (sym sane)
      (by (is_booked (version_of l) journal l.booked k) refl)
    where
      Shown : Verdict → Type 0
      Shown g = First (Unbooked w e k) 4 rest (number_of (gated g d).outcome) (value_of (gated g d).outcome)

      by : (c : Bool) → is_booked (version_of l) journal l.booked k ≡ c → Shown (cond c (Ok (tt {0})) (Err NotBooked))
      by false r = inl (is_unbooked k (refuted (booked? k) r), (refl, refl))
      by true r = inr (not_unbooked k ((booked? k).sound r), next ((booked? k).sound r))

  -- ---- 11 to 14
  abbrev AdmissionAt : ℕ → ℕ → (ℕ → Job) → Verdict → Type 0
  AdmissionAt v k job d = Admission job l.booked (vault_at l v).held (job_without (vault_at l v).signed k) (job k) d

  answered : (v k : ℕ) → Booked (version_of l) journal l.booked k → AdmissionAt v k (booked_job w)
      (admission_at (vault_at l v) (version_of l) journal l.booked k)
  unfolding admission_at
  answered v k b =
      subst (λ (job : ℕ → Job). AdmissionAt v k job (admission_at (vault_at l v) (version_of l) journal l.booked k)) (jobs b.inside)
      (admission_answers (job_at (version_of l) journal l.booked) l.booked (vault_at l v).held (job_without (vault_at l v).signed k)
      (job_at (version_of l) journal l.booked k))

  admitted_row : (v k value : ℕ) (rest : CheckRow) (d : Verdict) → AdmissionAt v k (booked_job w) d → (d ≡ Ok (tt {0}) → rest 0 value)
      → Admitted w e v k rest (number_or 0 d) (value_or value d)
  admitted_row v k value rest d (admitted a b c f) next = inr (a, inr (b, inr (c, inr (f, next refl))))
  admitted_row v k value rest d (missing x m) next = inl (refl, m)
  admitted_row v k value rest d (consumed x a m) next = inr (a, inl (refl, m))
  admitted_row v k value rest d (reserved x a b m) next = inr (a, inr (b, inl (refl, m)))
  admitted_row v k value rest d (remade x a b c m) next = inr (a, inr (b, inr (c, inl (refl, m))))

  -- ---- a vault's signature joins those that are recorded
  in_votes : {v k : ℕ} {right : Bool} → Entered l journal v k right → k < length l.votes
  in_votes h = omega (arith, h.known.below, i.shape.room, i.shape.votes)

  signature_joins : (v k : ℕ) (state : Vault) → k < length l.votes
      → signers_of (voted (with_vault l v state) Signatures v k) k ≡ with_member 16 (signers_of l k) v
  unfolding with_vault votes_in
  signature_joins v k state h = vote_joins (with_vault l v state) Signatures v k h

  -- ---- kind 2
  preflight_row : (v k total : ℕ) → ones (signers_of (applied l (preflight_decision l journal v k).change v k) k) ≡ total
      → AtCorrect w e v k (Where (SignedHere w e v k) (Value total) (Admitted w e v k (Value total)))
      (number_of (preflight_decision l journal v k).outcome) (value_of (preflight_decision l journal v k).outcome)
  unfolding preflight_decision preflighting consent vault_preflight applied
  preflight_row v k total t =
      gate_row v k false (Where (SignedHere w e v k) (Value total) (Admitted w e v k (Value total))) _
      (λ h. by h (job_has (vault_at l v).signed k) refl (admission_at (vault_at l v) (version_of l) journal l.booked k) (answered v k h.known)
      (sym (passing (λ d. ones (signers_of (applied l d.change v k) k)) v k false _ h) ∙ t))
    where
      by : Entered l journal v k false → (b : Bool) → job_has (vault_at l v).signed k ≡ b → (d : Verdict) → AdmissionAt v k (booked_job w) d
          → let answer : Signing = cond b (record { consent = Already; vault = vault_at l v }) (consented d (vault_at l v) k) in
          let decision : Decision = consenting answer.consent answer.vault (signers_of l k) v in
          ones (signers_of (applied l decision.change v k) k) ≡ total
          → Where (SignedHere w e v k) (Value total) (Admitted w e v k (Value total)) (number_of decision.outcome) (value_of decision.outcome)
      by h true s d a q = inl (s, (refl, q))
      by h false s (Ok _) a q =
          inr (
            λ t. clash t s,
            admitted_row v k (ones (with_member 16 (signers_of l k) v)) (Value total) (Ok (tt {0})) a
                (λ _. (refl, ap ones (sym (signature_joins v k (signing (vault_at l v) k) (in_votes h))) ∙ q)),
          )
      by h false s (Err why) a q = inr (λ t. clash t s, admitted_row v k 0 (Value total) (Err why) a (λ p. absurd (fails p)))

  -- ---- kinds 4 and 5
  vote_row : (c : Column) (v k total : ℕ) → ones (votes_in (applied l (faulty_vote_decision l journal c v k).change v k) c k) ≡ total
      → Gate v false k (Value total) (number_of (faulty_vote_decision l journal c v k).outcome) (value_of (faulty_vote_decision l journal c v k).outcome)
  unfolding faulty_vote_decision applied
  vote_row c v k total t = gate_row v k true (Value total) _ (λ h. (refl, ap ones (sym (vote_joins l c v k (in_votes h))) ∙ behind h))
    where
      behind : Entered l journal v k true → ones (votes_in (voted l c v k) c k) ≡ total
      behind h = sym (passing (λ d. ones (votes_in (applied l d.change v k) c k)) v k true (voting (votes_in l c k) v (Record c)) h) ∙ t

  -- ---- kind 3
  unsigned? : (k signers : ℕ) → Reflects (not (subset_of signers (signers_of l k))) (Unsigned signers (signers_of l k))
  unsigned? k signers = record {
    sound = λ t. by (any_below signers (λ u. has_bit signers u && not (has_bit (signers_of l k) u))) refl
        ((reflect_false (subset_of signers (signers_of l k))).sound t);
    complete = λ u. ap not (not_true_false (subset_of signers (signers_of l k))
        (λ s. clash (subset_has signers (signers_of l k) u.vault s u.named) u.missing));
  }
    where
      lacking : Reflects (any_below signers (λ u. has_bit signers u && not (has_bit (signers_of l k) u)))
          (Some signers (λ u. (has_bit signers u ≡ true) × (has_bit (signers_of l k) u ≡ false)))
      lacking = reflect_any signers (λ u h. reflect_and (reflect_true (has_bit signers u)) (reflect_false (has_bit (signers_of l k) u)))

      by : (b : Bool) → any_below signers (λ u. has_bit signers u && not (has_bit (signers_of l k) u)) ≡ b → subset_of signers (signers_of l k) ≡ false
          → Unsigned signers (signers_of l k)
      by true p f = let s = lacking.sound p in record { vault = s.which; named = s.has.0; missing = s.has.1 }
      by false p f =
          absurd (clash ((reflect_subset signers signers (signers_of l k) (below_power signers)).complete (λ u h b. not_false_true (has_bit (signers_of l k) u)
          (λ m. refuted lacking p (record { which = u; below = h; has = (b, m) })))) f)

  certified_row : (k signers : ℕ) (d : Decision) (rest : CheckRow) → (certificate l.settings (signers_of l k) signers ≡ Ok (tt {0})
      → rest (number_of d.outcome) (value_of d.outcome))
      → First (Unsigned signers (signers_of l k)) 15 (First (ones signers < l.settings.n - l.settings.b) 16 rest)
      (number_of (gated (certificate l.settings (signers_of l k) signers) d).outcome)
      (value_of (gated (certificate l.settings (signers_of l k) signers) d).outcome)
  unfolding certificate threshold_of
  certified_row k signers d rest next = by (subset_of signers (signers_of l k)) refl (leb (threshold_of l.settings) (ones signers)) refl
    where
      by : (a : Bool) → subset_of signers (signers_of l k) ≡ a → (b : Bool) → leb (threshold_of l.settings) (ones signers) ≡ b
          → First (Unsigned signers (signers_of l k)) 15 (First (ones signers < l.settings.n - l.settings.b) 16 rest)
          (number_of (gated (cond a (cond b (Ok (tt {0})) (Err TooFewSigners)) (Err NotSigned)) d).outcome)
          (value_of (gated (cond a (cond b (Ok (tt {0})) (Err TooFewSigners)) (Err NotSigned)) d).outcome)
      by false p b q = inl ((unsigned? k signers).sound (ap not p), (refl, refl))
      by true p false q =
          inr (refuted (unsigned? k signers) (ap not p), inl (leb-false (threshold_of l.settings) (ones signers) q, (refl, refl)))
      by true p true q =
          inr (
            refuted (unsigned? k signers) (ap not p),
            inr (
              λ h. omega (arith, h, leb-true (threshold_of l.settings) (ones signers) q),
              next (ap₂ (λ (x y : Bool). cond x (cond y (Ok (tt {0})) (Err TooFewSigners)) (Err NotSigned)) p q),
            ),
          )

  kept_joins : (v k : ℕ) (state : Vault) → k < length l.votes
      → acknowledgers_of (voted (with_vault l v state) Acknowledgements v k) k ≡ with_member 16 (acknowledgers_of l k) v
  unfolding with_vault votes_in
  kept_joins v k state h = vote_joins (with_vault l v state) Acknowledgements v k h

  acknowledgement_joins : (v k : ℕ) (state : Vault) → k < length l.votes
      → acknowledgers_of (arriving (voted (with_vault l v state) Acknowledgements v k) k) k ≡ with_member 16 (acknowledgers_of l k) v
  acknowledgement_joins v k state h = votes_arrive (voted (with_vault l v state) Acknowledgements v k) Acknowledgements k ∙ kept_joins v k state h

  commit_row : (v k signers total : ℕ) → ones (acknowledgers_of (applied l (commit_decision l journal v k signers).change v k) k) ≡ total
      → AtCorrect w e v k (First (Unsigned signers (signers_of l k)) 15 (First (ones signers < l.settings.n - l.settings.b) 16 (Value total)))
      (number_of (commit_decision l journal v k signers).outcome) (value_of (commit_decision l journal v k signers).outcome)
  unfolding commit_decision committing receiving votes_in applied
  commit_row v k signers total t =
      gate_row v k false (First (Unsigned signers (signers_of l k)) 15 (First (ones signers < l.settings.n - l.settings.b) 16 (Value total))) _
      (λ h. certified_row k signers (receiving (vault_at l v) (acknowledgers_of l k) v k) (Value total)
      (λ c. by h (job_has (vault_at l v).held k)
      (ap (λ (g : Verdict). ones (acknowledgers_of (applied l (gated g (receiving (vault_at l v) (acknowledgers_of l k) v k)).change v k) k)) (sym c)
      ∙ (sym (passing (λ d. ones (acknowledgers_of (applied l d.change v k) k)) v k false _ h) ∙ t))))
    where
      by : Entered l journal v k false → (b : Bool)
          → let decision : Decision = cond b (answering (ones (acknowledgers_of l k))) (voting (acknowledgers_of l k) v (Hold (holding (vault_at l v) k))) in
          ones (acknowledgers_of (applied l decision.change v k) k) ≡ total
          → Value total (number_of decision.outcome) (value_of decision.outcome)
      by h true q = (refl, q)
      by h false q = (refl, ap ones (sym (acknowledgement_joins v k (holding (vault_at l v) k) (in_votes h))) ∙ q)

  -- ---- kind 6
  abbrev Status? : ℕ → CheckRow
  Status? k = Where (FinishedNow w e k) (Value 2) (Where (CertifiedNow w e k) (Value 1) (Value 0))

  status_row : (k value : ℕ) → Status l.settings (votes_at l k) value → Status? k 0 value
  unfolding threshold_of votes_in
  status_row k value (finished f) = inl (f, (refl, refl))
  status_row k value (certified n c) = inr (n, inl (c, (refl, refl)))
  status_row k value (uncertified n m) = inr (n, inr (m, (refl, refl)))

  show_row : (k : ℕ) → First (Unbooked w e k) 4 (Status? k) (number_of (show_decision l journal k).outcome) (value_of (show_decision l journal k).outcome)
  unfolding show_decision
  show_row k = booked_row k (Status? k) _ (λ b. status_row k _ (status_means l.settings (votes_at l k)))

  -- ---- kind 8
  generations_row : ((m : ℕ) → Held l m → ByCreators (booked_job w) (arrived l) (age_at w) m) → (k : ℕ)
      → First (Unbooked w e k) 4 (First (Held l k → ⊥) 18 (Gives (GenerationsOf w e k)))
      (number_of (generations_decision l journal k).outcome) (value_of (generations_decision l journal k).outcome)
  unfolding generations_decision ageing
  generations_row created k =
      booked_row k (First (Held l k → ⊥) 18 (Gives (GenerationsOf w e k))) _ (λ b. by b (is_held l.settings l.vaults k) refl)
    where
      by : Booked (version_of l) journal l.booked k → (b : Bool) → is_held l.settings l.vaults k ≡ b
          → let decision : Decision = cond b (answering (age_in (job_at (version_of l) journal l.booked) l.order l.arrivals k)) (refusing NotHeld) in
          First (Held l k → ⊥) 18 (Gives (GenerationsOf w e k)) (number_of decision.outcome) (value_of decision.outcome)
      by b true h =
          inr (
            λ n. n ((reflect_held l k).sound h),
            (refl, record { figure = age_at w; by_creators = created; is = ap (λ (job : ℕ → Job). age_in job l.order l.arrivals k) (jobs b.inside) }),
          )
      by b false h = inl (refuted (reflect_held l k) h, (refl, refl))

  -- ---- kind 9
  snapshot_row : (total : ℕ) → job_count (applied l (snapshot_decision l).change 0 0).seen ≡ total
      → Value total (number_of (snapshot_decision l).outcome) (value_of (snapshot_decision l).outcome)
  unfolding snapshot_decision sane_gate snapshotting applied visited
  snapshot_row total t =
      by (is_sane l) sane t
    where
      by : (b : Bool) → b ≡ true
          → let decision : Decision = gated (cond b (Ok (tt {0})) (Err BadSettings)) (snapshotting l.settings l.next l.seen (vault_at l l.next).held) in
          job_count (applied l decision.change 0 0).seen ≡ total → Value total (number_of decision.outcome) (value_of decision.outcome)
      by true p q = (refl, q)
      by false p q = absurd (true≢false (sym p))

  -- ---- kind 10
  abbrev Released : ℕ → ℕ → ℕ → ℕ → CheckRow
  Released v k rival total =
      First (Unbooked w e rival) 4 (First (SignedHere w e v k → ⊥) 19 (First (NoRivalHeld w e v k rival) 20 (Value total)))

  lent_rivals : (k rival : ℕ) → Booked (version_of l) journal l.booked rival
      → Rivals (job_at (version_of l) journal l.booked) k rival → Rivals (booked_job w) k rival
  lent_rivals k rival b r = subst (λ (job : ℕ → Job). Rivals job k rival) (jobs b.inside) r

  rivals_lent : (k rival : ℕ) → Booked (version_of l) journal l.booked rival
      → Rivals (booked_job w) k rival → Rivals (job_at (version_of l) journal l.booked) k rival
  rivals_lent k rival b r = subst (λ (job : ℕ → Job). Rivals job k rival) (sym (jobs b.inside)) r

  no_rival : (v k rival : ℕ) → Booked (version_of l) journal l.booked rival → (Supersedes (vault_at l v) (version_of l) journal l.booked k rival → ⊥)
      → NoRivalHeld w e v k rival
  no_rival v k rival b n =
      by_test (job_has (vault_at l v).held rival)
      (λ t. inl (λ r. let q = rivals_lent k rival b r in n (record { different = q.different; held = t; shares = q.shares })))
      (λ f. inr (λ t. clash t f))

  some_rival : (v k rival : ℕ) → Booked (version_of l) journal l.booked rival → Supersedes (vault_at l v) (version_of l) journal l.booked k rival
      → NoRivalHeld w e v k rival → ⊥
  some_rival v k rival b p n =
      ⊎_elim (λ f. f (lent_rivals k rival b (record { different = p.different; shares = p.shares }))) (λ f. f p.held) n

  release_row : (v k rival total : ℕ) → ones (signers_of (applied l (release_decision l journal v k rival).change v k) k) ≡ total
      → AtCorrect w e v k (Released v k rival total)
      (number_of (release_decision l journal v k rival).outcome) (value_of (release_decision l journal v k rival).outcome)
  unfolding release_decision releasing applied with_vault votes_in
  release_row v k rival total t =
      gate_row v k false (Released v k rival total) _
      (λ h. by h (supersession (vault_at l v) (version_of l) journal l.booked k rival)
      (supersession_means (vault_at l v) (version_of l) journal l.booked k rival)
      (sym (passing (λ d. ones (signers_of (applied l d.change v k) k)) v k false _ h) ∙ t))
    where
      by : Entered l journal v k false → (d : Verdict) → Supersession (vault_at l v) (version_of l) journal l.booked k rival d
          → let decision : Decision = gated d (record { outcome = Ok (ones (signers_of l k)); change = Release (unsigning (vault_at l v) k) }) in
          ones (signers_of (applied l decision.change v k) k) ≡ total
          → Released v k rival total (number_of decision.outcome) (value_of decision.outcome)
      by h d (unbooked n) q = inl (is_unbooked rival n, (refl, refl))
      by h d (unsigned b s) q = inr (not_unbooked rival b, inl (λ t. clash t s, (refl, refl)))
      by h d (standing b s n) q = inr (not_unbooked rival b, inr (λ f. f s, inl (no_rival v k rival b n, (refl, refl))))
      by h d (superseded b s p) q = inr (not_unbooked rival b, inr (λ f. f s, inr (some_rival v k rival b p, (refl, q))))

  -- ---- kind 13
  equivocating_row : First (CutShort w e) 4 (Gives (NamedVaults w e))
      (number_of (equivocators_decision l journal).outcome) (value_of (equivocators_decision l journal).outcome)
  unfolding equivocators_decision
  equivocating_row = by (equivocators_of l journal) (answers l journal)
    where
      by : (a : Listing) → Answers l journal a → First (CutShort w e) 4 (Gives (NamedVaults w e)) (number_of a.outcome) (value_of a.outcome)
      by a (insane_listing n) = absurd (n (shape_sane i.shape))
      by a (short s n) = inl (cut_short n, (refl, refl))
      by a (listed vaults s h fits each) =
          inr (
            not_cut h,
            (
              refl,
              record {
                vaults = vaults;
                fits = fits;
                each = subst (λ (job : ℕ → Job). (v : ℕ) → Reflects (job_has vaults v)
                    ((v < l.settings.n) × Equivocates l.settings (signers_of l) job l.booked v))
                    (jobs h) each;
                is = refl;
              },
            ),
          )

  -- ---- kind 1: 6 to 9
  abbrev Checked : List ℕ → CheckRow → CheckRow
  Checked bytes rest =
      First (MalformedRecord w e bytes) 6
      (FirstAmong 8 (RepeatedAt (job_of bytes)) 7
      (FirstAmong 8 (UnsupportedAt takes (job_of bytes)) 8
      (First (Balanced (job_of bytes) → ⊥) 9 rest)))

  checked_row : (bytes : List ℕ) (rest : CheckRow) (number value : ℕ) → (examined (version_of l) bytes ≡ Ok (tt {0}) → rest number value)
      → Checked bytes rest (number_or number (examined (version_of l) bytes)) (value_or value (examined (version_of l) bytes))
  unfolding examined
  checked_row bytes rest number value next =
      by (eqb (length bytes) (record_size (version_of l))) refl (check_of (job_of bytes)) (check_answers (job_of bytes)) next
    where
      by : (b : Bool) → eqb (length bytes) (record_size (version_of l)) ≡ b → (d : Verdict) → Answer (job_of bytes) d
          → (cond b d (Err Malformed) ≡ Ok (tt {0}) → rest number value)
          → Checked bytes rest (number_or number (cond b d (Err Malformed))) (value_or value (cond b d (Err Malformed)))
      by false p d a next = inl (λ h. eqb-false (length bytes) (record_size (version_of l)) p h.0, (refl, refl))
      by true p d (malformed n) next = inl (λ h. n h.1, (refl, refl))
      by true p d (repeated x f m) next = inr (λ n. n (eqb-true (length bytes) (record_size (version_of l)) p, f), inl (refl, m))
      by true p d (unsupported x f a m) next = inr (λ n. n (eqb-true (length bytes) (record_size (version_of l)) p, f), inr (a, inl (refl, m)))
      by true p d (unbalanced f a c n) next =
          inr (λ n. n (eqb-true (length bytes) (record_size (version_of l)) p, f), inr (a, inr (c, inl (n, (refl, refl)))))
      by true p d (passes f a c b) next =
          inr (λ n. n (eqb-true (length bytes) (record_size (version_of l)) p, f), inr (a, inr (c, inr (λ n. n b, next refl))))

  -- the booked records that lie wholly inside
  inside_below : (k : ℕ) → k < inside_of (version_of l) journal l.booked → (k < l.booked) × Inside w e k
  unfolding inside_of
  inside_below k h = (omega arith, whole_room (version_of l) k (length journal) (omega arith))

  below_inside : (k : ℕ) → k < l.booked → Inside w e k → k < inside_of (version_of l) journal l.booked
  unfolding inside_of
  below_inside k h p = omega (arith, room_whole (version_of l) k (length journal) p)

  no_equal : (bytes : List ℕ) → Unknown l journal bytes → Every l.booked (λ k. EqualAt w e bytes k → ⊥)
  no_equal bytes u k h p = u k (below_inside k h p.0) p.1

  abbrev Placed : List ℕ → CheckRow
  Placed bytes = FirstAmong l.booked (EqualAt w e bytes) 0 (First (BookFull w e) 10 (Value l.booked))

  propose_row : (bytes : List ℕ) → Checked bytes (Placed bytes) (number_of (propose_decision l journal bytes).outcome)
      (value_of (propose_decision l journal bytes).outcome)
  propose_row bytes = by (propose_decision l journal bytes) (proposed l journal bytes)
    where
      passed : (number value : ℕ) → examined (version_of l) bytes ≡ Ok (tt {0}) → Placed bytes number value → Checked bytes (Placed bytes) number value
      passed number value p next =
          subst (λ (d : Verdict). Checked bytes (Placed bytes) (number_or number d) (value_or value d)) p
          (checked_row bytes (Placed bytes) number value (λ _. next))

      by : (d : Decision) → Proposed l journal bytes d → Checked bytes (Placed bytes) (number_of d.outcome) (value_of d.outcome)
      by d (insane n) = absurd (n (shape_sane i.shape))
      by d (failed why s p) =
          subst (λ (d : Verdict). Checked bytes (Placed bytes) (number_or 0 d) (value_or 0 d)) p
          (checked_row bytes (Placed bytes) 0 0 (λ q. absurd (fails (sym p ∙ q))))
      by d (known k h) = passed 0 k h.passes (inl (
        refl,
        record {
          below = (inside_below k h.first.below).0;
          has = ((inside_below k h.first.below).1, h.first.has);
          none_before = λ m b p. h.first.none_before m b p.1;
        },
      ))
      by d (new h) = passed 0 l.booked h.passes (inr (
        no_equal bytes h.unknown,
        inr (⊎_elim (λ (p : 128 ≤ l.booked). omega (arith, p, h.below)) (λ p. p h.fits), (refl, refl)),
      ))
      by d (full h) = passed 10 0 h.passes (inr (
        no_equal bytes h.unknown,
        inl (
          ⊎_elim inl (λ (p : length journal < place_of (version_of l) l.booked + record_size (version_of l)). inr (λ q. omega (arith, p, q))) h.full,
          (refl, refl),
        ),
      ))

  -- ---- kind 11
  in_place : {v k : ℕ} → Entered l journal v k false → InPlace w e.size e.beyond v k
  in_place h = record { correct = record { below = h.vault; sound = h.role }; booked = h.known.below; whole = h.known.inside }

  -- a set that can't fail to work works: each part of the claim is decided by a test
  works_decided : (v k : ℕ) (s : JobSet) → ((SetWorks w e v k s → ⊥) → ⊥) → SetWorks w e v k s
  works_decided v k s n = record {
    fits = record {
      low_fits = decided (reflect_lt s.low (2 ^ 64)) (λ f. n (λ t. f t.fits.low_fits));
      high_fits = decided (reflect_lt s.high (2 ^ 64)) (λ f. n (λ t. f t.fits.high_fits));
    };
    somewhere = λ m h. decided (somewhere_held l m) (λ f. n (λ t. f (t.somewhere m h)));
    accepted = decided (reflect_true (accepts (holding_too w v s) e.size e.beyond (preflight v k))) (λ f. n (λ t. f t.accepted));
  }

  abbrev NoSet : ℕ → ℕ → Type 0
  NoSet v k = (s : JobSet) → SetWorks w e v k s → ⊥

  dependencies_row : (v k : ℕ) → AtCorrect w e v k (First (NoSet v k) 21 (Gives (SmallestSize w e v k)))
      (number_of (dependencies_decision l journal v k).outcome) (value_of (dependencies_decision l journal v k).outcome)
  unfolding dependencies_decision dependencies_of requiring supplying
  dependencies_row v k =
      subst (λ (o : Outcome). AtCorrect w e v k (First (NoSet v k) 21 (Gives (SmallestSize w e v k))) (number_of o) (value_of o))
      (gate_listing (vault_gate l journal v k false))
      (gate_row v k false (First (NoSet v k) 21 (Gives (SmallestSize w e v k))) (record { outcome = found.outcome; change = Nothing })
      (λ h. by (job_has (vault_at l v).signed k) (admission_at (receiving_all (vault_at l v) suppliers) (version_of l) journal l.booked k) suppliers
      (subst (Smallest w e.size e.beyond v k) (ap (λ (g : Verdict). gated_listing g found)
      (enters l journal v k false h)) (smallest i e.size e.beyond v k (in_place h)))))
    where
      suppliers : JobSet
      suppliers =
          missing_jobs (job_at (version_of l) journal l.booked) l.booked (vault_at l v).held (held_somewhere l.settings l.vaults)
          (job_at (version_of l) journal l.booked k)

      found : Listing
      found = requiring (vault_at l v) (held_somewhere l.settings l.vaults) (version_of l) journal l.booked k

      gate_listing : (g : Verdict) → (gated g (record { outcome = found.outcome; change = Nothing })).outcome ≡ (gated_listing g found).outcome
      gate_listing (Ok _) = refl
      gate_listing (Err why) = refl

      sized : (s : JobSet) → Smallest w e.size e.beyond v k (listing s) → First (NoSet v k) 21 (Gives (SmallestSize w e v k)) 0 (job_count s)
      sized s t =
          let some : NoSet v k → ⊥ = λ n. differ (t.none.1 n) in
          inr (
            some,
            (
              refl,
              record {
                jobs = s;
                works = works_decided v k s (λ n. some (λ c x. n (t.works c x)));
                smallest = t.smallest;
                only = t.only;
                is = refl;
              },
            ),
          )

      by : (b : Bool) (d : Verdict) (s : JobSet) → let a : Listing = cond b (listing no_jobs) (if_admitted d s) in Smallest w e.size e.beyond v k a
          → First (NoSet v k) 21 (Gives (SmallestSize w e v k)) (number_of a.outcome) (value_of a.outcome)
      by true d s t = sized no_jobs t
      by false (Ok _) s t = sized s t
      by false (Err why) s t = inl (t.none.0 refl, (refl, refl))

  -- ---- kind 12
  -- the history that is kept decides what the requests seen from outside say
  spent? : (past : ℕ → ℕ → List Ask) (v k client : ℕ) → e.request ≡ client_preflight v k client
      → (counts (reply_to w e).outcome ≡ true → is_over (reply_to w e).outcome ≡ (not (signed_in w v k) && spends (past v client)))
      → Entered l journal v k false → is_client client ≡ true → job_has (vault_at l v).signed k ≡ false
      → is_spent (history_at l v client) ≡ spends (past v client)
  unfolding client_preflight_decision client_preflighting counted_consent vault_preflight within_quota
  spent? past v k client q decides h c s =
      let is : (reply_to w e).outcome ≡ said (is_spent (history_at l v client)) (admission_at (vault_at l v) (version_of l) journal l.booked k) =
      ap (λ (x : Request). (step_of l journal x).outcome) q ∙ simp (enters l journal v k false h, c, s) in
      let o = over (is_spent (history_at l v client)) (admission_at (vault_at l v) (version_of l) journal l.booked k)
      (admission_says is_counted true (vault_at l v) (version_of l) journal l.booked k refl refl refl refl)
      (admission_says (λ n. eqb n 23) false (vault_at l v) (version_of l) journal l.booked k refl refl refl refl) in
      sym o.1 ∙ (ap is_over (sym is) ∙ (decides (ap counts is ∙ o.0) ∙ ap (λ (b : Bool). not b && spends (past v client)) s))
    where
      said : Bool → Verdict → Outcome
      said b d =
          let answer : Signing = consented (cond b (Err OverQuota) d) (vault_at l v) k in
          (counting answer.consent answer.vault client (history_at l v client) (signers_of l k) v).outcome

      over : (b : Bool) (d : Verdict) → Says is_counted true d → Says (λ n. eqb n 23) false d → (counts (said b d) ≡ true) × (is_over (said b d) ≡ b)
      over true d a c = (refl, refl)
      over false (Ok _) a c = (refl, refl)
      over false (Err why) a c = (a, c)

  -- a new signature, and a request that enters the history alone
  grant_joins : (v k : ℕ) (state : Vault) (h : History) → k < length l.votes
      → signers_of (counted (voted (with_vault l v state) Signatures v k) v h) k ≡ with_member 16 (signers_of l k) v
  unfolding counted with_vault votes_in
  grant_joins v k state h b = vote_joins (with_vault l v state) Signatures v k b

  unasked : (v k : ℕ) (h : History) → signers_of l k ≡ signers_of (counted l v h) k
  unfolding counted votes_in
  unasked v k h = refl

  abbrev Asked : (ℕ → ℕ → List Ask) → ℕ → ℕ → ℕ → ℕ → CheckRow
  Asked past v k client total =
      First (7 < client) 22
      (Where (SignedHere w e v k) (Value total) (First (4 ≤ news (take 15 (past v client))) 23 (Admitted w e v k (Value total))))

  client_row : (past : ℕ → ℕ → List Ask) (v k client total : ℕ)
      → (Entered l journal v k false → is_client client ≡ true → job_has (vault_at l v).signed k ≡ false
      → is_spent (history_at l v client) ≡ spends (past v client))
      → ones (signers_of (applied l (client_preflight_decision l journal v k client).change v k) k) ≡ total
      → AtCorrect w e v k (Asked past v k client total)
      (number_of (client_preflight_decision l journal v k client).outcome) (value_of (client_preflight_decision l journal v k client).outcome)
  unfolding client_preflight_decision client_preflighting counted_consent vault_preflight within_quota is_client applied
  client_row past v k client total spent t =
      gate_row v k false (Asked past v k client total) _
      (λ h. by h (ltb client 8) refl (job_has (vault_at l v).signed k) refl (is_spent (history_at l v client)) refl
      (admission_at (vault_at l v) (version_of l) journal l.booked k) (answered v k h.known)
      (sym (passing (λ d. ones (signers_of (applied l d.change v k) k)) v k false _ h) ∙ t))
    where
      within : (b : Bool) → b ≡ spends (past v client) → Reflects b (4 ≤ news (take 15 (past v client)))
      within b q = subst (λ (c : Bool). Reflects c (4 ≤ news (take 15 (past v client)))) (sym q) (reflect_le 4 (news (take 15 (past v client))))

      by : Entered l journal v k false → (a : Bool) → ltb client 8 ≡ a → (b : Bool) → job_has (vault_at l v).signed k ≡ b → (c : Bool)
          → is_spent (history_at l v client) ≡ c → (d : Verdict) → AdmissionAt v k (booked_job w) d
          → let answer : Signing = cond b (record { consent = Already; vault = vault_at l v }) (consented (cond c (Err OverQuota) d) (vault_at l v) k) in
          let decision : Decision = cond a (counting answer.consent answer.vault client (history_at l v client) (signers_of l k) v) (refusing NoClient) in
          ones (signers_of (applied l decision.change v k) k) ≡ total
          → Asked past v k client total (number_of decision.outcome) (value_of decision.outcome)
      by h false p b s c x d a q = inl (ltb-false client 8 p, (refl, refl))
      by h true p true s c x d a q = inr (λ f. omega (arith, f, ltb-true client 8 p), inl (s, (refl, ap ones (unasked v k _) ∙ q)))
      by h true p false s true x d a q =
          inr (λ f. omega (arith, f, ltb-true client 8 p), inr (λ f. clash f s, inl ((within true (sym x ∙ spent h p s)).sound refl, (refl, refl))))
      by h true p false s false x (Ok _) a q =
          inr (
            λ f. omega (arith, f, ltb-true client 8 p),
            inr (
              λ f. clash f s,
              inr (
                refuted (within false (sym x ∙ spent h p s)) refl,
                admitted_row v k (ones (with_member 16 (signers_of l k) v)) (Value total) (Ok (tt {0})) a
                    (λ _. (refl, ap ones (sym (grant_joins v k (signing (vault_at l v) k) _ (in_votes h))) ∙ q)),
              ),
            ),
          )
      by h true p false s false x (Err why) a q =
          inr (
            λ f. omega (arith, f, ltb-true client 8 p),
            inr (
              λ f. clash f s,
              inr (
                refuted (within false (sym x ∙ spent h p s)) refl,
                admitted_row v k 0 (Value total) (Err why) a (λ f. absurd (fails f)),
              ),
            ),
          )

  -- ---- the step that an event asks for
  ledger_after : (q : Request) → e.request ≡ q → (step_of l journal q).ledger ≡ (after w e).ledger
  unfolding after
  ledger_after q p = ap (λ (x : Request). (step_of l journal x).ledger) (sym p)

  row : (past : ℕ → ℕ → List Ask)
      → ((m : ℕ) → Held l m → ByCreators (booked_job w) (arrived l) (age_at w) m)
      → ((v k client : ℕ) → e.request ≡ client_preflight v k client → counts (reply_to w e).outcome ≡ true
      → is_over (reply_to w e).outcome ≡ (not (signed_in w v k) && spends (past v client)))
      → (q : Request) → e.request ≡ q → order w e past q (number_of (step_of l journal q).outcome) (value_of (step_of l journal q).outcome)
  row past created decides (propose bytes) p = propose_row bytes
  row past created decides (preflight v k) p = preflight_row v k _ (ap (λ (x : Ledger). ones (signers_of x k)) (ledger_after (preflight v k) p))
  row past created decides (commit v k signers) p =
      commit_row v k signers _ (ap (λ (x : Ledger). ones (acknowledgers_of x k)) (ledger_after (commit v k signers) p))
  row past created decides (faulty_vote Signatures v k) p =
      vote_row Signatures v k _ (ap (λ (x : Ledger). ones (signers_of x k)) (ledger_after (faulty_vote Signatures v k) p))
  row past created decides (faulty_vote Acknowledgements v k) p =
      vote_row Acknowledgements v k _ (ap (λ (x : Ledger). ones (acknowledgers_of x k)) (ledger_after (faulty_vote Acknowledgements v k) p))
  row past created decides (show k) p = show_row k
  row past created decides (generations k) p = generations_row created k
  row past created decides snapshot p = snapshot_row _ (ap (λ (x : Ledger). job_count x.seen) (ledger_after snapshot p))
  row past created decides (release v k rival) p =
      release_row v k rival _ (ap (λ (x : Ledger). ones (signers_of x k)) (ledger_after (release v k rival) p))
  row past created decides (dependencies v k) p = dependencies_row v k
  row past created decides (client_preflight v k client) p =
      client_row past v k client _ (spent? past v k client p (decides v k client p))
      (ap (λ (x : Ledger). ones (signers_of x k)) (ledger_after (client_preflight v k client) p))
  row past created decides equivocating p = equivocating_row

-- ---- wherever a list of steps has led
pub demand1 : Demand1
demand1 n b faulty version lawful es e =
    let w₀ = start n b faulty version in
    let i = along es w₀ (new_register version) (first n b faulty version lawful) in
    row i e (λ v client. asked v client w₀ es []) (generations_by_creators n b faulty version lawful es)
    (λ v k client p. (quota n b faulty version lawful es v client).decides e k p) e.request refl

-- ---- a refused step
same_count : (l : Ledger) (q : Request) (why : Refusal) → (refused_ledger l q why).booked ≡ l.booked
unfolding counted
same_count l (propose bytes) why = refl
same_count l (preflight v k) why = refl
same_count l (commit v k signers) why = refl
same_count l (faulty_vote c v k) why = refl
same_count l (show k) why = refl
same_count l (generations k) why = refl
same_count l snapshot why = refl
same_count l (release v k rival) why = refl
same_count l (dependencies v k) why = refl
same_count l equivocating why = refl
same_count l (client_preflight v k client) why =
    by_cases (λ b. (cond b (counted l v (history_with client (history_at l v client) false)) l).booked ≡ l.booked) (is_counted (refusal_number why)) (λ _. refl)
    (λ _. refl)

-- the world after a step that left the journal as it was lent
refused_world : (w : World) → Shape w.ledger w.booked → (e : Event) (l : Ledger) → (reply_to w e).ledger ≡ l → l.booked ≡ w.ledger.booked
    → left_by w.ledger (lent w e) e.request ≡ lent w e → after w e ≡ record { ledger = l; booked = w.booked }
unfolding after
refused_world w sh e l a b c =
    let version = version_of w.ledger in
    ap₂ (λ (x : Ledger) (journal : List ℕ). record { ledger = x; booked = take (place_of version x.booked) (overlay journal w.booked) }) a c
    ∙ ap (λ (bytes : List ℕ). record { ledger = l; booked = bytes })
    (ap (λ (n : ℕ). take n (overlay (lent w e) w.booked)) (ap (λ (n : ℕ). place_of version n) b ∙ sym sh.records)
    ∙ kept_bytes e.size w.booked e.beyond)

-- a refused step leaves the journal as it was lent, and so the booked bytes
pub refused_unchanged : RefusedUnchanged
unfolding after
refused_unchanged n b faulty version lawful es e why refused =
    let w = after_all (start n b faulty version) es in
    let i = along es (start n b faulty version) (new_register version) (first n b faulty version lawful) in
    let u = unchanged w.ledger (lent w e) e.request why refused in
    refused_world w i.shape e (refused_ledger w.ledger e.request why) u.0 (same_count w.ledger e.request why) u.1
