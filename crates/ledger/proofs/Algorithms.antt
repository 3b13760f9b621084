-- Preflight and commit are the paper's Algorithms 1 and 2 with document 01's mends, behind checks 1, 3, 5 and 4: a vault signs a job that
-- it has not signed exactly where Algorithm 1 does, and holds one exactly where Algorithm 2's threshold signature is valid.
use mathlib.Core.Bool.{Bool, cond, false, true, true≢false}
use mathlib.Core.List.{List}
use mathlib.Core.Path.{◌∙◌, ◌≡◌, ap, refl, sym}
use Prim.Native.Nat.{ℕ}
use lib.Count.{ones}
use lib.Dec.{leb}
use borrow.Author.Tests.{le-leb, leb-true}
use Rattle.base.proofs.Members.{in_map}
use Rattle.base.proofs.Reflect.{by_cases, not_true_false}
use Rattle.base.specs.Reflect.{Reflects}
use Rattle.outcome.specs.declared.Refusal.TheVariants.{NotSigned, TooFewSigners}
use Rattle.outcome.specs.Figures.{Verdict}
use Rattle.std.specs.Prelude.{Ok, Err}
use Rattle.conflicts.proofs.Tapes.{checked_well_formed}
use Rattle.checks.specs.Checks.{check_of}
use Rattle.conflicts.specs.Tapes.{output_tapes}
use Rattle.record.specs.declared.Entry.{Entry}
use Rattle.record.specs.declared.Job.{Job}
use Rattle.sets.proofs.Bits.{reflect_subset, subset_has}
use Rattle.sets.proofs.Size.{below_power}
use Rattle.sets.specs.Bits.{subset_of}
use Rattle.job_sets.specs.Jobs.{job_has, job_without}
use Rattle.ledger.proofs.Gates.{enters}
use Rattle.ledger.proofs.Paper.{admission_signs, signs_admission}
use Rattle.queries.specs.Admission.{admission}
use Rattle.federation.specs.Federation.{threshold_of}
use Rattle.ledger.specs.Graph.{Algorithm1, Certificate}
use Rattle.journal.specs.Journal.{job_at}
use Rattle.ledger.specs.Meaning.{Entered}
use Rattle.ledger.specs.Register.{is_done, passes}
use Rattle.ledger.specs.State.{acknowledgers_of, signers_of, vault_at, version_of, votes_in}
use Rattle.ledger.specs.Decisions.{admission_at, answering, certificate, committing, consent, consenting, gated, preflighting, receiving, voting}
use Rattle.ledger.specs.Steps.{commit_decision, preflight_decision}
use Rattle.vaults.specs.Vaults.{consented, holding, signing, vault_preflight}
use Rattle.federation.specs.declared.Settings.{Settings}
use Rattle.ledger.specs.declared.Change.TheVariants.{Hold, Sign}
use Rattle.ledger.specs.declared.Decision.{Decision}
use Rattle.ledger.specs.declared.Ledger.{Ledger}
use Rattle.vaults.specs.declared.Vault.{Vault}

-- commit: checks 15 and 16 pass exactly where Algorithm 2's signature is valid
pub certificate_valid : (s : Settings) (recorded signers : ℕ) → Reflects (passes (certificate s recorded signers)) (Certificate s recorded signers)
unfolding certificate
certificate_valid s recorded signers = record {
  sound = λ e. by (subset_of signers recorded) refl (leb (threshold_of s) (ones signers)) refl e;
  complete = λ c. simp ((reflect_subset signers signers recorded (below_power signers)).complete (λ i b. c.signed i), le-leb _ _ c.enough);
}
  where
    by : (a : Bool) → subset_of signers recorded ≡ a → (b : Bool) → leb (threshold_of s) (ones signers) ≡ b
        → passes (cond a (cond b (Ok (tt {0})) (Err TooFewSigners)) (Err NotSigned)) ≡ true → Certificate s recorded signers
    by true t true q e = record { signed = λ u. subset_has signers recorded u t; enough = leb-true _ _ q }
    by true t false q e = absurd (true≢false (sym e))
    by false t b q e = absurd (true≢false (sym e))

-- what is decided behind a row of checks is answered 0 exactly where they pass
passed : (g : Verdict) (d : Decision) → is_done d.outcome ≡ true → is_done (gated g d).outcome ≡ passes g
passed (Ok _) d e = e
passed (Err why) d e = refl

module _ (l : Ledger) (journal : List ℕ) (v k : ℕ) (in_place : Entered l journal v k false) where
  abbrev vault : Vault
  vault = vault_at l v

  abbrev jobs : ℕ → Job
  jobs = job_at (version_of l) journal l.booked

  -- the member that Algorithm 1 runs at signs
  abbrev pub Signs : Type 0
  Signs = Algorithm1 jobs l.booked vault.held (job_without vault.signed k) (jobs k)

  -- "A job signed here before is accepted again and changes nothing."
  pub signed_again : job_has vault.signed k ≡ true → preflight_decision l journal v k ≡ answering (ones (signers_of l k))
  unfolding preflight_decision preflighting consent vault_preflight
  signed_again s = simp (enters l journal v k false in_place, s)

  pub asked : job_has vault.signed k ≡ false
      → preflight_decision l journal v k
      ≡ (let s = consented (admission jobs l.booked vault.held (job_without vault.signed k) (jobs k)) vault k in consenting s.consent
      s.vault (signers_of l k) v)
  unfolding preflight_decision preflighting consent vault_preflight admission_at
  asked s = simp (enters l journal v k false in_place, s)

  -- "Otherwise the vault signs if and only if checks 11 to 14 pass": where Algorithm 1 signs, the vault does
  pub algorithm_signs : job_has vault.signed k ≡ false → Signs → preflight_decision l journal v k ≡ voting (signers_of l k) v (Sign (signing vault k))
  algorithm_signs s a = asked s ∙ simp (signs_admission jobs l.booked vault.held (job_without vault.signed k) (jobs k) a)

  -- and only there; a booked record passed checks 6 to 9
  pub by_verdict : (d : Verdict) → is_done (let s = consented d vault k in consenting s.consent s.vault (signers_of l k) v).outcome ≡ true → d ≡ Ok (tt {0})
  by_verdict (Ok _) e = refl
  by_verdict (Err why) e = absurd (true≢false (sym e))

  pub signs_algorithm : check_of (jobs k) ≡ Ok (tt {0}) → job_has vault.signed k ≡ false → is_done (preflight_decision l journal v k).outcome ≡ true → Signs
  signs_algorithm h s e =
      admission_signs jobs l.booked vault.held (job_without vault.signed k) (jobs k) h
      (by_verdict _ (ap (λ (d : Decision). is_done d.outcome) (sym (asked s)) ∙ e))

  -- a job that is held but was not signed is refused: a held job made its outputs, namely it itself
  pub held_refused : check_of (jobs k) ≡ Ok (tt {0}) → job_has vault.held k ≡ true → job_has vault.signed k ≡ false
      → is_done (preflight_decision l journal v k).outcome ≡ false
  held_refused h m s = not_true_false _ (λ e.
      let made = in_map (λ (t : Entry). t.label) (output_tapes (jobs k)) _ (checked_well_formed (jobs k) h).made in
      (signs_algorithm h s e).admissible.fresh _ made (record { which = k; below = in_place.known.below; member = m; lists = made }))

  received : is_done (receiving vault (acknowledgers_of l k) v k).outcome ≡ true
  unfolding receiving
  received =
      let votes = acknowledgers_of l k in
      by_cases (λ b. is_done (cond b (answering (ones votes)) (voting votes v (Hold (holding vault k)))).outcome ≡ true) (job_has vault.held k)
      (λ e. refl) (λ e. refl)

  -- Algorithm 2: a commit is answered 0 exactly where the signature is valid; admissibility is not tested again
  pub commits : (signers : ℕ) → is_done (commit_decision l journal v k signers).outcome ≡ passes (certificate l.settings (signers_of l k) signers)
  unfolding commit_decision committing votes_in
  commits signers = simp (enters l journal v k false in_place) (passed (certificate l.settings (signers_of l k) signers) _ received)
