-- What is not a proposal books nothing; so a new record is the one that was proposed, and there is room for it.
use mathlib.Core.Bool.{cond, false, true≢false}
use mathlib.Core.List.{List}
use mathlib.Core.Logic.{◌⊎◌, inl, inr, ⊎_elim}
use mathlib.Core.Path.{◌∙◌, ◌≡◌, ap, refl, subst, sym}
use Prim.Native.Nat.{ℕ}
use lib.Count.{ones}
use lib.ListN.{drop, take}
use Rattle.base.proofs.Reflect.{by_cases}
use Rattle.codec.specs.Codec.{record_size}
use Rattle.outcome.specs.Figures.{Verdict}
use Rattle.std.specs.Prelude.{Ok, Err}
use Rattle.outcome.specs.declared.Refusal.TheVariants.{NoClient}
use Rattle.quota.specs.Quota.{is_client}
use Rattle.job_sets.specs.Jobs.{job_has}
use Rattle.ledger.proofs.Writes.{writes}
use Rattle.ledger.specs.Decisions.{admission_at, answering, client_preflighting, committing, consent, consenting}
use Rattle.ledger.specs.Decisions.{counted_consent, counting, gated, is_book, preflighting, proposal}
use Rattle.ledger.specs.Decisions.{receiving, refusing, releasing, snapshotting, supersession, voting, within_quota}
use Rattle.ledger.specs.Given.{Writable}
use Rattle.vaults.specs.Vaults.{holding, vault_preflight}
use Rattle.ledger.specs.declared.Change.TheVariants.{Book, Hold}
use Rattle.vaults.specs.declared.Consent.{Consent}
use Rattle.vaults.specs.declared.Consent.TheVariants.{Already, Denied, Fresh}
use Rattle.ledger.specs.declared.Decision.{Decision}
use Rattle.vaults.specs.declared.Vault.{Vault}
use Rattle.runfile.specs.Steps.{command_in}
use Rattle.runfile.specs.declared.Kind.{Kind}
use Rattle.runfile.specs.declared.Kind.TheVariants.{ClientPreflight, Commit, Dependencies, Draw, Equivocating, FaultyAcknowledge, FaultySign, Generations}
use Rattle.runfile.specs.declared.Kind.TheVariants.{Preflight, Propose, Release, Show, Snapshot, Unknown}
use Rattle.kinds.specs.Decided.{decided_by}
use Rattle.kinds.specs.declared.View.{View}

pub record Bookless (d : Decision) : Type 0 where
  pub none : is_book d.change ≡ false

behind : (g : Verdict) (d : Decision) → Bookless d → Bookless (gated g d)
behind (Ok _) d b = b
behind (Err why) d b = record { none = refl }

consented : (c : Consent) (next : Vault) (signers v : ℕ) → Bookless (consenting c next signers v)
consented Already next signers v = record { none = refl }
consented Fresh next signers v = record { none = refl }
consented (Denied why) next signers v = record { none = refl }

signed : (state : Vault) (version : ℕ) (journal : List ℕ) (booked signers v job : ℕ) → Bookless (preflighting state version journal booked signers v job)
unfolding preflighting consent
signed state version journal booked signers v job =
    let answer = vault_preflight state (admission_at state version journal booked job) job in
    consented answer.consent answer.vault signers v

received : (state : Vault) (acknowledgers v job : ℕ) → Bookless (receiving state acknowledgers v job)
unfolding receiving
received state acknowledgers v job =
    by_cases (λ b. Bookless (cond b (answering (ones acknowledgers)) (voting acknowledgers v (Hold (holding state job)))))
    (job_has state.held job) (λ e. record { none = refl }) (λ e. record { none = refl })

released : (state : Vault) (version : ℕ) (journal : List ℕ) (booked signers job rival : ℕ)
    → Bookless (releasing state version journal booked signers job rival)
unfolding releasing
released state version journal booked signers job rival = behind (supersession state version journal booked job rival) _ (record { none = refl })

counted : (c : Consent) (next : Vault) (client history signers v : ℕ) → Bookless (counting c next client history signers v)
counted Already next client history signers v = record { none = refl }
counted Fresh next client history signers v = record { none = refl }
counted (Denied why) next client history signers v = record { none = refl }

requested : (state : Vault) (version : ℕ) (journal : List ℕ) (booked client history signers v job : ℕ)
    → Bookless (client_preflighting state version journal booked client history signers v job)
unfolding client_preflighting counted_consent
requested state version journal booked client history signers v job =
    let admission = admission_at state version journal booked job in
    let answer = vault_preflight state (within_quota history admission) job in
    by_cases (λ b. Bookless (cond b (counted_consent state admission client history signers v job) (refusing NoClient))) (is_client client)
    (λ e. counted answer.consent answer.vault client history signers v) (λ e. record { none = refl })

ruleset quiet = (behind, signed, received, released, requested)

module _ (w : View) (journal input : List ℕ) (at : ℕ) where
  abbrev version : ℕ
  version = w.settings.version

  abbrev decided : Kind → Decision
  decided k = decided_by w journal (command_in version k input at)

  abbrev bytes : List ℕ
  bytes = take (record_size version) (drop at input)

  pub books : (k : Kind) → (k ≡ Propose) ⊎ Bookless (decided k)
  unfolding committing snapshotting
  books Propose = inl refl
  books Preflight = inr (search quiet)
  books Commit = inr (search quiet)
  books FaultySign = inr (search quiet)
  books FaultyAcknowledge = inr (search quiet)
  books Show = inr (search quiet)
  books Draw = inr (search quiet)
  books Generations = inr (search quiet)
  books Snapshot = inr (search quiet)
  books Release = inr (search quiet)
  books Dependencies = inr (search quiet)
  books ClientPreflight = inr (search quiet)
  books Equivocating = inr (search quiet)
  books Unknown = inr (search quiet)

  unbooked : (d : Decision) → Bookless d → Writable d.change w.booked version journal bytes
  unbooked d b =
      let no : d.change ≡ Book → ⊥ = λ e. true≢false (sym (ap is_book e) ∙ b.none) in
      record { few = λ e. absurd (no e); room = λ e. absurd (no e); size = λ e. absurd (no e) }

  pub writable : (k : Kind) (d : Decision) → d ≡ decided k → Writable d.change w.booked version journal bytes
  writable k d e =
      subst (λ (x : Decision). Writable x.change w.booked version journal bytes) (sym e)
      (⊎_elim
      (λ p. subst (λ (x : Kind). Writable (decided x).change w.booked version journal bytes) (sym p)
      (writes version journal w.booked bytes (proposal version journal w.booked bytes) refl))
      (unbooked (decided k)) (books k))
