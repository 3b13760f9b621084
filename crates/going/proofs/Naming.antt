-- The answer of kind 13 stays right: a change that books nothing and leaves the signatures on its job leaves all that the answer depends on.
use mathlib.Core.Bool.{true, true≢false}
use mathlib.Core.List.{List}
use mathlib.Core.Logic.{◌≢◌}
use mathlib.Core.Path.{◌∙◌, ◌≡◌, ap, fun_ext, refl, sym}
use Prim.Native.Nat.{◌%◌, ◌<◌, ℕ}
use native.Mathlib.Omega.{arith}
use lib.Dec.{eqb}
use lib.ListN.{get_or}
use lib.Seq.{get_or-set_other}
use borrow.Author.Tests.{eqb-false, eqb-true}
use Rattle.base.proofs.Reflect.{by_test}
use Rattle.equivocation.specs.Partners.{recorded_in}
use Rattle.federation.specs.declared.Settings.{Settings}
use Rattle.journal.specs.Journal.{job_at}
use Rattle.ledger.specs.Equivocation.{equivocators}
use Rattle.ledger.proofs.Effects.{applied_settings}
use Rattle.ledger.proofs.Views.{arrives}
use Rattle.ledger.specs.State.{applied, booking, counted, version_of, visited, voted, with_vault}
use Rattle.ledger.specs.Steps.{journal_with}
use Rattle.ledger.specs.declared.Change.{Change}
use Rattle.ledger.specs.declared.Change.TheVariants.{Book, Count, Grant, Hold, Nothing, Record, Release, See, Sign}
use Rattle.ledger.specs.declared.Ledger.{Ledger}
use Rattle.vaults.specs.Votes.{no_votes}
use Rattle.vaults.specs.declared.Column.TheVariants.{Acknowledgements}
use Rattle.vaults.specs.declared.Votes.{Votes}
use Rattle.std.specs.Prelude.{unwrap_or}
use Rattle.std.specs.Option.{is_some}
use Rattle.job_sets.specs.Jobs.{no_jobs}
use Rattle.naming.specs.Kept.{Still, unknown_yet, Remembered}
use Rattle.progress.specs.Turns.{Holds}

pub nothing_known : (l : Ledger) (journal : List ℕ) (r : Remembered) → r ≡ unknown_yet → Holds l journal r
nothing_known l journal r e = record { are = λ t. absurd (true≢false (sym t ∙ ap (λ (x : Remembered). is_some x) e)) }

-- the votes on other jobs stay
elsewhere : (l : Ledger) (c : Change) (v job k : ℕ) → k ≢ job → get_or (applied l c v job).votes k no_votes ≡ get_or l.votes k no_votes
unfolding applied booking counted voted with_vault visited
elsewhere l Nothing v job k n = refl
elsewhere l Book v job k n = refl
elsewhere l (Sign state) v job k n = get_or-set_other l.votes job k _ no_votes n
elsewhere l (Hold state) v job k n =
    ap (λ (xs : List Votes). get_or xs k no_votes) (arrives (voted (with_vault l v state) Acknowledgements v job) job).votes
    ∙ get_or-set_other l.votes job k _ no_votes n
elsewhere l (Release state) v job k n = refl
elsewhere l (Record column) v job k n = get_or-set_other l.votes job k _ no_votes n
elsewhere l (See seen) v job k n = refl
elsewhere l (Count history) v job k n = refl
elsewhere l (Grant grant) v job k n = get_or-set_other l.votes job k _ no_votes n

-- what books nothing leaves the journal
unbooked : (l : Ledger) (c : Change) (v job version : ℕ) (journal bytes : List ℕ) → l.booked ≡ (applied l c v job).booked
    → journal ≡ journal_with c l.booked version journal bytes
unfolding applied booking
unbooked l Nothing v job version journal bytes e = refl
unbooked l Book v job version journal bytes e = absurd (omega (arith, e))
unbooked l (Sign state) v job version journal bytes e = refl
unbooked l (Hold state) v job version journal bytes e = refl
unbooked l (Release state) v job version journal bytes e = refl
unbooked l (Record column) v job version journal bytes e = refl
unbooked l (See seen) v job version journal bytes e = refl
unbooked l (Count history) v job version journal bytes e = refl
unbooked l (Grant grant) v job version journal bytes e = refl

same_named : {s s' : Settings} {f g : ℕ → ℕ} {journal journal' : List ℕ} {booked booked' : ℕ} → s ≡ s' → f ≡ g → journal ≡ journal' → booked ≡ booked'
    → equivocators s f (job_at s.version journal booked) booked ≡ equivocators s' g (job_at s'.version journal' booked') booked'
same_named p q r t = rw (p, q, r, t)

module _ (l : Ledger) (c : Change) (v job : ℕ) where
  abbrev next : Ledger
  next = applied l c v job

  same_recorded : recorded_in l.votes job ≡ recorded_in next.votes job → recorded_in l.votes ≡ recorded_in next.votes
  unfolding recorded_in
  same_recorded h = fun_ext (λ k. by_test (eqb k job) (λ e. rw (eqb-true k job e) h) (λ e.
      ap (λ (x : Votes). x.signatures) (sym (elsewhere l c v job k (eqb-false k job e)))))

  pub still_right : (journal bytes : List ℕ) (kept r : Remembered) → job < 128 → Holds l journal kept
      → Still kept l.booked (get_or l.votes (job % 128) no_votes).signatures next.booked (get_or next.votes (job % 128) no_votes).signatures r
      → Holds next (journal_with c l.booked (version_of l) journal bytes) r
  unfolding recorded_in
  still_right journal bytes kept r p h s = record {
    are = λ t.
        let q = s.same t in
        let place : job % 128 ≡ job = omega (arith, p) in
        let known : is_some kept ≡ true = ap (λ (x : Remembered). is_some x) (sym q.0) ∙ t in
        let recorded = same_recorded (rw place at q.2) in
        ap (λ (x : Remembered). unwrap_or x no_jobs) q.0 ∙ h.are known
        ∙ same_named (sym (applied_settings l c v job)) recorded (unbooked l c v job (version_of l) journal bytes q.1) q.1;
  }
