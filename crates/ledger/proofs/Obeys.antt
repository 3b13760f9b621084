-- When a preflight and a commit are answered 0: the invariant of demand 3 gives what the laws on Algorithms 1 and 2 ask for. The counts are in their bounds,
-- the lent journal is read as the booked records, and each of those passed checks 6 to 9 when it was booked.
use mathlib.Core.Bool.{Bool, false, true}
use mathlib.Core.List.{List, []}
use mathlib.Core.Logic.{inl, inr, ⊎_elim}
use mathlib.Core.Path.{◌∙◌, ◌≡◌, ap, refl, subst, sym}
use Prim.Native.Nat.{◌<◌, ℕ}
use native.Mathlib.Omega.{arith}
use lib.ListN.{get_or}
use Rattle.base.proofs.Members.{in_get_d}
use Rattle.base.proofs.Reflect.{reflect_as}
use Rattle.base.specs.Reflect.{Reflects}
use Rattle.checks.specs.Checks.{check_of}
use Rattle.std.specs.Prelude.{Ok}
use Rattle.record.specs.declared.Job.{Job}
use Rattle.job_sets.specs.Jobs.{job_has, job_without}
use Rattle.journal.specs.Journal.{job_at}
use Rattle.ledger.proofs.Account.{examined_checked}
use Rattle.ledger.proofs.Algorithms.{algorithm_signs, certificate_valid, commits, signed_again, signs_algorithm}
use Rattle.ledger.proofs.Changes.{shape_sane}
use Rattle.ledger.proofs.Invariant.{Inv, table_length}
use Rattle.ledger.proofs.Lending.{jobs_read}
use Rattle.ledger.specs.Demand2.{InPlace, MayHold, Obeys, Signs, accepts}
use Rattle.ledger.specs.Demand3.{booked_job}
use Rattle.ledger.specs.Graph.{Algorithm1}
use Rattle.ledger.specs.Meaning.{Entered}
use Rattle.ledger.specs.Register.{Register, is_done, tabled}
use Rattle.ledger.specs.State.{signers_of, vault_at, version_of}
use Rattle.ledger.specs.Worlds.{World, lend, preflight}
use Rattle.ledger.specs.declared.Decision.{Decision}
use Rattle.ledger.specs.declared.Ledger.{Ledger}

-- a booked record passed checks 6 to 9
pub booked_valid : {w : World} {r : Register} → Inv w r → (k : ℕ) → k < w.ledger.booked → check_of (booked_job w k) ≡ Ok (tt {0})
booked_valid {w} {r} i k h =
    ap (λ (t : List (List ℕ)). check_of (tabled t k)) (sym i.table)
    ∙ examined_checked r.version (get_or r.table k []) (i.fit _ (in_get_d r.table [] k (omega (arith, h, table_length i))))

module _ {w : World} {r : Register} (i : Inv w r) (size : ℕ) (beyond : List ℕ) (v k : ℕ) (p : InPlace w size beyond v k) where
  abbrev l : Ledger
  l = w.ledger

  abbrev journal : List ℕ
  journal = lend w.booked size beyond

  entered : Entered l journal v k false
  entered = record {
    sane = shape_sane i.shape;
    vault = p.correct.below;
    role = p.correct.sound;
    known = record { inside = p.whole; below = p.booked };
  }

  jobs : job_at (version_of l) journal l.booked ≡ booked_job w
  jobs = jobs_read (version_of l) l.booked size w.booked beyond i.shape.records p.whole

  checked : check_of (job_at (version_of l) journal l.booked k) ≡ Ok (tt {0})
  checked = ap (λ (job : ℕ → Job). check_of (job k)) jobs ∙ booked_valid i k p.booked

  -- Algorithm 1 over the jobs of a book
  abbrev Over : (ℕ → Job) → Type 0
  Over job = Algorithm1 job l.booked (vault_at l v).held (job_without (vault_at l v).signed k) (job k)

  done_when : (d : Decision) → is_done d.outcome ≡ true → (e : Decision) → e ≡ d → is_done e.outcome ≡ true
  done_when d h e q = ap (λ (x : Decision). is_done x.outcome) q ∙ h

  accepted : (b : Bool) → job_has (vault_at l v).signed k ≡ b → accepts w size beyond (preflight v k) ≡ true → Signs w v k
  accepted true s e = inl s
  accepted false s e = inr (subst Over jobs (signs_algorithm l journal v k entered checked s e))

  again : job_has (vault_at l v).signed k ≡ true → accepts w size beyond (preflight v k) ≡ true
  again s = done_when _ refl _ (signed_again l journal v k entered s)

  allowed : (b : Bool) → job_has (vault_at l v).signed k ≡ b → Over (booked_job w) → accepts w size beyond (preflight v k) ≡ true
  allowed true s a = again s
  allowed false s a = done_when _ refl _ (algorithm_signs l journal v k entered s (subst Over (sym jobs) a))

  pub obeys : Obeys w size beyond v k
  obeys = record {
    signs = record { sound = accepted _ refl; complete = ⊎_elim again (allowed _ refl) };
    commits = λ signers.
        subst (λ (b : Bool). Reflects b (MayHold w k signers)) (sym (commits l journal v k entered signers))
        (reflect_as (certificate_valid l.settings (signers_of l k) signers)
        (λ c. record { signature = c; valid = booked_valid i k p.booked }) (λ a. a.signature));
  }
