-- What an admissible job is: its record passes, its inputs stand, and no output was made before. The test decides it.
use mathlib.Core.Bool.{true≢false}
use mathlib.Core.List.{List}
use mathlib.Core.Path.{◌≡◌, refl, sym}
use Prim.Native.Nat.{ℕ}
use native.Mathlib.Omega.{arith}
use Rattle.base.proofs.Members.{reflect_all_in, reflect_member}
use Rattle.base.proofs.Reflect.{reflect_and, reflect_as, reflect_eq, reflect_not}
use Rattle.base.specs.Lists.{In}
use Rattle.base.specs.Reflect.{Reflects}
use Rattle.outcome.specs.Figures.{Verdict}
use Rattle.std.specs.Prelude.{Ok, Err}
use Rattle.conflicts.proofs.Tapes.{reflect_tape}
use Rattle.checks.specs.Checks.{examined}
use Rattle.codec.specs.Codec.{job_of}
use Rattle.conflicts.specs.Tapes.{input_tapes, output_tapes}
use Rattle.record.specs.declared.Entry.{Entry}
use Rattle.ledger.specs.Register.{Register, is_admissible, passes}

pub record CanTake (r : Register) (bytes : List ℕ) : Type 0 where
  pub fits : examined r.version bytes ≡ Ok (tt {0})
  pub standing : (t : Entry) → In t (input_tapes (job_of bytes)) → In t r.standing
  pub new : (t : Entry) → In t (output_tapes (job_of bytes)) → In t.label r.made → ⊥

reflect_passes : (v : Verdict) → Reflects (passes v) (v ≡ Ok (tt {0}))
reflect_passes (Ok _) = record { sound = λ e. refl; complete = λ e. refl }
reflect_passes (Err why) = record { sound = λ e. absurd (true≢false (sym e)); complete = λ e. let z : ◌≡◌ {A = ℕ} 0 1 = cc in absurd (omega arith) }

pub reflect_admissible : (r : Register) (bytes : List ℕ) → Reflects (is_admissible r bytes) (CanTake r bytes)
unfolding is_admissible
reflect_admissible r bytes =
    reflect_as
    (reflect_and (reflect_passes (examined r.version bytes))
    (reflect_and
    (reflect_all_in (input_tapes (job_of bytes)) (λ t. reflect_member t r.standing (reflect_tape t)))
    (reflect_all_in (output_tapes (job_of bytes)) (λ t. reflect_not (reflect_member t.label r.made (reflect_eq t.label))))))
    (λ h. record { fits = h.0; standing = h.1.0; new = h.1.1 })
    (λ h. (h.fits, (h.standing, h.new)))
