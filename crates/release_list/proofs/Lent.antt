-- Wherever a list of steps has led check 1 passes, and where the journal holds all booked records check 4 does; then the jobs that are read of it are the
-- booked ones, whatever stands behind them.
use mathlib.Core.List.{List}
use mathlib.Core.Path.{◌∙◌, ◌≡◌, ap, ap₂, refl, subst}
use Prim.Native.Nat.{◌<◌, ◌≤◌, ℕ}
use native.Mathlib.Omega.{arith}
use lib.ListN.{length}
use Rattle.base.proofs.Reflect.{refutes}
use Rattle.codec.specs.Codec.{place_of}
use Rattle.consequences.specs.Freed.{Freed, freed_in, freed_tapes}
use Rattle.digits.specs.Digits.{Put}
use Rattle.journal.proofs.Booked.{reflect_whole}
use Rattle.ledger.proofs.Changes.{shape_sane}
use Rattle.ledger.proofs.Demand3.{along, first}
use Rattle.ledger.proofs.Gates.{reflect_sane, whole_passes}
use Rattle.ledger.proofs.Invariant.{Inv}
use Rattle.ledger.proofs.Lending.{jobs_read}
use Rattle.ledger.specs.Register.{Register, new_register}
use Rattle.ledger.specs.State.{version_of}
use Rattle.ledger.specs.Steps.{whole_gate}
use Rattle.ledger.specs.Worlds.{World, lend, start}
use Rattle.outcome.specs.declared.Refusal.TheVariants.{NotBooked}
use Rattle.outcome.specs.Figures.{Verdict}
use Rattle.std.specs.Prelude.{Err}
use Rattle.record.specs.declared.Job.{Job}
use Rattle.release_list.specs.Lent.{Answers, ListsWhatIsFree}
use Rattle.release_list.specs.Listing.{Released, counted, printed, tapes_freed}
use Rattle.release_list.specs.declared.Releases.{Releases}

module _ {w : World} {register : Register} (i : Inv w register) (size : ℕ) (beyond : List ℕ) where
  abbrev journal : List ℕ
  journal = lend w.booked size beyond

  abbrev end : ℕ
  end = place_of (version_of w.ledger) w.ledger.booked

  pub tapes_lent : end ≤ length journal → tapes_freed w.ledger journal ≡ freed_in w
  tapes_lent h =
      ap (λ (job : ℕ → Job). freed_tapes w.ledger job)
      (jobs_read (version_of w.ledger) w.ledger.booked size w.booked beyond i.shape.records h)

  shut : length journal < end → whole_gate w.ledger journal ≡ Err NotBooked
  unfolding whole_gate
  shut h =
      simp (
        (reflect_sane w.ledger).complete (shape_sane i.shape),
        refutes (reflect_whole (version_of w.ledger) journal w.ledger.booked) (λ (g : end ≤ length journal). absurd (omega (arith, h, g))),
      )

  module _ (before after : List ℕ) (r : Releases) (o : Released w.ledger journal before after r) where
    -- the answer and the text by the verdict of the checks
    told : {g : Verdict} {tapes : List Freed} → whole_gate w.ledger journal ≡ g → tapes_freed w.ledger journal ≡ tapes
        → (r.outcome ≡ counted g tapes) × Put before 0 (printed g tapes) after r.written
    told e q = (o.answer ∙ ap₂ counted e q, subst (λ (text : List ℕ). Put before 0 text after r.written) (ap₂ printed e q) o.text)

    answers : Answers w journal before after r
    answers = record {
      whole = λ h. let t = told (whole_passes w.ledger journal (shape_sane i.shape) h) (tapes_lent h) in record { answer = t.0; text = t.1 };
      cut = λ h. let t = told (shut h) refl in record { answer = t.0; written = t.1.moved; unchanged = t.1.wrote };
    }

pub lists_what_is_free : ListsWhatIsFree
lists_what_is_free n b faulty version lawful es size beyond =
    answers (along es (start n b faulty version) (new_register version) (first n b faulty version lawful)) size beyond
