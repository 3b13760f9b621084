-- Each answer is its kind's.
use mathlib.Core.Bool.{Bool, false, true}
use mathlib.Core.List.{List}
use mathlib.Core.Path.{◌∙◌, ◌≡◌, ap, sym}
use Prim.Native.Nat.{◌%◌, ℕ}
use lib.ListN.{get_or, length}
use Rattle.outcome.specs.Figures.{Verdict}
use Rattle.std.specs.Prelude.{Err}
use Rattle.outcome.specs.declared.Refusal.TheVariants.{NotBooked}
use Rattle.job_sets.specs.declared.job_set.JobSet.{JobSet}
use Rattle.journal.specs.Journal.{capacity, is_booked, is_whole, job_at}
use Rattle.generations.specs.Memo.{Memo}
use Rattle.ledger.specs.Decisions.{gated_listing, listing, requiring, unlisted}
use Rattle.ledger.specs.Given.{Aged}
use Rattle.ledger.specs.Holders.{held_somewhere}
use Rattle.ledger.specs.declared.Decision.{Decision}
use Rattle.ledger.specs.declared.Listing.{Listing}
use Rattle.vaults.specs.Vaults.{new_vault}
use Rattle.runfile.specs.declared.Kind.{Kind}
use Rattle.kinds.specs.Decided.{booked_or, gate_by}
use Rattle.questions.specs.Answers.{Answered, aged, alone, is_listing, naming, required, surveyed}
use Rattle.naming.specs.Kept.{is_naming}
use Rattle.questions.specs.declared.Books.{Books}

-- ---- generations
module _ (a : Books) (order journal memo : List ℕ) (job : ℕ) (b : Bool) (e : b ≡ is_booked a.settings.version journal a.booked job) (r : Listing) where
  pub age_found : (d : Decision) → b ≡ true → Aged a.settings a.vaults order a.arrivals journal a.booked memo job d → r ≡ alone d.outcome
      → Answered a order journal memo (alone (aged a order journal job).outcome) r
  unfolding booked_or
  age_found d t h q = record {
    told = q ∙ ap alone (simp (sym e ∙ t) (ap (λ (d : Decision). d.outcome) h.decision));
    right = h.right;
    size = h.size;
  }

  pub unbooked : b ≡ false → Memo (job_at a.settings.version journal a.booked) order a.arrivals memo → length memo ≡ capacity
      → r ≡ alone (Err NotBooked) → Answered a order journal memo (alone (aged a order journal job).outcome) r
  unfolding booked_or
  unbooked f m z q = record { told = q ∙ ap alone (simp (sym e ∙ f)); right = m; size = z }

-- ---- missing dependencies
pub required_so : (a : Books) (journal : List ℕ) (v job : ℕ) (g : Verdict) (r : Listing) → g ≡ gate_by a.settings a.booked journal v false job
    → r ≡ gated_listing g
    (requiring (get_or a.vaults (v % 16) new_vault) (held_somewhere a.settings a.vaults) a.settings.version journal a.booked job)
    → r ≡ required a journal v job
required_so a journal v job g r e h = rw e at h

-- ---- the vaults that equivocate
module _ (version booked : ℕ) (journal : List ℕ) (named : JobSet) (b : Bool) (e : b ≡ is_whole version journal booked) (r : Listing) where
  pub named_so : b ≡ true → r ≡ listing named → r ≡ naming version booked journal named
  unfolding booked_or
  named_so t q = simp (sym e ∙ t) q

  pub unnamed : b ≡ false → r ≡ unlisted NotBooked → r ≡ naming version booked journal named
  unfolding booked_or
  unnamed f q = simp (sym e ∙ f) q

pub ruleset names = (named_so, unnamed)

-- ---- one of the three
module _ (a : Books) (named : JobSet) (order journal memo : List ℕ) (kind : Kind) (v job : ℕ) (b : Bool) (e : b ≡ is_listing kind) (r : Listing) where
  pub look_required : b ≡ true → r ≡ required a journal v job → Memo (job_at a.settings.version journal a.booked) order a.arrivals memo
      → length memo ≡ capacity → Answered a order journal memo (surveyed a named order journal kind v job) r
  look_required t q m z = record { told = q ∙ simp (sym e ∙ t); right = m; size = z }

  module _ (f : b ≡ false) (n : Bool) (d : n ≡ is_naming kind) where
    pub look_named : n ≡ true → r ≡ naming a.settings.version a.booked journal named
        → Memo (job_at a.settings.version journal a.booked) order a.arrivals memo
        → length memo ≡ capacity → Answered a order journal memo (surveyed a named order journal kind v job) r
    look_named t q m z = record { told = q ∙ simp (sym e ∙ f, sym d ∙ t); right = m; size = z }

    pub look_aged : n ≡ false → Answered a order journal memo (alone (aged a order journal job).outcome) r
        → Answered a order journal memo (surveyed a named order journal kind v job) r
    look_aged g h = record { told = h.told ∙ simp (sym e ∙ f, sym d ∙ g); right = h.right; size = h.size }

pub ruleset looks = (look_required, look_named, look_aged)
