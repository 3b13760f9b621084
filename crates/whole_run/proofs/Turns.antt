-- What holds between the pieces of a run, and where they lead.
use mathlib.Core.List.{List}
use mathlib.Core.Bool.{true}
use mathlib.Core.Path.{◌∙◌, ◌≡◌, ap, subst, sym}
use Prim.Native.Nat.{◌-◌, ◌<◌, ◌≤◌, ℕ}
use lib.ListN.{length}
use native.Mathlib.Omega.{arith}
use Rattle.ledger.proofs.Gates.{whole_passes}
use Rattle.whole_run.specs.RanOut.{RanOut}
use Rattle.index.specs.Places.{numbers_size, sets_size}
use Rattle.index.specs.Records.{records_size}
use Rattle.journal.specs.Journal.{capacity}
use Rattle.progress.specs.Pieces.{Advanced, Going, Started, blank, run_of}
use Rattle.progress.specs.declared.Progress.{Progress}
use Rattle.runfile.proofs.Turns.{none_after}
use Rattle.runfile.specs.History.{final_run}
use Rattle.runfile.specs.Run.{Run, journal_size, last_from, opens}

-- a run that check 1 has let through begins on tables of zeros
pub begun : (input journal before after : List ℕ) (p : Progress) → opens input ≡ true → journal ≡ blank journal_size → Started input before after p
    → Going input p journal (blank numbers_size) (blank sets_size) (blank records_size) (blank capacity) × (last_from input (run_of p journal) ≡ final_run input)
begun input journal before after p o e s = (
  subst (λ (j : List ℕ). Going input p j (blank numbers_size) (blank sets_size) (blank records_size) (blank capacity)) (sym e) (s.going o),
  ap (λ (j : List ℕ). last_from input (run_of p j)) e ∙ ap (last_from input) (s.first o),
)

-- what holds before each piece
pub record Turn (input : List ℕ) (progress : Progress) (journal₀ journal memo numbers sets records out : List ℕ) : Type 0 where
  pub going : Going input progress journal numbers sets records memo
  pub ends : last_from input (run_of progress journal) ≡ final_run input
  pub same_size : length journal ≡ length journal₀
  pub memo_size : length memo ≡ 128
  pub numbers_sized : length numbers ≡ 4093
  pub sets_sized : length sets ≡ 6144
  pub records_sized : length records ≡ 1149
  pub buffer : length out ≡ 32768

-- a piece reads on
pub reads_on : {input : List ℕ} {p q : Progress} {journal before journal' numbers sets records memo after : List ℕ}
    → Advanced input p journal before q journal' numbers sets records memo after → p.pos < length input → length before ≡ 32768
    → length input - q.pos < length input - p.pos
reads_on a more size = omega (arith, a.onward more (omega arith), a.going.inside)

-- and leads to the same end
pub same_end : {input : List ℕ} {p q : Progress} {journal before journal' numbers sets records memo after : List ℕ}
    → Advanced input p journal before q journal' numbers sets records memo after → last_from input (run_of p journal) ≡ final_run input
    → last_from input (run_of q journal') ≡ final_run input
same_end a e = sym a.ends ∙ e

-- nothing is left to read
pub ran_out : {input : List ℕ} {p : Progress} {journal₀ journal memo numbers sets records out : List ℕ}
    → Turn input p journal₀ journal memo numbers sets records out
    → length input ≤ p.pos → RanOut input p.ledger journal
ran_out {input} {p} {journal₀} {journal} t h =
    let e = sym (none_after input (run_of p journal) h) ∙ t.ends in
    record {
      ledger_is = ap (λ (r : Run). r.ledger) e;
      journal_is = ap (λ (r : Run). r.journal) e;
      passes = whole_passes p.ledger journal t.going.kept.sane t.going.kept.indexed.inside;
    }
