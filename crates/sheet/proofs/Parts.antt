-- The parts of a job's line put together, and the line as the next of the sheet.
use mathlib.Core.List.{List, [], ◌∷◌}
use mathlib.Core.Path.{◌≡◌, refl}
use Prim.Native.Nat.{◌<◌, ◌≤◌, ℕ}
use native.Mathlib.Omega.{arith}
use lib.Count.{ones}
use lib.ListN.{length}
use borrow.Author.Tests.{le-ltb, lt-ltb}
use Rattle.answers.specs.Room.{answer_long, answer_room}
use Rattle.explanations.proofs.Lengths.{job_brief}
use Rattle.explanations.proofs.Pieces.{job_left}
use Rattle.explanations.specs.Answers.{job_line, job_row, names, to_sign}
use Rattle.explanations.specs.Words.{status}
use Rattle.federation.specs.declared.Settings.{Settings}
use Rattle.journal.specs.Journal.{capacity}
use Rattle.ledger.specs.Decisions.{status_of}
use Rattle.ledger.specs.State.{votes_at}
use Rattle.ledger.specs.declared.Ledger.{Ledger}
use Rattle.rows.specs.Table.{letters}
use Rattle.rows.specs.Writing.{longest_by, text_by}
use Rattle.job_sets.specs.declared.job_set.JobSet.{JobSet}
use Rattle.digits.proofs.Writing.{then}
use Rattle.digits.specs.Digits.{Put}
use Rattle.vaults.specs.declared.Votes.{Votes}
use Rattle.sheet.specs.Listed.{Listed, line_of}

pub job_few : (f : List ℕ) (k : ℕ) → f ≡ job_row k → longest_by f ≤ 128
job_few f k e = rw e (job_brief k)

pub job_row_lem : {o p q t : List ℕ} {i j r : ℕ} (state : ℕ) → Put o 0 (letters "job # ") p i → Put p i (status state) q j
    → Put q j (letters ": signatures #, acknowledgements #, still to sign ") t r → Put o 0 (job_row state) t r
job_row_lem state a b c = then a (then b c)

pub job_put : {o p q t : List ℕ} {i j r : ℕ} (s : Settings) (votes : Votes) (job state signed acknowledged : ℕ) (waiting : JobSet)
    → state ≡ status_of s votes → signed ≡ ones votes.signatures → acknowledged ≡ ones votes.acknowledgements
    → waiting ≡ to_sign s.n votes.signatures → Put o 0 (text_by (job_row state) (job ∷ signed ∷ acknowledged ∷ [])) p i
    → Put p i (names waiting) q j → Put q j (10 ∷ []) t r → Put o 0 (job_line s votes job) t r
unfolding job_line
job_put s votes job state signed acknowledged waiting a b c d x y z = then (rw (a, b, c) at x) (then (rw d at y) z)

pub row_is : {o p : List ℕ} {at r : ℕ} {f t : List ℕ} (s : List ℕ) → f ≡ t → Put o at (text_by f s) p r → Put o at (text_by t s) p r
row_is s e w = rw e at w

-- ---- of a ledger's job
module _ {before after : List ℕ} {r : ℕ} (l : Ledger) (job : ℕ) where
  pub listed_here : job < capacity → answer_room ≤ length before → Put before 0 (job_line l.settings (votes_at l job) job) after r → r ≤ answer_long
      → Listed l job before after r
  unfolding line_of
  listed_here h room w few = record {
    put = rw (lt-ltb job capacity h) w;
    next = λ booked below.
        record { part = job_line l.settings (votes_at l job) job; cut = job_left l job booked; put = w; fits = omega (arith, few, room) };
  }

pub listed_past : {out : List ℕ} (l : Ledger) (job : ℕ) → capacity ≤ job → Listed l job out out 0
unfolding line_of
listed_past l job h = record {
  put = rw (le-ltb job capacity h) (record { moved = refl; wrote = refl });
  next = λ booked below. absurd (omega (arith, h, below));
}
