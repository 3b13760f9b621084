-- What is left to say falls into the next piece and the rest, and pieces one after another are the whole.
use mathlib.Core.Bool.{false, true}
use mathlib.Core.List.{List, [], ◌++◌, ◌∷◌}
use mathlib.Core.Path.{◌∙◌, ◌≡◌, ap, refl, sym}
use Prim.Native.Nat.{◌+◌, ◌-◌, ◌<◌, ◌≤◌, suc, zero, ℕ}
use native.Mathlib.Omega.{arith}
use lib.ListN.{length, take}
use borrow.Author.Tests.{le-leb, lt-leb}
use Rattle.ledger.specs.State.{votes_at}
use Rattle.ledger.specs.declared.Ledger.{Ledger}
use Rattle.runfile.specs.Run.{Run, begins, opens, turn}
use Rattle.digits.proofs.Writing.{made}
use Rattle.explanations.specs.Answers.{job_line}
use Rattle.explanations.specs.Explained.{AllSaid, Said, Says, Whole, explained, explained_from, explained_next, next_text, printed, sheet_from, sheet_next}
use Rattle.explanations.specs.Words.{reason}

-- ---- pieces
said_printed : {text before after rest : List ℕ} {r : ℕ} → Says text before after r rest → text ≡ take r after ++ rest
said_printed {rest = rest} p = p.cut ∙ ap (λ (t : List ℕ). t ++ rest) (sym (made p.fits p.put))

all_printed : (text : List ℕ) (ps : List Said) → AllSaid text ps → printed ps ≡ text
all_printed text [] h = sym h
all_printed text (p ∷ ps) h = rw (all_printed p.rest ps h.1) (sym (said_printed h.0))

pub whole : Whole
whole = record { pieces = λ input ps h. all_printed (explained input) ps h }

-- ---- the next step
pub step_left : (input : List ℕ) (r : Run) → r.count < length input → r.pos < length input
    → explained_from input r ≡ next_text input r ++ explained_from input (turn input r)
unfolding explained_from explained_next turn
step_left input r few here =
    let e : length input - r.count ≡ suc (length input - (r.count + 1)) = omega arith in
    rw (e, lt-leb (length input) r.pos here)

-- no step is left
pub steps_over : (input : List ℕ) (r : Run) → length input ≤ r.pos → explained_from input r ≡ sheet_from r.ledger 0
unfolding explained_from explained_next
steps_over input r h = over (length input - r.count)
  where
    over : (n : ℕ) → explained_next n input r ≡ sheet_from r.ledger 0
    over zero = refl
    over (suc n) = rw (le-leb (length input) r.pos h)

-- ---- the next job
pub job_left : (l : Ledger) (k : ℕ) → k < l.booked → sheet_from l k ≡ job_line l.settings (votes_at l k) k ++ sheet_from l (k + 1)
unfolding sheet_from sheet_next
job_left l k h =
    let e : l.booked - k ≡ suc (l.booked - (k + 1)) = omega arith in
    let f : k + 1 ≡ suc k = omega arith in
    rw (e, f)

pub sheet_over : (l : Ledger) (k : ℕ) → l.booked ≤ k → sheet_from l k ≡ []
unfolding sheet_from sheet_next
sheet_over l k h = let e : l.booked - k ≡ 0 = omega arith in rw e

-- ---- the start
pub opened_left : (input : List ℕ) → opens input ≡ true → explained input ≡ explained_from input (begins input)
unfolding explained
opened_left input t = rw t

pub turned_back_lem : (input : List ℕ) → opens input ≡ false → explained input ≡ reason 1 ++ (10 ∷ [])
unfolding explained
turned_back_lem input f = rw f
