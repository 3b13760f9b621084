-- What a run has still to print, at its start, at its end, and at a step.
use mathlib.Core.Bool.{cond, false, true}
use mathlib.Core.List.{List, [], ◌++◌, append-nil}
use mathlib.Core.Path.{◌∙◌, ◌≡◌, ap, refl, sym}
use Prim.Native.Nat.{◌+◌, ◌-◌, ◌<◌, ◌≤◌, suc, zero, ℕ}
use native.Mathlib.Omega.{arith}
use lib.Dec.{leb}
use lib.ListN.{length}
use borrow.Author.Tests.{le-leb, leb-true, lt-leb}
use Rattle.base.proofs.Reflect.{and_true, by_cases}
use Rattle.federation.specs.Federation.{is_lawful}
use Rattle.outcome.specs.Figures.{Outcome}
use Rattle.std.specs.Prelude.{Err}
use Rattle.outcome.specs.declared.Refusal.TheVariants.{Settings as BadSettings}
use Rattle.job_sets.specs.declared.job_set.JobSet.{JobSet}
use Rattle.text.specs.Text.{line_for, text_for}
use Rattle.ledger.specs.State.{version_of}
use Rattle.runfile.specs.Run.{Run, begins, command_of, ended, header_size, is_header, last_from, longest, opened, opens, opens_up_to, run_next, turn}
use Rattle.runfile.specs.Run.{run_text, text_from, text_next, text_of, text_up_to}
use Rattle.runfile.specs.Steps.{end_of, kind_at, listed_by, reply_of}
use Rattle.runfile.specs.declared.Kind.{Kind}
use Rattle.runfile.specs.declared.Kind.TheVariants.{
  ClientPreflight,
  Commit,
  Dependencies,
  Draw,
  Equivocating,
  FaultyAcknowledge,
  FaultySign,
  Generations,
  Preflight,
  Propose,
  Release,
  Show,
  Snapshot,
  Unknown,
}

-- ---- the header
pub header_long : (input : List ℕ) → is_header input ≡ true → header_size ≤ length input
unfolding is_header
header_long input e = leb-true header_size (length input) (and_true (leb header_size (length input)) _ e).0

-- what check 1 has made sure of
pub record Open (input : List ℕ) : Type 0 where
  pub few : length input ≤ longest
  pub headed : header_size ≤ length input
  pub lawful : is_lawful (opened input).settings ≡ true

pub open_when : (input : List ℕ) → opens input ≡ true → Open input
unfolding opens_up_to
open_when input o =
    let h = and_true (leb (length input) longest) _ o in
    let g = and_true (is_header input) _ h.1 in
    record { few = leb-true (length input) longest h.0; headed = header_long input g.0; lawful = g.1 }

pub opened_run : (input : List ℕ) → opens input ≡ true → run_text input ≡ text_from input (begins input)
unfolding text_up_to
opened_run input o = rw o

-- ---- the end
none_next : (n : ℕ) (input : List ℕ) (r : Run) → length input ≤ r.pos → text_next n input r ≡ []
unfolding text_next
none_next zero input r h = refl
none_next (suc n) input r h = simp (le-leb _ _ h)

pub none_left : (input : List ℕ) (r : Run) → length input ≤ r.pos → text_from input r ≡ []
unfolding text_from
none_left input r h = none_next (length input - r.count) input r h

pub none_after : (input : List ℕ) (r : Run) → length input ≤ r.pos → last_from input r ≡ r
unfolding last_from run_next
none_after input r h = by (length input - r.count)
  where
    by : (n : ℕ) → run_next n input r ≡ r
    by zero = refl
    by (suc n) = simp (le-leb _ _ h)

-- the text of an input that check 1 turns back, before a run that has nothing left to read
pub refused_run : (input : List ℕ) → opens input ≡ false → (r : Run) → length input ≤ r.pos
    → run_text input ≡ line_for 0 (Err BadSettings) ++ text_from input r
unfolding text_up_to
refused_run input o r h = rw (o, none_left input r h) (sym (append-nil (line_for 0 (Err BadSettings))))

-- each step reads at least its kind, or is the last: so a run has no more steps than bytes
reads_on : (version : ℕ) (kind : Kind) (pos size n : ℕ) → size ≤ pos + suc n → size ≤ end_of version kind pos size + n
reads_on version Propose pos size n h = omega arith
reads_on version Preflight pos size n h = omega arith
reads_on version Commit pos size n h = omega arith
reads_on version FaultySign pos size n h = omega arith
reads_on version FaultyAcknowledge pos size n h = omega arith
reads_on version Show pos size n h = omega arith
reads_on version Draw pos size n h = omega arith
reads_on version Generations pos size n h = omega arith
reads_on version Snapshot pos size n h = omega arith
reads_on version Release pos size n h = omega arith
reads_on version Dependencies pos size n h = omega arith
reads_on version ClientPreflight pos size n h = omega arith
reads_on version Equivocating pos size n h = omega arith
reads_on version Unknown pos size n h = omega arith

pub runs_out : (n : ℕ) (input : List ℕ) (r : Run) → length input ≤ r.pos + n → ended input (run_next n input r) ≡ true
unfolding run_next turn
runs_out zero input r h = le-leb (length input) r.pos (omega (arith, h))
runs_out (suc n) input r h =
    let later = runs_out n input (turn input r)
    (reads_on (version_of r.ledger) (kind_at (version_of r.ledger) input r.pos) r.pos (length input) n h) in
    by_cases (λ b. ended input (cond b r (run_next n input (turn input r))) ≡ true) (ended input r) (λ e. e) (λ e. later)

-- ---- a step
-- the text of the next step comes first
pub next_text_lem : (input : List ℕ) (r : Run) → r.pos < length input → r.count < length input
    → text_from input r ≡ text_of (r.count + 1) r.ledger r.journal (command_of input r) ++ text_from input (turn input r)
unfolding text_from text_next turn
next_text_lem input r h g =
    let n : length input - r.count ≡ suc (length input - (r.count + 1)) = omega arith in
    rw n (simp (lt-leb _ _ h))

-- it ends where it would
pub next_last : (input : List ℕ) (r : Run) → r.pos < length input → r.count < length input → last_from input r ≡ last_from input (turn input r)
unfolding last_from run_next turn
next_last input r h g =
    let n : length input - r.count ≡ suc (length input - (r.count + 1)) = omega arith in
    rw n (simp (lt-leb _ _ h))

-- a run that was carried on by one step, which was answered o and listed these members
pub step_text_lem : (input : List ℕ) (r r' : Run) (o : Outcome) (members : JobSet) → r.pos < length input → r.count < length input
    → o ≡ (reply_of r.ledger r.journal (command_of input r)).outcome → members ≡ listed_by r.ledger r.journal (command_of input r)
    → r' ≡ turn input r → text_from input r ≡ text_for (r.count + 1) o members ++ text_from input r'
step_text_lem input r r' o members h g e m t = next_text_lem input r h g ∙ rw (e, m, t)

pub step_last : (input : List ℕ) (r r' : Run) → r.pos < length input → r.count < length input → r' ≡ turn input r → last_from input r ≡ last_from input r'
step_last input r r' h g t = next_last input r h g ∙ ap (last_from input) (sym t)
