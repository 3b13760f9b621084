-- What a step's explanation is, by what the run says of the step; and what is left to say afterwards.
use mathlib.Core.List.{List, ◌++◌}
use mathlib.Core.Path.{◌∙◌, ◌≡◌, ap, sym}
use Prim.Native.Nat.{◌+◌, ◌<◌, ◌≤◌, ℕ}
use native.Mathlib.Omega.{arith}
use lib.ListN.{length}
use Rattle.explanations.proofs.Pieces.{step_left}
use Rattle.explanations.specs.Explained.{explained_from, next_text, step_text}
use Rattle.index.proofs.Tables.{indexed_tables}
use Rattle.index.specs.Sets.{Tables}
use Rattle.ledger.specs.declared.Ledger.{Ledger}
use Rattle.outcome.specs.Figures.{Outcome}
use Rattle.progress.specs.Kept.{Kept}
use Rattle.progress.specs.Pieces.{Going, run_of}
use Rattle.progress.specs.Turns.{Holds, TurnedOnce}
use Rattle.progress.specs.declared.Progress.{Progress}
use Rattle.progress.specs.declared.Turned.{Turned}
use Rattle.runfile.specs.Run.{Run, command_of, turn}
use Rattle.runfile.specs.Steps.{listed_by, reply_of}
use Rattle.job_sets.specs.declared.job_set.JobSet.{JobSet}
use Rattle.naming.specs.Kept.{Remembered}
use Rattle.telling.specs.Room.{step_long, step_room}
use Rattle.digits.specs.Digits.{Put}
use Rattle.text.specs.Text.{longest_text}
use Rattle.explaining.specs.Told.{Told, at_front, said_by}

-- ---- to carry out a step, its text goes into a buffer of its own
pub going_front : {input journal numbers sets records memo : List ℕ} {p : Progress} (w : ℕ) → Going input p journal numbers sets records memo
    → Going input (at_front p w) journal numbers sets records memo
going_front w g = record { few = g.few; steps = g.steps; inside = g.inside; kept = g.kept }

module _ (p q : Progress) (e : q ≡ at_front p 0) where
  pub to_turn : (input journal numbers sets records memo : List ℕ) → Going input p journal numbers sets records memo
      → Going input q journal numbers sets records memo
  to_turn input journal numbers sets records memo g = rw e (going_front 0 g)

  pub to_hold : (journal : List ℕ) (named : Remembered) → Holds p.ledger journal named → Holds q.ledger journal named
  to_hold journal named h = rw e h

  pub to_read : (input : List ℕ) → p.pos < length input → q.pos < length input
  to_read input h = rw e h

  pub to_write : (line : List ℕ) → longest_text ≤ length line → q.written + longest_text ≤ length line
  to_write line h = rw e h

-- what is kept has sizes of its own
pub kept_tables : {l : Ledger} {journal numbers sets records memo : List ℕ} → Kept l journal numbers sets records memo → Tables numbers sets
kept_tables k =
    let i = k.indexed in
    indexed_tables _ _ _ _ _ (record { few = i.few; inside = i.inside; numbers_are = i.numbers_are; sets_are = i.sets_are })

-- ---- the step's explanation
-- by a run after the step and what was answered and listed
abbrev text_by : List ℕ → ℕ → Run → Outcome → JobSet → List ℕ
text_by input pos r outcome members = step_text r.count r.ledger.settings r.journal r.ledger.booked input pos outcome members

module _ (input journal numbers₀ sets₀ records₀ memo₀ line line' journal' numbers sets records memo : List ℕ) (p q : Progress) (t : Turned)
    (e : q ≡ at_front p 0) (g : Going input p journal numbers₀ sets₀ records₀ memo₀) (here : p.pos < length input)
    (once : TurnedOnce input q journal line t journal' numbers sets records memo line') where
  abbrev r : Run
  r = run_of p journal

  next : run_of t.progress journal' ≡ turn input r
  next = once.step.next ∙ ap (λ (x : Progress). turn input (run_of x journal)) e

  answered : t.outcome ≡ (reply_of r.ledger r.journal (command_of input r)).outcome
  answered =
      once.step.answered
      ∙ ap (λ (x : Progress). (reply_of x.ledger journal (command_of input (run_of x journal))).outcome) e

  listed : t.members ≡ listed_by r.ledger r.journal (command_of input r)
  listed = once.step.listed ∙ ap (λ (x : Progress). listed_by x.ledger journal (command_of input (run_of x journal))) e

  explains : text_by input p.pos (run_of t.progress journal') t.outcome t.members ≡ next_text input r
  unfolding next_text
  explains =
      ap (λ (x : Run). text_by input p.pos x t.outcome t.members) next
      ∙ ap (λ (x : Outcome). text_by input p.pos (turn input r) x t.members) answered
      ∙ ap (text_by input p.pos (turn input r) (reply_of r.ledger r.journal (command_of input r)).outcome) listed

  pub told_once : (before after : List ℕ) (u : Turned) (w : ℕ) → step_room ≤ length before
      → Put before 0 (text_by input p.pos (run_of t.progress journal') t.outcome t.members) after w → w ≤ step_long → u ≡ said_by t w
      → Told input p journal before u journal' numbers sets records memo after
  told_once before after u w room x few is =
      let text : Put before 0 (next_text input r) after w = rw explains at x in
      rw is (record {
        next = next;
        answered = answered;
        listed = listed;
        text = text;
        said = record {
          part = next_text input r;
          cut =
              step_left input r (omega (arith, g.steps, here)) here
              ∙ ap (λ (y : Run). next_text input r ++ explained_from input y) (sym next);
          put = text;
          fits = omega (arith, few, room);
        };
        going = going_front w once.going;
        right = once.right;
      })

-- a step is one more
pub one_more : {input : List ℕ} {p : Progress} {q : Turned} {journal before journal' numbers sets records memo after : List ℕ}
    → Told input p journal before q journal' numbers sets records memo after → q.progress.count ≡ p.count + 1
unfolding turn
one_more a = ap (λ (x : Run). x.count) a.next
