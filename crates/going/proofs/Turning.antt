-- A turn of the run's loop is a step of the run: what was decided is the command's decision, what is kept stays right, and the line is the
-- step's text. Three ways lead through it: a step that looks at all vaults, one that changes nothing, and one that does.
use mathlib.Core.Bool.{Bool, false, true, true≢false}
use mathlib.Core.List.{List}
use mathlib.Core.Logic.{◌⊎◌, inr}
use mathlib.Core.Path.{◌∙◌, ◌≡◌, ap, refl, subst, sym}
use Prim.Native.Nat.{◌%◌, ◌+◌, ◌-◌, ◌<◌, ◌≤◌, ℕ}
use native.Mathlib.Nat.{lt_irrefl}
use native.Mathlib.Omega.{arith}
use lib.ListN.{get_or, length}
use Rattle.outcome.specs.Figures.{Outcome}
use Rattle.job_sets.specs.Jobs.{no_jobs}
use Rattle.job_sets.specs.declared.job_set.JobSet.{JobSet}
use Rattle.index.specs.Index.{IndexedEntries}
use Rattle.generations.specs.Memo.{Ready}
use Rattle.ledger.proofs.Writes.{unwritten}
use Rattle.ledger.specs.Decisions.{is_book, is_nothing}
use Rattle.ledger.specs.Given.{Placed, Writable}
use Rattle.ledger.specs.State.{applied, version_of}
use Rattle.ledger.specs.Steps.{journal_with}
use Rattle.ledger.specs.declared.Change.{Change}
use Rattle.ledger.specs.declared.Change.TheVariants.{Book, Count, Grant, Hold, Nothing, Record, Release, See, Sign}
use Rattle.ledger.specs.declared.Decision.{Decision}
use Rattle.ledger.specs.declared.Ledger.{Ledger}
use Rattle.ledger.specs.declared.Listing.{Listing}
use Rattle.vaults.specs.Votes.{no_votes}
use Rattle.vaults.specs.declared.Vault.{Vault}
use Rattle.runfile.proofs.Turns.{step_last, step_text_lem}
use Rattle.runfile.specs.Run.{Run, turn}
use Rattle.runfile.specs.Steps.{Command, command_in, journal_by, listed_by, reply_of, step_at}
use Rattle.runfile.specs.declared.Kind.{Kind}
use Rattle.runfile.specs.declared.Kind.TheVariants.{Propose}
use Rattle.steps.proofs.Quiet.{Bookless, books, writable}
use Rattle.questions.specs.Answers.{alone}
use Rattle.naming.specs.Kept.{Still, Remembered}
use Rattle.going.proofs.Naming.{still_right}
use Rattle.kind_table.specs.Table.{is_wide}
use Rattle.reading.specs.Reading.{Read, job_of, vault_of}
use Rattle.progress.specs.Said.{Said}
use Rattle.steps.specs.Turned.{CarriedOut, decision_at, record_in}
use Rattle.surveys.specs.Surveyed.{Surveyed, answer_of}
use Rattle.text.specs.Text.{longest_text}
use Rattle.reading.specs.declared.Step.{Step}
use Rattle.progress.specs.declared.Looked.{Looked}
use Rattle.progress.specs.declared.Told.{Told}
use Rattle.kinds.specs.declared.View.{View}
use Rattle.going.proofs.Commands.{There, books_of, command_decision, decided_is, left_by_lem, reply_ledger, reply_outcome, there, view_at}
use Rattle.going.proofs.Commands.{answer, narrow_lists, wide_answer, wide_quiet}
use Rattle.going.proofs.Keeps.{kept_applied, kept_memo, ready}
use Rattle.going.proofs.Parts.{nothing_more, part_more}
use Rattle.progress.specs.Kept.{Kept}
use Rattle.progress.specs.Pieces.{Going, run_at}
use Rattle.progress.specs.Coming.{CarriedOn, Come, Goes, moved_to, standing, turned_at}
use Rattle.progress.specs.Turns.{Holds, Stepped}
use Rattle.progress.specs.declared.Progress.{Progress}
use Rattle.progress.specs.declared.Turned.{Turned}
use Rattle.progress.specs.declared.Cursor.{Cursor}

-- the run goes on from l and c to l' and c'
pub record Took (input : List ℕ) (l : Ledger) (c : Cursor) (journal out : List ℕ) (l' : Ledger) (c' : Cursor) (named' : Remembered)
    (memo' journal' numbers' sets' records' out' : List ℕ) : Type 0 where
  pub step : Stepped input (run_at l c.pos c.count journal) c.at out (run_at l' c'.pos c'.count journal') c'.outcome c'.members out' c'.at
  pub going : Going input (standing l' c') journal' numbers' sets' records' memo'
  pub right : Holds l' journal' named'
  pub fits : c'.at ≤ length out
  pub same_out : length out' ≡ length out

is_nothing_lem : (c : Change) → is_nothing c ≡ true → c ≡ Nothing
is_nothing_lem Nothing e = refl
is_nothing_lem Book e = cc
is_nothing_lem (Sign state) e = cc
is_nothing_lem (Hold state) e = cc
is_nothing_lem (Release state) e = cc
is_nothing_lem (Record column) e = cc
is_nothing_lem (See seen) e = cc
is_nothing_lem (Count history) e = cc
is_nothing_lem (Grant grant) e = cc

-- nothing changed
same_ledger : (l : Ledger) (c : Change) (v job : ℕ) → c ≡ Nothing → l ≡ applied l c v job
unfolding applied
same_ledger l c v job e = rw e

same_journal : (c : Change) (booked version : ℕ) (journal bytes : List ℕ) → c ≡ Nothing → journal ≡ journal_with c booked version journal bytes
same_journal c booked version journal bytes e = rw e

module _ (input : List ℕ) (l : Ledger) (c : Cursor) (memo journal numbers sets records out : List ℕ)
    (g : Going input (standing l c) journal numbers sets records memo) (more : c.pos < length input) (room : c.at + longest_text ≤ length out)
    (s : Step) (r : Read (version_of l) input c.pos (c.count + 1) s) where
  abbrev command : Command
  command = command_in (version_of l) s.kind input s.at

  abbrev decision : Decision
  decision = command_decision l journal command

  abbrev view : View
  view = view_at l s.vault s.job s.place

  -- the command that was read stands there
  stands : command ≡ step_at (version_of l) input c.pos
  stands =
      ap (λ (x : ℕ). command_in (version_of l) s.kind input x) r.at_is ∙ ap (λ (k : Kind). command_in (version_of l) k input (c.pos + 1)) r.kind_is

  -- the run that is left
  left_run : (l' : Ledger) (journal' : List ℕ) → l' ≡ applied l decision.change s.vault s.job → journal' ≡ journal_by l journal command
      → run_at l' s.end s.number journal' ≡ turn input (run_at l c.pos c.count journal)
  unfolding turn
  left_run l' journal' el ej =
      let a : l' ≡ (reply_of l journal (step_at (version_of l) input c.pos)).ledger =
      el ∙ rw (r.asked.vault_is, r.asked.job_is) (sym (reply_ledger l journal command) ∙ ap (λ (c : Command). (reply_of l journal c).ledger) stands) in
      let b : journal' ≡ journal_by l journal (step_at (version_of l) input c.pos) = ej ∙ ap (journal_by l journal) stands in
      rw (a, b, r.end_is, r.number_is)

  -- the run goes on
  on : (answer : Listing) (l' : Ledger) (memo' journal' numbers' sets' records' out' : List ℕ) (at' : ℕ) (named' : Remembered)
      → answer.outcome ≡ decision.outcome → answer.members ≡ listed_by l journal command
      → l' ≡ applied l decision.change s.vault s.job → journal' ≡ journal_by l journal command
      → Kept l' journal' numbers' sets' records' memo' → Holds l' journal' named' → Said s.number answer out c.at out' at' → length out' ≡ length out
      → Took input l c journal out l' (moved_to s at' answer.outcome answer.members) named' memo' journal' numbers' sets' records' out'
  on answer l' memo' journal' numbers' sets' records' out' at' named' eo em el ej k h w same =
      let told : answer.outcome ≡ (reply_of l journal (step_at (version_of l) input c.pos)).outcome =
      eo ∙ sym (reply_outcome l journal command) ∙ ap (λ (c : Command). (reply_of l journal c).outcome) stands in
      let lists : answer.members ≡ listed_by l journal (step_at (version_of l) input c.pos) = em ∙ ap (listed_by l journal) stands in
      record {
        step = record {
          next = left_run l' journal' el ej;
          onward = r.onward;
          answered = told;
          listed = lists;
          text = rw (r.number_is, told, lists) at w.text;
          short = w.short;
        };
        going = record { few = g.few; steps = omega (arith, g.steps, r.onward, r.number_is); inside = r.inside; kept = k };
        right = h;
        fits = omega (arith, w.short, room);
        same_out = same;
      }

  -- ---- a step that looks at all vaults
  pub took_wide : (kept : Remembered) (a : Looked) (memo' out' : List ℕ) → s.wide ≡ true
      → Surveyed (books_of l kept) s c.at l.order journal out memo' out' a → length out' ≡ length out
      → (c' : Cursor) → c' ≡ moved_to s a.at a.outcome a.members
      → Took input l c journal out l c' a.named memo' journal numbers sets records out'
  took_wide kept a memo' out' y h same c' e =
      let w : is_wide s.kind ≡ true = sym r.wide_is ∙ y in
      let n : decision.change ≡ Nothing = wide_quiet l g.kept.sane journal input s.at s.kind w in
      let quiet : is_book decision.change ≡ false = ap is_book n in
      let answered : answer_of a ≡ answer l g.kept.sane journal input s.at s.kind =
      h.answer_is ∙ rw (r.asked.vault_is, r.asked.job_is) (wide_answer l g.kept.sane journal input s.at s.kind w kept a.named h.found) in
      rw e (on (answer_of a) l memo' journal numbers sets records out' a.at a.named
      (ap (λ (x : Listing). x.outcome) answered)
      (ap (λ (x : Listing). x.members) answered)
      (same_ledger l decision.change s.vault s.job n)
      (same_journal decision.change l.booked (version_of l) journal (record_in (version_of l) input s) n
      ∙ sym (left_by_lem l g.kept.sane journal input s.at s.kind (inr (record { none = quiet }))))
      (kept_memo l journal numbers sets records memo g.kept memo' h.right h.size) h.found.right h.said same)

  -- ---- a step that looks at one vault
  module _ (narrow : s.wide ≡ false) (told : Told) (journal' numbers' sets' records' out' : List ℕ)
      (h : CarriedOut input s view c.at journal out told journal' numbers' sets' records' out') where
    abbrev found : Decision
    found = decision_at view journal input s

    found_is : found ≡ decision
    found_is =
        rw (r.asked.vault_is, r.asked.job_is, r.asked.place_is)
        (decided_is l g.kept.sane journal input s.at s.kind (sym r.wide_is ∙ narrow))

    change_is : told.change ≡ decision.change
    change_is = h.change_is ∙ ap (λ (d : Decision). d.change) found_is

    left : journal' ≡ journal_by l journal command
    left =
        h.stored.written ∙ ap (λ (x : Change). journal_with x l.booked (version_of l) journal (record_in (version_of l) input s)) change_is
        ∙ sym (left_by_lem l g.kept.sane journal input s.at s.kind
        (subst (λ (d : Decision). (s.kind ≡ Propose) ⊎ Bookless d) found_is (books view journal input s.at s.kind)))

    follows : (l' : Ledger) (named' : Remembered) → l' ≡ applied l told.change s.vault s.job → Kept l' journal' numbers' sets' records' memo
        → Holds l' journal' named' → length out' ≡ length out
        → Took input l c journal out l' (moved_to s told.at told.outcome no_jobs) named' memo journal' numbers' sets' records' out'
    follows l' named' e k n same =
        on (alone told.outcome) l' memo journal' numbers' sets' records' out' told.at named'
        (h.outcome_is ∙ ap (λ (d : Decision). d.outcome) found_is)
        (narrow_lists l g.kept.sane journal input s.at s.kind (sym r.wide_is ∙ narrow))
        (e ∙ ap (λ (x : Change). applied l x s.vault s.job) change_is) left k n
        (subst (λ (o : Outcome). Said s.number (alone o) out c.at out' told.at) (sym h.outcome_is) h.said) same

    to_write : Writable told.change l.booked (version_of l) journal (record_in (version_of l) input s)
    to_write = rw h.change_is (writable view journal input s.at s.kind found refl)

    kept_so : ((state : Vault) → told.change ≡ Hold state → s.job < l.booked)
        → Kept (applied l told.change s.vault s.job) journal' numbers' sets' records' memo
    kept_so below =
        kept_applied l journal numbers sets records memo g.kept journal' numbers' sets' records' told.change s.vault s.job
        (record_in (version_of l) input s)
        to_write below h.stored

    -- one that changes nothing
    pub took_quiet : (b : Bool) → b ≡ is_nothing told.change → b ≡ true → (kept : Remembered) → Holds l journal kept → length out' ≡ length out
        → (c' : Cursor) → c' ≡ moved_to s told.at told.outcome no_jobs
        → Took input l c journal out l c' kept memo journal' numbers' sets' records' out'
    took_quiet b e y kept right same c' d =
        let n : told.change ≡ Nothing = is_nothing_lem told.change (sym e ∙ y) in
        let still : l ≡ applied l told.change s.vault s.job = same_ledger l told.change s.vault s.job n in
        let held : (state : Vault) → told.change ≡ Hold state → s.job < l.booked = λ state h. absurd (true≢false (sym (ap is_nothing n) ∙ ap is_nothing h)) in
        let unwritten : journal ≡ journal' =
        same_journal told.change l.booked (version_of l) journal (record_in (version_of l) input s) n ∙ sym h.stored.written in
        rw d (follows l kept still (subst (λ (x : Ledger). Kept x journal' numbers' sets' records' memo) (sym still) (kept_so held))
        (subst (λ (x : List ℕ). Holds l x kept) unwritten right) same)

    -- one that changes something
    module _ (b : Bool) (e : b ≡ is_nothing told.change) (y : b ≡ false) where
      named : There l g.kept.sane journal input s.at (vault_of command) (job_of command) decision
      named = there l g.kept.sane journal input s.at s.kind (ap is_nothing (sym change_is) ∙ sym e ∙ y)

      pub loud_placed : Placed l s.vault s.job
      loud_placed = rw (r.asked.vault_is, r.asked.job_is) named.placed

      pub took_loud : (l' : Ledger) → l' ≡ applied l told.change s.vault s.job → (kept : Remembered) → Holds l journal kept → length out' ≡ length out
          → (c' : Cursor) → c' ≡ moved_to s told.at told.outcome no_jobs → (named' : Remembered)
          → Still kept l.booked (get_or l.votes (s.job % 128) no_votes).signatures
          l'.booked (get_or l'.votes (s.job % 128) no_votes).signatures named'
          → Took input l c journal out l' c' named' memo journal' numbers' sets' records' out'
      took_loud l' a kept right same c' d named' still =
          let held : (state : Vault) → told.change ≡ Hold state → s.job < l.booked =
          λ state h. rw r.asked.job_is (named.below state (sym change_is ∙ h)) in
          let holds : Holds l' journal' named' =
          rw (a, h.stored.written)
          (still_right l told.change s.vault s.job journal (record_in (version_of l) input s) kept named' loud_placed.job right (rw a at still)) in
          rw d (follows l' named' a (rw a (kept_so held)) holds same)

-- ---- at the loop's head
module _ {input : List ℕ} {p : Progress} {last : ℕ} {memo journal₀ journal numbers sets records out₀ out : List ℕ}
    {l : Ledger} {c : Cursor} {named : Remembered}
    (t : Come input p last journal₀ out₀ (turned_at l c named) journal numbers sets records memo out) where
  pub few_vaults : l.settings.n ≤ 16
  few_vaults = t.going.kept.sane.lawful.vaults

  pub to_survey : Ready (version_of l) journal l.booked numbers sets l.order l.arrivals memo
  to_survey = ready l journal numbers sets records memo t.going.kept

  pub to_look_up : IndexedEntries (version_of l) journal l.booked numbers sets
  to_look_up = search t.going.kept.indexed

  pub numbered : (s : Step) → c.pos < length input → Read (version_of l) input c.pos (c.count + 1) s → s.number < 1000000
  numbered s more r = omega (arith, r.number_is, t.going.steps, t.going.few)

  -- a step later
  pub come_on : (l' : Ledger) (c' : Cursor) (named' : Remembered) (memo' journal' numbers' sets' records' out' : List ℕ)
      → c.pos < length input → c.count < last
      → Took input l c journal out l' c' named' memo' journal' numbers' sets' records' out'
      → Come input p last journal₀ out₀ (turned_at l' c' named') journal' numbers' sets' records' memo' out'
  unfolding turn
  come_on l' c' named' memo' journal' numbers' sets' records' out' more few k =
      let before : c.count < length input = omega (arith, t.going.steps) in
      let counted : c'.count ≡ c.count + 1 = ap (λ (x : Run). x.count) k.step.next in
      let text = step_text_lem input (run_at l c.pos c.count journal) (run_at l' c'.pos c'.count journal') _ _ more before refl refl k.step.next in
      record {
        going = k.going;
        right = k.right;
        part = part_more t.part text k.step.text;
        ends = t.ends ∙ step_last input (run_at l c.pos c.count journal) (run_at l' c'.pos c'.count journal') more before k.step.next;
        went = omega (arith, t.went, k.step.onward, k.step.short);
        fits = λ _. omega (arith, k.fits, t.same_out);
        same_out = k.same_out ∙ t.same_out;
        since = omega (arith, t.since, counted);
        upto = omega (arith, counted);
        none = λ e. absurd (omega (arith, t.since, counted, e));
        some = λ _. record {
          from = run_at l c.pos c.count journal;
          place = c.at;
          buffer = out;
          numbered = sym counted;
          first = t.none;
          step = k.step;
        };
      }

pub started : {input : List ℕ} {l : Ledger} {c : Cursor} {last : ℕ} {memo journal numbers sets records : List ℕ} (out : List ℕ) (named : Remembered)
    → Going input (standing l c) journal numbers sets records memo → Holds l journal named → c.count ≤ last
    → Come input (standing l c) last journal out (turned_at l c named) journal numbers sets records memo out
started {c = c} out named g h n = record {
  going = g;
  right = h;
  part = nothing_more;
  ends = refl;
  went = omega arith;
  fits = λ f. f;
  same_out = refl;
  since = omega arith;
  upto = n;
  none = λ _. record { same_run = refl; same_place = refl; same_buffer = refl };
  some = λ l. absurd (lt_irrefl c.count l);
}

-- ---- the loop's end
pub stopped : {input : List ℕ} {p : Progress} {last : ℕ} {memo journal₀ journal numbers sets records out₀ out : List ℕ}
    {l : Ledger} {c : Cursor} {named : Remembered}
    → Come input p last journal₀ out₀ (turned_at l c named) journal numbers sets records memo out → (b : Bool) → Goes c last (length input) (length out) b
    → b ≡ false → (q : Turned) → q ≡ turned_at l c named → CarriedOn input p last journal₀ out₀ q journal numbers sets records memo out
stopped t b h f q e = rw e (record {
  come = t;
  stopped = rw t.same_out at (h.off f);
})

-- each step reads on
pub reads_on : {version : ℕ} {input : List ℕ} {pos n at : ℕ} {o : Outcome} {m : JobSet} {s : Step} → Read version input pos n s → (c' : Cursor)
    → c' ≡ moved_to s at o m → length input - c'.pos < length input - pos
reads_on r c' e = rw e (omega (arith, r.onward, r.inside))

pub ruleset turning = (few_vaults, to_survey, to_look_up, numbered, loud_placed, started, stopped, reads_on)
