use Rattle.federation.specs.Federation.{is_lawful}
use Rattle.runfile.proofs.Turns.{open_when, opened_run, refused_run}
use Rattle.going.proofs.Keeps.{kept_new}
use Rattle.run.proofs.Pieces.{nothing_yet, piece_more}
use mathlib.Core.Path.{◌∙◌, ap, refl, sym}
use native.Mathlib.Nat.{le_refl, lt_irrefl}
use native.Mathlib.Omega.{arith}
use mathlib.Core.Bool.{true, true≢false}
use Rattle.base.proofs.Reflect.{by_cases}
use mathlib.Core.List.{List}
use mathlib.Core.Path.{◌≡◌}
use Prim.Native.Nat.{ℕ}
use lib.ListN.{get_or, length}
use Rattle.federation.specs.declared.Settings.{Settings}
use Rattle.journal.specs.Journal.{capacity}
use Rattle.index.specs.Places.{numbers_size, sets_size}
use Rattle.index.specs.Records.{records_size}
use Rattle.ledger.specs.State.{new_ledger}
use Rattle.ledger.specs.Steps.{new_of}
use Rattle.ledger.specs.declared.Ledger.{Ledger}
use Rattle.ledger.specs.declared.Reply.{Reply}
use Rattle.runfile.specs.Run.{begins, header_size, journal_size, opened, text_from, version_in}
use Rattle.runfile.specs.Steps.{word_at}
use Rattle.progress.specs.Kept.{Kept}
use Rattle.progress.specs.Pieces.{blank, run_at, turned_back}
use Rattle.run.proofs.start.Goals as goal

-- the new ledger has the settings that were given, lawful or not
ledger_of_new : (n b faulty version : ℕ) → (new_of n b faulty version).ledger ≡ new_ledger n b faulty version
unfolding new_of
ledger_of_new n b faulty version =
    by_cases (λ t. (new_of n b faulty version).ledger ≡ new_ledger n b faulty version) (is_lawful (new_ledger n b faulty version).settings) (λ t. simp t)
    (λ t. simp t)

-- which are the header's
began : (input : List ℕ) (s : Settings) → s ≡ (opened input).settings → (r : Reply) → r ≡ new_of s.n s.b s.faulty s.version → r.ledger ≡ opened input
unfolding opened new_ledger
began input s e r q = ap (λ (x : Reply). x.ledger) q ∙ ledger_of_new s.n s.b s.faulty s.version ∙ rw e

begins_at : (input : List ℕ) (l : Ledger) → l ≡ opened input → run_at l header_size 0 (blank journal_size) ≡ begins input
begins_at input l e = rw e

kept_begun : (input : List ℕ) (l : Ledger) → l ≡ opened input → is_lawful (opened input).settings ≡ true
    → Kept l (blank journal_size) (blank numbers_size) (blank sets_size) (blank records_size) (blank capacity)
unfolding opened new_ledger
kept_begun input l e h = rw e (kept_new (get_or input 5 0) (get_or input 6 0) (word_at input 7) (version_in input) h)

-- or those of no vaults, where check 1 turns it back
back_at : (input : List ℕ) (r : Reply) → r ≡ new_of 0 0 0 0 → run_at r.ledger (length input) 0 (blank journal_size) ≡ turned_back input
back_at input r e = ap (λ (l : Ledger). run_at l (length input) 0 (blank journal_size)) (ap (λ (x : Reply). x.ledger) e ∙ ledger_of_new 0 0 0 0)

pub returns-then-opens : goal.returns-then-opens
returns-then-opens c =
    let o = sym c.opens.ensures ∙ c.if-opens.true in
    let h = open_when _ o in
    let e = began _ _ c.settings_in-settings.ensures _ c.new-reply.ensures in
    record {
      piece = nothing_yet (opened_run _ o ∙ ap (text_from _) (sym (begins_at _ _ e)));
      passed = λ l. o;
      going = λ l. record { few = h.few; steps = omega arith; inside = h.headed; kept = kept_begun _ _ e h.lawful };
      silent = λ l. refl;
      first = λ l. begins_at _ _ e;
      back = λ no. absurd (true≢false (sym o ∙ no));
      short = omega arith;
    }

pub returns : goal.returns
returns c =
    let w = c in
    let shut = w in
    let no = sym shut.opens.ensures ∙ shut.if-opens.false in
    let text = refused_run _ no _ (le_refl _) in
    record {
      piece = piece_more (nothing_yet refl) text w.write_line-n.ensures.0 (omega arith);
      passed = λ l. absurd (lt_irrefl _ l);
      going = λ o. absurd (true≢false (sym o ∙ no));
      silent = λ o. absurd (true≢false (sym o ∙ no));
      first = λ o. absurd (true≢false (sym o ∙ no));
      back = λ l. back_at shut.args.input.now _ c.new-reply-2.ensures;
      short = omega (arith, w.write_line-n.ensures.1);
    }
