-- Check 1 decides the claim about the file's bytes; the kind that is read is the row of the table that fits, since each row's byte is that of its kind and each
-- kind's byte is in the table; what cannot be read is the last that a run reads, so its line is the last; and a run is a list of steps, of which the ledger's
-- page speaks.
use mathlib.Core.Bool.{Bool, cond, false, true}
use mathlib.Core.List.{List, [], ◌++◌, ◌∷◌, append_assoc, append-nil}
use mathlib.Core.Logic.{◌⊎◌, inl, inr}
use mathlib.Core.Path.{◌∙◌, ◌≡◌, ap, ap₂, refl, subst, sym}
use Prim.Native.Nat.{◌*◌, ◌+◌, ◌-◌, ◌<◌, ◌≤◌, suc, zero, ℕ}
use native.Mathlib.Omega.{arith}
use lib.Dec.{eqb, ltb}
use lib.ListN.{drop, get_or, length, take}
use lib.Seq.{get_or-drop, get_or-take}
use borrow.Author.Tests.{eqb-true, le-leb, leb-false, leb-true, lt-leb, lt-ltb, ltb-true}
use Rattle.base.proofs.Reflect.{by_cases, reflect_and, reflect_as, reflect_eq, reflect_le, refutes}
use Rattle.base.specs.Lists.{In}
use Rattle.base.specs.Reflect.{Reflects}
use Rattle.codec.specs.Codec.{record_size, says_trimmed}
use Rattle.digits.specs.Digits.{decimal, digits}
use Rattle.federation.proofs.Lawful.{reflect_lawful}
use Rattle.federation.specs.Federation.{threshold_of}
use Rattle.federation.specs.declared.Settings.{Settings}
use Rattle.ledger.proofs.Effects.{applied_settings}
use Rattle.ledger.specs.State.{new_ledger, version_of}
use Rattle.ledger.specs.Worlds.{World, after as after_one_event, after_all, lent, reply_to}
use Rattle.ledger.specs.Worlds.{client_preflight, commit, dependencies, faulty_vote, generations, preflight, propose, release, show}
use Rattle.ledger.specs.declared.Ledger.{Ledger}
use Rattle.binomials.proofs.Chances.{draw_means}
use Rattle.binomials.specs.Draw.{Drawn, absent, chance, draw_of, failing, unlawful}
use Rattle.ledger.proofs.Demand1.{demand1}
use Rattle.outcome.specs.Figures.{number_of, value_of, Outcome}
use Rattle.std.specs.Prelude.{Err}
use Rattle.outcome.specs.declared.Refusal.TheVariants.{Unreadable}
use Rattle.text.proofs.Members.{nothing_listed}
use Rattle.text.specs.Text.{line_for, line_of}
use Rattle.runfile.proofs.History.{run_keeps}
use Rattle.runfile.proofs.Turns.{opened_run}
use Rattle.runfile.specs.Demand1.{KindRow, NextStep, NoKindFits, OfDraw, PrintedLine, Readable, Reads, RecordBytes, Refusal1, Refusal2, RunInOrder}
use Rattle.runfile.specs.Demand1.{StandsAt, kinds, row_for, version_1, version_2, zero_one_zero}
use Rattle.runfile.specs.History.{Item, begun, drawn, event, events, item_of, items_next, steps, told, unread}
use Rattle.runfile.specs.Run.{Run, begins, command_of, ended, header_size, is_header, longest, opened, opens, opens_up_to, run_next, text_from, text_next}
use Rattle.runfile.specs.Run.{text_of, text_up_to, turn}
use Rattle.runfile.specs.Steps.{Command, body_size, command_in, draw, end_of, kind_at, kind_of, next_at, reply_of, request, step_at, unreadable, word_at}
use Rattle.vaults.specs.declared.Column.TheVariants.{Acknowledgements, Signatures}
use Rattle.runfile.specs.declared.Kind.{Kind}
use Rattle.runfile.specs.declared.Kind.TheVariants.{ClientPreflight, Commit, Dependencies, Draw, Equivocating, FaultyAcknowledge, FaultySign}
use Rattle.runfile.specs.declared.Kind.TheVariants.{Generations, Preflight, Propose, Release, Show, Snapshot, Unknown}

-- ---- refusal 1
spelled : (input : List ℕ) → 9 ≤ length input → get_or input 0 0 ≡ 86 → get_or input 1 0 ≡ 76 → get_or input 2 0 ≡ 84 → take 3 input ≡ 86 ∷ 76 ∷ 84 ∷ []
spelled [] h a b c = absurd (omega (arith, h))
spelled (x ∷ []) h a b c = absurd (omega (arith, h))
spelled (x ∷ y ∷ []) h a b c = absurd (omega (arith, h))
spelled (x ∷ y ∷ z ∷ l) h a b c = simp (a, b, c)

letter : (input : List ℕ) → take 3 input ≡ 86 ∷ 76 ∷ 84 ∷ [] → (i : ℕ) → i < 3 → get_or input i 0 ≡ get_or (86 ∷ 76 ∷ 84 ∷ []) i 0
letter input e i h = sym (get_or-take 3 input i 0 h) ∙ ap (λ (l : List ℕ). get_or l i 0) e

readable? : (input : List ℕ) → Reflects (opens input) (Readable input)
unfolding opens_up_to is_header opened new_ledger
readable? input =
    reflect_as
    (reflect_and (reflect_le (length input) longest)
    (reflect_and (reflect_and (reflect_le header_size (length input))
    (reflect_and (reflect_eq (get_or input 0 0) 86) (reflect_and (reflect_eq (get_or input 1 0) 76) (reflect_eq (get_or input 2 0) 84))))
    (reflect_lawful (opened input).settings)))
    (λ h. record {
      short = h.0;
      whole = h.1.0.0;
      letters = spelled input h.1.0.0 h.1.0.1.0 h.1.0.1.1.0 h.1.0.1.1.1;
      settings = h.1.1;
    })
    (λ h.
    let at = letter input h.letters in
    (h.short, ((h.whole, (at 0 (omega arith), (at 1 (omega arith), at 2 (omega arith)))), h.settings)))

line_1 : line_of 0 1 0 ≡ zero_one_zero
unfolding line_of decimal digits
line_1 = refl

-- the first line of a run begins with 1
first_byte : (n : ℕ) (input : List ℕ) → text_next n input (begins input) ≡ zero_one_zero → ⊥
unfolding text_next line_of decimal digits
first_byte zero input e = absurd (omega (arith, ap length e))
first_byte (suc n) input e = by (ended input (begins input)) e
  where
    by : (b : Bool)
        → cond b [] (text_of (0 + 1) (opened input) (begins input).journal (command_of input (begins input)) ++ text_next n input
        (turn input (begins input))) ≡ zero_one_zero
        → ⊥
    by true q = absurd (omega (arith, ap length q))
    by false q = absurd (omega (arith, ap (λ (t : List ℕ). get_or t 0 0) q))

refusal_1 : (input : List ℕ) → Refusal1 input
unfolding text_up_to text_from
refusal_1 input = record {
  printed = λ n. simp (refutes (readable? input) n) line_1;
  only = λ h e. first_byte (length input - 0) input (sym (simp ((readable? input).complete h)) ∙ e);
}

-- ---- the table
abbrev byte_of : Kind → ℕ
byte_of Propose = 1
byte_of Preflight = 2
byte_of Commit = 3
byte_of FaultySign = 4
byte_of FaultyAcknowledge = 5
byte_of Show = 6
byte_of Draw = 7
byte_of Generations = 8
byte_of Snapshot = 9
byte_of Release = 10
byte_of Dependencies = 11
byte_of ClientPreflight = 12
byte_of Equivocating = 13
byte_of Unknown = 0

-- a byte that names a kind is that kind's
abbrev Names : ℕ → Kind → Type 0
Names b k = (b ≡ byte_of k) ⊎ (k ≡ Unknown)

names : (b : ℕ) → Names b (kind_of b)
unfolding kind_of
names b =
    or_names 1 Propose _ refl
    (or_names 2 Preflight _ refl
    (or_names 3 Commit _ refl
    (or_names 4 FaultySign _ refl
    (or_names 5 FaultyAcknowledge _ refl
    (or_names 6 Show _ refl
    (or_names 7 Draw _ refl
    (or_names 8 Generations _ refl
    (or_names 9 Snapshot _ refl
    (or_names 10 Release _ refl
    (or_names 11 Dependencies _ refl
    (or_names 12 ClientPreflight _ refl
    (or_names 13 Equivocating _ refl
    (inr refl)))))))))))))
  where
    or_names : (n : ℕ) (k rest : Kind) → n ≡ byte_of k → Names b rest → Names b (cond (eqb b n) k rest)
    or_names n k rest e h = by_cases (λ t. Names b (cond t k rest)) (eqb b n) (λ t. inl (eqb-true b n t ∙ e)) (λ t. h)

-- each kind has a row of the table
record RowOf (version bytes_of_record : ℕ) (k : Kind) : Type 0 where
  kind : KindRow
  listed : In kind (kinds bytes_of_record)
  byte : kind.byte ≡ byte_of k
  size : kind.size ≡ body_size version k

module _ (version bytes_of_record : ℕ) (sized : record_size version ≡ bytes_of_record) where
  row_of : (k : Kind) → (RowOf version bytes_of_record k) ⊎ (k ≡ Unknown)
  row_of Propose = inl (record { kind = _; listed = inl refl; byte = refl; size = sym sized })
  row_of Preflight = inl (record { kind = _; listed = inr (inl refl); byte = refl; size = refl })
  row_of Commit = inl (record { kind = _; listed = inr (inr (inl refl)); byte = refl; size = refl })
  row_of FaultySign = inl (record { kind = _; listed = inr (inr (inr (inl refl))); byte = refl; size = refl })
  row_of FaultyAcknowledge = inl (record { kind = _; listed = inr (inr (inr (inr (inl refl)))); byte = refl; size = refl })
  row_of Show = inl (record { kind = _; listed = inr (inr (inr (inr (inr (inl refl))))); byte = refl; size = refl })
  row_of Draw = inl (record { kind = _; listed = inr (inr (inr (inr (inr (inr (inl refl)))))); byte = refl; size = refl })
  row_of Generations = inl (record { kind = _; listed = inr (inr (inr (inr (inr (inr (inr (inl refl))))))); byte = refl; size = refl })
  row_of Snapshot = inl (record { kind = _; listed = inr (inr (inr (inr (inr (inr (inr (inr (inl refl)))))))); byte = refl; size = refl })
  row_of Release = inl (record { kind = _; listed = inr (inr (inr (inr (inr (inr (inr (inr (inr (inl refl))))))))); byte = refl; size = refl })
  row_of Dependencies = inl (record { kind = _; listed = inr (inr (inr (inr (inr (inr (inr (inr (inr (inr (inl refl)))))))))); byte = refl; size = refl })
  row_of ClientPreflight = inl (record {
    kind = _;
    listed = inr (inr (inr (inr (inr (inr (inr (inr (inr (inr (inr (inl refl)))))))))));
    byte = refl;
    size =
        refl;
  })
  row_of Equivocating = inl (record {
    kind = _;
    listed = inr (inr (inr (inr (inr (inr (inr (inr (inr (inr (inr (inr (inl refl))))))))))));
    byte = refl;
    size = refl;
  })
  row_of Unknown = inr refl

  module _ (input : List ℕ) (pos : ℕ) where
    -- a kind that is named, with all of its body
    at_kind : (k : Kind) → kind_of (get_or input pos 0) ≡ k → pos + 1 + body_size version k ≤ length input → kind_at version input pos ≡ k
    unfolding kind_at
    at_kind k e h = simp (e, lt-ltb (pos + body_size version k) (length input) (omega (arith, h)))

    pub cut_kind : NoKindFits bytes_of_record input pos → kind_at version input pos ≡ Unknown
    unfolding kind_at
    cut_kind n = by (kind_of (get_or input pos 0)) (names (get_or input pos 0)) (row_of (kind_of (get_or input pos 0)))
      where
        by : (k : Kind) → Names (get_or input pos 0) k → (RowOf version bytes_of_record k) ⊎ (k ≡ Unknown)
            → cond (ltb (pos + body_size version k) (length input)) k Unknown ≡ Unknown
        by k m (inr u) = by_cases (λ b. cond b k Unknown ≡ Unknown) (ltb (pos + body_size version k) (length input)) (λ _. u) (λ _. refl)
        by k (inr u) (inl r) = by_cases (λ b. cond b k Unknown ≡ Unknown) (ltb (pos + body_size version k) (length input)) (λ _. u) (λ _. refl)
        by k (inl m) (inl r) =
            by_cases (λ b. cond b k Unknown ≡ Unknown) (ltb (pos + body_size version k) (length input))
            (λ t. absurd (n r.kind r.listed (record {
              named = m ∙ sym r.byte;
              whole = omega (arith, r.size, ltb-true (pos + body_size version k) (length input) t);
            })))
            (λ _. refl)

    abbrev body : ℕ → List ℕ
    body size = take size (drop (pos + 1) input)

    -- byte i of a body
    byte : (size i : ℕ) → i < size → get_or input (pos + 1 + i) 0 ≡ get_or (body size) i 0
    byte size i h = sym (get_or-take size (drop (pos + 1) input) i 0 h ∙ get_or-drop (pos + 1) input i 0)

    first : (size : ℕ) → 0 < size → get_or input (pos + 1) 0 ≡ get_or (body size) 0 0
    first size h = ap (λ (at : ℕ). get_or input at 0) (omega arith) ∙ byte size 0 h

    -- what is read of a row, by its kind
    read_as : (k : Kind) (row kind : KindRow) → kind_of row.byte ≡ k → body_size version k ≡ row.size
        → command_in version k input (pos + 1) ≡ row.asks (body row.size) → end_of version k pos (length input) ≡ pos + 1 + row.size
        → kind ≡ row → StandsAt input pos kind
        → (step_at version input pos ≡ kind.asks (body kind.size)) × (next_at version input pos ≡ pos + 1 + kind.size)
    read_as k row kind named size asks end e s =
        let s' : StandsAt input pos row = subst (StandsAt input pos) e s in
        let at : kind_at version input pos ≡ k = at_kind k (ap kind_of s'.named ∙ named) (omega (arith, s'.whole, size)) in
        subst (λ (x : KindRow). (step_at version input pos ≡ x.asks (body x.size)) × (next_at version input pos ≡ pos + 1 + x.size)) (sym e)
        (ap (λ (x : Kind). command_in version x input (pos + 1)) at ∙ asks, ap (λ (x : Kind). end_of version x pos (length input)) at ∙ end)

    -- 16 bits of a body
    word : (size i : ℕ) → i + 1 < size → word_at input (pos + 1 + i) ≡ word_at (body size) i
    word size i h =
        ap₂ (λ (a b : ℕ). a + 256 * b) (byte size i (omega (arith, h)))
        (ap (λ (at : ℕ). get_or input at 0) (omega arith) ∙ byte size (i + 1) h)

    read : (kind : KindRow) → In kind (kinds bytes_of_record) → StandsAt input pos kind
        → (step_at version input pos ≡ kind.asks (body kind.size)) × (next_at version input pos ≡ pos + 1 + kind.size)
    unfolding kind_of
    read kind (inl e) s =
        read_as Propose _ kind refl sized (ap (λ (n : ℕ). request (propose (take n (drop (pos + 1) input)))) sized) (omega (arith, sized)) e s
    read kind (inr (inl e)) s =
        read_as Preflight _ kind refl refl (ap₂ (λ (v k : ℕ). request (preflight v k)) (first 2 (omega arith)) (byte 2 1 (omega arith)))
        (omega (arith, sized)) e s
    read kind (inr (inr (inl e))) s =
        read_as Commit _ kind refl refl (ap₂ (λ (v k : ℕ). request (commit v k (word_at input (pos + 1 + 2)))) (first 4 (omega arith)) (byte 4 1 (omega arith))
        ∙ ap (λ (m : ℕ). request (commit (get_or (body 4) 0 0) (get_or (body 4) 1 0) m)) (word 4 2 (omega arith))) (omega (arith, sized)) e s
    read kind (inr (inr (inr (inl e)))) s =
        read_as FaultySign _ kind refl refl (ap₂ (λ (v k : ℕ). request (faulty_vote Signatures v k)) (first 2 (omega arith)) (byte 2 1 (omega arith)))
        (omega (arith, sized)) e s
    read kind (inr (inr (inr (inr (inl e))))) s =
        read_as FaultyAcknowledge _ kind refl refl
        (ap₂ (λ (v k : ℕ). request (faulty_vote Acknowledgements v k)) (first 2 (omega arith)) (byte 2 1 (omega arith))) (omega (arith, sized)) e s
    read kind (inr (inr (inr (inr (inr (inl e)))))) s =
        read_as Show _ kind refl refl (ap (λ (k : ℕ). request (show k)) (first 1 (omega arith))) (omega (arith, sized)) e s
    read kind (inr (inr (inr (inr (inr (inr (inl e))))))) s =
        read_as Draw _ kind refl refl (ap (λ (u : ℕ). draw u) (first 1 (omega arith))) (omega (arith, sized)) e s
    read kind (inr (inr (inr (inr (inr (inr (inr (inl e)))))))) s =
        read_as Generations _ kind refl refl (ap (λ (k : ℕ). request (generations k)) (first 1 (omega arith))) (omega (arith, sized)) e s
    read kind (inr (inr (inr (inr (inr (inr (inr (inr (inl e))))))))) s =
        read_as Snapshot _ kind refl refl (refl) (omega (arith, sized)) e s
    read kind (inr (inr (inr (inr (inr (inr (inr (inr (inr (inl e)))))))))) s =
        read_as Release _ kind refl refl (ap₂ (λ (v k : ℕ). request (release v k (get_or input (pos + 1 + 2) 0))) (first 3 (omega arith)) (byte 3 1 (omega arith))
        ∙ ap (λ (m : ℕ). request (release (get_or (body 3) 0 0) (get_or (body 3) 1 0) m)) (byte 3 2 (omega arith))) (omega (arith, sized)) e s
    read kind (inr (inr (inr (inr (inr (inr (inr (inr (inr (inr (inl e))))))))))) s =
        read_as Dependencies _ kind refl refl (ap₂ (λ (v k : ℕ). request (dependencies v k)) (first 2 (omega arith)) (byte 2 1 (omega arith)))
        (omega (arith, sized)) e s
    read kind (inr (inr (inr (inr (inr (inr (inr (inr (inr (inr (inr (inl e)))))))))))) s =
        read_as ClientPreflight _ kind refl refl (ap₂ (λ (v k : ℕ). request (client_preflight v k (get_or input (pos + 1 + 2) 0))) (first 3 (omega arith))
        (byte 3 1 (omega arith))
        ∙ ap (λ (m : ℕ). request (client_preflight (get_or (body 3) 0 0) (get_or (body 3) 1 0) m)) (byte 3 2 (omega arith))) (omega (arith, sized)) e s
    read kind (inr (inr (inr (inr (inr (inr (inr (inr (inr (inr (inr (inr (inl e))))))))))))) s =
        read_as Equivocating _ kind refl refl (refl) (omega (arith, sized)) e s
    read kind (inr (inr (inr (inr (inr (inr (inr (inr (inr (inr (inr (inr (inr e))))))))))))) s = absurd e

    pub reads : Reads version bytes_of_record input pos
    reads = record { read = read; cut = λ n. ap (λ (k : Kind). command_in version k input (pos + 1)) (cut_kind n) }

record_bytes : {version bytes_of_record : ℕ} → RecordBytes version bytes_of_record → record_size version ≡ bytes_of_record
unfolding record_size says_trimmed
record_bytes version_1 = refl
record_bytes version_2 = refl

-- ---- a run, some steps on
settings_kept : (l : Ledger) (journal : List ℕ) (c : Command) → (reply_of l journal c).ledger.settings ≡ l.settings
settings_kept l journal (request q) = applied_settings l _ _ _
settings_kept l journal (draw u) = refl
settings_kept l journal unreadable = refl

-- a step reads at least its kind
reads_on : (version : ℕ) (kind : Kind) (pos size : ℕ) → pos < size → pos < end_of version kind pos size
reads_on version Propose pos size h = omega arith
reads_on version Preflight pos size h = omega arith
reads_on version Commit pos size h = omega arith
reads_on version FaultySign pos size h = omega arith
reads_on version FaultyAcknowledge pos size h = omega arith
reads_on version Show pos size h = omega arith
reads_on version Draw pos size h = omega arith
reads_on version Generations pos size h = omega arith
reads_on version Snapshot pos size h = omega arith
reads_on version Release pos size h = omega arith
reads_on version Dependencies pos size h = omega arith
reads_on version ClientPreflight pos size h = omega arith
reads_on version Equivocating pos size h = omega arith
reads_on version Unknown pos size h = h

-- m steps on, with something left to read: m steps were carried out, of which each read a byte, by settings that stay
record On (m : ℕ) (input : List ℕ) (r r' : Run) : Type 0 where
  count : r'.count ≡ r.count + m
  far : r.pos + m ≤ r'.pos
  settings : r'.ledger.settings ≡ r.ledger.settings

on : (m : ℕ) (input : List ℕ) (r : Run) → (run_next m input r).pos < length input → On m input r (run_next m input r)
unfolding run_next turn
on zero input r h = record { count = omega arith; far = omega arith; settings = refl }
on (suc m) input r h = by (ended input r) refl (on m input (turn input r)) h
  where
    by : (b : Bool) → ended input r ≡ b
        → ((run_next m input (turn input r)).pos < length input → On m input (turn input r) (run_next m input (turn input r)))
        → (cond b r (run_next m input (turn input r))).pos < length input
        → On (suc m) input r (cond b r (run_next m input (turn input r)))
    by true e f h = absurd (omega (arith, h, leb-true (length input) r.pos e))
    by false e f h =
        let o = f h in
        let n = reads_on (version_of r.ledger) (kind_at (version_of r.ledger) input r.pos) r.pos (length input)
        (leb-false (length input) r.pos e) in
        record {
          count = omega (arith, o.count);
          far = omega (arith, o.far, n);
          settings = o.settings ∙ settings_kept r.ledger r.journal (command_of input r);
        }

-- nothing is printed where nothing is left to read
silent : (n : ℕ) (input : List ℕ) (r : Run) → length input ≤ r.pos → text_next n input r ≡ []
unfolding text_next
silent zero input r h = refl
silent (suc n) input r h = simp (le-leb _ _ h)

-- the text of m steps comes before that of n more
more_text_lem : (m n : ℕ) (input : List ℕ) (r : Run) → text_next (m + n) input r ≡ text_next m input r ++ text_next n input (run_next m input r)
unfolding text_next run_next
more_text_lem zero n input r = let same : 0 + n ≡ n = omega arith in ap (λ (k : ℕ). text_next k input r) same
more_text_lem (suc m) n input r =
    let next : suc m + n ≡ suc (m + n) = omega arith in
    ap (λ (k : ℕ). text_next k input r) next ∙ by (ended input r) refl (more_text_lem m n input (turn input r))
  where
    said : List ℕ
    said = text_of (r.count + 1) r.ledger r.journal (command_of input r)

    by : (b : Bool) → ended input r ≡ b
        → text_next (m + n) input (turn input r) ≡ text_next m input (turn input r) ++ text_next n input (run_next m input (turn input r))
        → cond b [] (said ++ text_next (m + n) input (turn input r))
        ≡ cond b [] (said ++ text_next m input (turn input r)) ++ text_next n input (cond b r (run_next m input (turn input r)))
    by true e f = sym (silent n input r (leb-true (length input) r.pos e))
    by false e f = ap (λ (t : List ℕ). said ++ t) f ∙ sym (append_assoc said _ _)

-- ---- refusal 2
last_line : (n : ℕ) (input : List ℕ) (r : Run) → r.pos < length input → kind_at (version_of r.ledger) input r.pos ≡ Unknown
    → text_next (suc n) input r ≡ line_of (r.count + 1) 2 0
unfolding text_next turn
last_line n input r h k =
    let end : length input ≤ (turn input r).pos =
    subst (λ (x : Kind). length input ≤ end_of (version_of r.ledger) x r.pos (length input)) (sym k) (omega arith) in
    simp (lt-leb _ _ h)
    (ap₂ ◌++◌
    (ap (λ (x : Kind). text_of (r.count + 1) r.ledger r.journal (command_in (version_of r.ledger) x input (r.pos + 1))) k
    ∙ nothing_listed (r.count + 1) (Err Unreadable))
    (silent n input (turn input r) end)
    ∙ append-nil (line_of (r.count + 1) 2 0))

from_start : {k : ℕ} (input : List ℕ) → length input - 0 ≡ k → text_from input (begins input) ≡ text_next k input (begins input)
unfolding text_from
from_start input e = ap (λ (n : ℕ). text_next n input (begins input)) e

refusal_2 : (input : List ℕ) → Readable input → (bytes_of_record : ℕ) → RecordBytes (word_at input 3) bytes_of_record → (m : ℕ)
    → let r : Run = run_next m input (begins input) in r.pos < length input → NoKindFits bytes_of_record input r.pos → Refusal2 input m
unfolding opened new_ledger
refusal_2 input readable bytes_of_record sized m h n =
    let o = on m input (begins input) h in
    let r : Run = run_next m input (begins input) in
    let version : version_of r.ledger ≡ word_at input 3 = ap (λ (s : Settings). s.version) o.settings in
    let k : kind_at (version_of r.ledger) input r.pos ≡ Unknown =
    ap (λ (v : ℕ). kind_at v input r.pos) version ∙ cut_kind (word_at input 3) bytes_of_record (record_bytes sized) input r.pos n in
    let fuel : length input - 0 ≡ m + suc (length input - (m + 1)) = omega (arith, o.far, h) in
    opened_run input ((readable? input).complete readable) ∙ from_start input fuel ∙ more_text_lem m (suc (length input - (m + 1))) input (begins input)
    ∙ ap (λ (t : List ℕ). text_next m input (begins input) ++ t)
    (last_line (length input - (m + 1)) input r h k ∙ ap (λ (c : ℕ). line_of (c + 1) 2 0) (o.count ∙ none))
  where
    none : 0 + m ≡ m
    none = omega arith

-- ---- the steps, by where they stand
itemless : (n : ℕ) (input : List ℕ) (r : Run) → length input ≤ r.pos → items_next n input r ≡ []
unfolding items_next
itemless zero input r h = refl
itemless (suc n) input r h = simp (le-leb _ _ h)

more_items : (m n : ℕ) (input : List ℕ) (r : Run) → items_next (m + n) input r ≡ items_next m input r ++ items_next n input (run_next m input r)
unfolding items_next run_next
more_items zero n input r = let same : 0 + n ≡ n = omega arith in ap (λ (k : ℕ). items_next k input r) same
more_items (suc m) n input r =
    let next : suc m + n ≡ suc (m + n) = omega arith in
    ap (λ (k : ℕ). items_next k input r) next ∙ by (ended input r) refl (more_items m n input (turn input r))
  where
    by : (b : Bool) → ended input r ≡ b
        → items_next (m + n) input (turn input r) ≡ items_next m input (turn input r) ++ items_next n input (run_next m input (turn input r))
        → cond b [] (item_of r (command_of input r) ∷ items_next (m + n) input (turn input r))
        ≡ cond b [] (item_of r (command_of input r) ∷ items_next m input (turn input r)) ++ items_next n input (cond b r (run_next m input (turn input r)))
    by true e f = sym (itemless n input r (leb-true (length input) r.pos e))
    by false e f = ap (λ (t : List Item). item_of r (command_of input r) ∷ t) f

-- where something is left to read each of them was one
all_items : (m : ℕ) (input : List ℕ) (r : Run) → (run_next m input r).pos < length input → length (items_next m input r) ≡ m
unfolding items_next run_next
all_items zero input r h = refl
all_items (suc m) input r h = by (ended input r) refl (all_items m input (turn input r)) h
  where
    by : (b : Bool) → ended input r ≡ b → ((run_next m input (turn input r)).pos < length input → length (items_next m input (turn input r)) ≡ m)
        → (cond b r (run_next m input (turn input r))).pos < length input
        → length (cond b [] (item_of r (command_of input r) ∷ items_next m input (turn input r))) ≡ suc m
    by true e f h = absurd (omega (arith, h, leb-true (length input) r.pos e))
    by false e f h = ap suc (f h)

one_item : (n : ℕ) (input : List ℕ) (r : Run) → r.pos < length input
    → items_next (suc n) input r ≡ item_of r (command_of input r) ∷ items_next n input (turn input r)
unfolding items_next
one_item n input r h = simp (lt-leb _ _ h)

next_step : (input : List ℕ) (m : ℕ) → (run_next m input (begins input)).pos < length input → NextStep input m
unfolding opened new_ledger
next_step input m h =
    let o = on m input (begins input) h in
    let r : Run = run_next m input (begins input) in
    let version : version_of r.ledger ≡ word_at input 3 = ap (λ (s : Settings). s.version) o.settings in
    let left = length input - (m + 1) in
    let fuel : length input - 0 ≡ m + suc left = omega (arith, o.far, h) in
    record {
      before = items_next m input (begins input);
      later = items_next left input (turn input r);
      many = all_items m input (begins input) h;
      next =
          ap (λ (n : ℕ). items_next n input (begins input)) fuel ∙ more_items m (suc left) input (begins input)
          ∙ ap (λ (t : List Item). items_next m input (begins input) ++ t)
          (one_item left input r h ∙ ap (λ (v : ℕ). item_of r (step_at v input r.pos) ∷ items_next left input (turn input r)) version);
    }

goes_on : (input : List ℕ) (r : Run) → (turn input r).pos ≡ next_at (version_of r.ledger) input r.pos
unfolding turn
goes_on input r = refl

-- ---- kind 7
draw_row : (s : Settings) (u : ℕ) → OfDraw s u (number_of (draw_of s u)) (value_of (draw_of s u))
unfolding failing threshold_of
draw_row s u = by (draw_of s u) (draw_means s u)
  where
    by : (o : Outcome) → Drawn s u o → OfDraw s u (number_of o) (value_of o)
    by o (unlawful n) = inl (n, (refl, refl))
    by o (absent h l) = inr (λ n. n h, inl (l, (refl, refl)))
    by o (chance r h l x) = inr (λ n. n h, inr (λ p. omega (arith, p, l), (refl, x)))

-- ---- the lines
told_on : (before items : List Item) (k : ℕ) (w : World)
    → told k w (before ++ items) ≡ told k w before ++ told (k + length before) (after_all w (events before)) items
told_on [] items k w = let same : k ≡ k + 0 = omega arith in ap (λ (n : ℕ). told n w items) same
told_on (event e ∷ before) items k w =
    let next : k + 1 + length before ≡ k + suc (length before) = omega arith in
    let said = text_of (k + 1) w.ledger (lent w e) (request e.request) in
    ap (λ (t : List ℕ). said ++ t) (told_on before items (k + 1) (after_one_event w e)
    ∙ ap (λ (n : ℕ). told (k + 1) (after_one_event w e) before ++ told n (after_all (after_one_event w e) (events before)) items) next)
    ∙ sym (append_assoc said _ _)
told_on (drawn u ∷ before) items k w =
    let next : k + 1 + length before ≡ k + suc (length before) = omega arith in
    let said = text_of (k + 1) w.ledger [] (draw u) in
    ap (λ (t : List ℕ). said ++ t) (told_on before items (k + 1) w
    ∙ ap (λ (n : ℕ). told (k + 1) w before ++ told n (after_all w (events before)) items) next)
    ∙ sym (append_assoc said _ _)
told_on (unread ∷ before) items k w =
    let next : k + 1 + length before ≡ k + suc (length before) = omega arith in
    let said = text_of (k + 1) w.ledger [] unreadable in
    ap (λ (t : List ℕ). said ++ t) (told_on before items (k + 1) w
    ∙ ap (λ (n : ℕ). told (k + 1) w before ++ told n (after_all w (events before)) items) next)
    ∙ sym (append_assoc said _ _)

module _ (input : List ℕ) (h : Readable input) (before later : List Item) where
  abbrev w : World
  w = after_all (begun input) (events before)

  line_for_lem : (item : Item) (o : Outcome) (lines : List ℕ) → told (length before) w (item ∷ later) ≡ line_for (length before + 1) o ++ lines
      → row_for (begun input) (events before) item (number_of o) (value_of o) → steps input ≡ before ++ (item ∷ later) → PrintedLine input before item
  line_for_lem item o lines e r q = record {
    number = number_of o;
    value = value_of o;
    behind = lines;
    printed =
        let same : 0 + length before ≡ length before = omega arith in
        (run_keeps input ((readable? input).complete h)).text ∙ ap (told 0 (begun input)) q ∙ told_on before (item ∷ later) 0 (begun input)
        ∙ ap (λ (n : ℕ). told 0 (begun input) before ++ told n w (item ∷ later)) same
        ∙ ap (λ (t : List ℕ). told 0 (begun input) before ++ t) e;
    row = r;
  }

  line : (item : Item) → steps input ≡ before ++ (item ∷ later) → PrintedLine input before item
  line (event e) q =
      line_for_lem (event e) (reply_to w e).outcome _ (append_assoc (line_for (length before + 1) (reply_to w e).outcome) _ _)
      (demand1 (get_or input 5 0) (get_or input 6 0) (word_at input 7) (word_at input 3) h.settings (events before) e) q
  line (drawn u) q =
      line_for_lem (drawn u) (draw_of w.ledger.settings u) _ (append_assoc (line_for (length before + 1) (draw_of w.ledger.settings u)) _ _)
      (draw_row w.ledger.settings u) q
  line unread q =
      line_for_lem unread (Err Unreadable) _ (append_assoc (line_for (length before + 1) (Err Unreadable)) _ _) (refl, refl) q

-- ---- the whole
pub run_in_order : RunInOrder
run_in_order = record {
  refusal_1 = refusal_1;
  reads = λ version bytes_of_record sized. reads version bytes_of_record (record_bytes sized);
  starts = λ input. refl;
  goes_on = goes_on;
  next_step = next_step;
  refusal_2 = refusal_2;
  lines = λ input h before later item q. line input h before later item q;
}
