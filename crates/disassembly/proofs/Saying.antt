-- The lines one after another: what is written, with the lines that remain, is the whole; and there is room, since no line has more than twenty
-- characters for each byte of its step.
use mathlib.Core.Bool.{Bool, false, true}
use mathlib.Core.List.{List, [], ◌++◌, ◌∷◌, append_assoc}
use mathlib.Core.Path.{◌∙◌, ◌≡◌, ap, refl, sym}
use Prim.Native.Nat.{◌*◌, ◌+◌, ◌-◌, ◌<◌, ◌≤◌, suc, zero, ℕ}
use native.Mathlib.Omega.{arith}
use lib.ListN.{drop, length, length-append, take}
use lib.Seq.{length-sets, sets}
use borrow.Author.Tests.{le-leb, leb-true, lt-leb}
use Rattle.base.proofs.Reflect.{and_true}
use Rattle.codec.proofs.Numbers.{sets_append}
use Rattle.printing.specs.Member.{item_room}
use Rattle.rows.specs.Table.{letters, row}
use Rattle.rows.specs.Writing.{longest_by, text_by}
use Rattle.runfile.specs.Run.{header_size, longest, opens, version_in}
use Rattle.runfile.specs.Steps.{kind_at, next_at}
use Rattle.digits.proofs.Writing.{then}
use Rattle.digits.specs.Digits.{Put}
use Rattle.reading.specs.Reading.{Read}
use Rattle.reading.specs.declared.Step.{Step}
use Rattle.notation.proofs.Lengths.{at_brief, header_brief}
use Rattle.notation.proofs.Shapes.{Version}
use Rattle.notation.proofs.Views.{known_at, opened_of}
use Rattle.notation.specs.Files.{bytes_at, disassembled, header_line, is_known, lines_from, longest_text, per_byte, sayable, whole_from}
use Rattle.notation.specs.Lines.{line_of, row_of}
use Rattle.disassembly.specs.Printed.{printed, text_room}
use Rattle.row_choice.specs.Rows.{Stands}

pub opens_said : (input : List ℕ) → sayable input ≡ true → opens input ≡ true
unfolding sayable
opens_said input s = (and_true (opens input) _ s).0

whole_said : (input : List ℕ) → sayable input ≡ true → whole_from (length input) (version_in input) input header_size ≡ true
unfolding sayable
whole_said input s = (and_true (opens input) _ s).1

-- ---- the steps that remain
record Ahead (version : ℕ) (input : List ℕ) (pos left : ℕ) : Type 0 where
  later : ℕ
  is : left ≡ suc later
  known : is_known (kind_at version input pos) ≡ true
  whole : whole_from later version input (next_at version input pos) ≡ true

ahead : (version : ℕ) (input : List ℕ) (pos left : ℕ) → pos < length input → whole_from left version input pos ≡ true → Ahead version input pos left
unfolding whole_from
ahead version input pos zero here w = absurd (omega (arith, leb-true (length input) pos w))
ahead version input pos (suc n) here w =
    let a = and_true (is_known (kind_at version input pos)) _ (rw (lt-leb (length input) pos here) at w) in
    record { later = n; is = refl; known = a.0; whole = a.1 }

pub record Saying (version : ℕ) (input before : List ℕ) (start pos end : ℕ) (out : List ℕ) : Type 0 where
  pub left : ℕ
  pub whole : whole_from left version input pos ≡ true
  pub puts : sets out end (lines_from left version input pos) ≡ sets before start (lines_from (length input) version input header_size)
  pub moves : end + length (lines_from left version input pos) ≡ start + length (lines_from (length input) version input header_size)
  pub versioned : Version version
  pub low : header_size ≤ pos
  pub inside : pos ≤ length input
  pub few : length input ≤ longest
  pub room : end ≤ per_byte * pos
  pub size : length out ≡ length before

pub say_begun : (version : ℕ) (input before : List ℕ) (start : ℕ) → version ≡ version_in input → sayable input ≡ true → start ≤ per_byte * header_size
    → Saying version input before start header_size start before
say_begun version input before start e s l =
    let o = opened_of input (opens_said input s) in
    record {
      left = length input;
      whole = rw e (whole_said input s);
      puts = refl;
      moves = refl;
      versioned = rw e o.version;
      low = omega arith;
      inside = o.long;
      few = o.few;
      room = l;
      size = refl;
    }

module _ {version : ℕ} {input before : List ℕ} {start pos end : ℕ} {out : List ℕ} (now : Saying version input before start pos end out) where
  module _ (here : pos < length input) (s : Step) (p : List ℕ) (read : Read version input pos 0 s) (is : p ≡ take (s.end - pos) (drop pos input)) where
    step_is : p ≡ bytes_at version input pos
    step_is = is ∙ ap (λ (k : ℕ). take (k - pos) (drop pos input)) read.end_is

    brief : longest_by (row_of version p) < per_byte * (s.end - pos)
    brief =
        let a = ahead version input pos now.left here now.whole in
        rw (step_is, read.end_is) (at_brief version input pos here (known_at version input pos a.known) now.versioned)

    pub say_room : text_room ≤ length before → end + longest_by (row_of version p) + item_room ≤ length out
    say_room h = omega (arith, h, brief, now.room, now.size, now.few, read.inside, read.onward)

    next_line : (n : ℕ) → lines_from (suc n) version input pos ≡ (line_of version p ++ (10 ∷ [])) ++ lines_from n version input (next_at version input pos)
    unfolding lines_from
    next_line n =
        rw (lt-leb (length input) pos here, step_is)
        (sym (append_assoc (line_of version (bytes_at version input pos)) (10 ∷ []) (lines_from n version input (next_at version input pos))))

    pub say_turn : {out₁ : List ℕ} {r : ℕ} → Put out end (line_of version p ++ (10 ∷ [])) out₁ r → r ≤ end + longest_by (row_of version p) + 1
        → Saying version input before start s.end r out₁
    say_turn {out₁} {r} w l =
        let a = ahead version input pos now.left here now.whole in
        let t = lines_from a.later version input (next_at version input pos) in
        let line = line_of version p ++ (10 ∷ []) in
        let whole : lines_from now.left version input pos ≡ line ++ t =
        ap (λ (n : ℕ). lines_from n version input pos) a.is ∙ next_line a.later in
        record {
          left = a.later;
          whole = rw read.end_is a.whole;
          puts = rw (read.end_is, w.wrote, w.moved) (sym (sets_append line out end t) ∙ ap (sets out end) (sym whole) ∙ now.puts);
          moves = rw read.end_is (omega (arith, w.moved, length-append line t, ap length whole, now.moves));
          versioned = now.versioned;
          low = omega (arith, now.low, read.onward);
          inside = read.inside;
          few = now.few;
          room = omega (arith, l, brief, now.room, read.onward);
          size = rw w.wrote (length-sets out end line ∙ now.size);
        }

  none_left : (n : ℕ) → length input ≤ pos → lines_from n version input pos ≡ []
  unfolding lines_from
  none_left zero h = refl
  none_left (suc n) h = rw (le-leb (length input) pos h)

  pub say_done : length input ≤ pos → Put before start (lines_from (length input) version input header_size) out end
  say_done h =
      let e = none_left now.left h in
      record { moved = omega (arith, ap length e, now.moves); wrote = ap (sets out end) (sym e) ∙ now.puts }

  pub say_end : end ≤ longest_text
  say_end = omega (arith, now.room, now.inside, now.few)

-- ---- the header
module _ (version : ℕ) (input : List ℕ) (e : version ≡ version_in input) (o : opens input ≡ true) where
  pub header_long : 9 ≤ length input
  header_long = (opened_of input o).long

  pub header_some : 1 ≤ version
  header_some = rw e (least (opened_of input o).version)
    where
      least : Version (version_in input) → 1 ≤ version_in input
      least (mathlib.Core.Logic.inl q) = omega arith
      least (mathlib.Core.Logic.inr q) = omega arith

  pub header_few : {b : List ℕ} {n : ℕ} (k : ℕ) → Stands (row k) b n → k ≡ version - 1 → longest_by (row k) < per_byte * header_size
  header_few k d q = rw (q, e) (header_brief (version_in input) (opened_of input o).version (opened_of input o).version)

pub header_is : {o q : List ℕ} {r : ℕ} (version k : ℕ) (input s : List ℕ) → version ≡ version_in input → k ≡ version - 1 → s ≡ take 6 (drop 3 input)
    → Put o 0 (text_by (row k) s ++ (10 ∷ [])) q r → Put o 0 (header_line input ++ (10 ∷ [])) q r
unfolding header_line
header_is version k input s e i j w = rw (i, e, j) at w

-- ---- the whole
module _ (input : List ℕ) (b : Bool) (is : b ≡ sayable input) where
  pub printed_said : {o p q : List ℕ} {e r : ℕ} (version : ℕ) → b ≡ true → version ≡ version_in input → Put o 0 (header_line input ++ (10 ∷ [])) p e
      → Put p e (lines_from (length input) version input header_size) q r → Put o 0 (printed input) q r
  unfolding printed disassembled
  printed_said version t v h w =
      let lines = lines_from (length input) (version_in input) input header_size in
      rw (sym is ∙ t, sym (append_assoc (header_line input) (10 ∷ []) lines)) (then h (rw v at w))

  pub printed_not : {o q : List ℕ} {r : ℕ} → b ≡ false → Put o 0 (letters "# no text can say this file: it has a refusal 1 or 2 in it\n") q r
      → Put o 0 (printed input) q r
  unfolding printed
  printed_not f w = rw (sym is ∙ f) w
