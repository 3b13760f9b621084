-- The header's line.
use mathlib.Core.Bool.{Bool, false, true}
use mathlib.Core.List.{List, ◌++◌, append_assoc}
use mathlib.Core.Path.{◌∙◌, ◌≡◌, ap, refl, sym}
use Prim.Native.Nat.{◌+◌, ◌<◌, ◌≤◌, suc, zero, ℕ}
use native.Mathlib.Omega.{arith}
use lib.ListN.{drop, length, length-append, take}
use lib.Seq.{length-take-le, sets-eq, take_at}
use borrow.Author.Tests.{eq-eqb, le-leb, le-ltb, lt-ltb, ne_eqb}
use Rattle.federation.specs.Federation.{is_lawful_up_to, latest}
use Rattle.rows.proofs.Sound.{read_size}
use Rattle.rows.specs.Items.{form_of}
use Rattle.rows.specs.Writing.{widths}
use Rattle.runfile.specs.Run.{is_header, longest, opened, opens, opens_up_to}
use Rattle.digits.proofs.Writing.{then}
use Rattle.rows.specs.Reading.{Parsed as Said, read_by}
use Rattle.rows.specs.Table.{letters, row}
use Rattle.digits.specs.Digits.{Put}
use Rattle.notation.specs.Files.{header_read}
use Rattle.notation.specs.Lines.{row_for, wrong}
use Rattle.parsing.specs.Took.{ReadTo}
use Rattle.parsing.specs.declared.Parsed.{Parsed}
use Rattle.lines.specs.LineTo.{LineTo}

-- bytes put at a place follow those before it
pub put_adds : {o p b : List ℕ} {at r : ℕ} → Put o at b p r → r ≤ length o → (take at p ≡ take at o) × (take r p ≡ take at o ++ b)
put_adds {o} {p} {b} {at} {r} w h =
    let n = length-take-le at o (omega (arith, w.moved)) in
    let rest = drop (at + length b) o in
    let e : p ≡ (take at o ++ b) ++ rest = w.wrote ∙ sets-eq b o at (omega (arith, w.moved)) in
    let m : length (take at o ++ b) ≡ r = length-append (take at o) b ∙ omega (arith, n, w.moved) in
    (ap (take at) (e ∙ append_assoc (take at o) b rest) ∙ take_at (take at o) (b ++ rest) at n, ap (take r) e ∙ take_at (take at o ++ b) rest r m)

-- a line that is read is a line of a file
pub line_read_lem : {said : Said} {text before after : List ℕ} {end : ℕ} {r : Parsed} → ReadTo said text end before after r
    → LineTo said text end before after r
line_read_lem d =
    let a = put_adds d.put d.room in
    record { reason_is = d.reason_is; inside = d.inside; keeps = a.0; rest_is = λ _. d.rest_is; adds = λ _. a.1; ends = λ _. d.put.moved }

-- ---- the header
opens_nine : (s : List ℕ) → length s ≡ 6 → opens (letters "VLT" ++ s) ≡ is_lawful_up_to latest (opened (letters "VLT" ++ s)).settings
unfolding opens_up_to is_header
opens_nine s n = rw (le-leb (length (letters "VLT" ++ s)) longest (omega arith), le-leb 9 (length (letters "VLT" ++ s)) (omega arith))

wide : (k : ℕ) → k < 2 → widths (row k) ≡ 6
unfolding widths row form_of
wide zero h = refl
wide (suc zero) h = refl
wide (suc (suc k)) h = absurd (omega arith)

-- the ways through the header's tests
module _ (l : List ℕ) (k : ℕ) (is : k ≡ row_for l) where
  other_word : 2 ≤ k → header_read l ≡ wrong 11 l
  unfolding header_read
  other_word h = rw (sym is, le-ltb k 2 h)

  wrong_word : k < 2 → ((read_by (row k) l).reason ≡ 0 → ⊥) → header_read l ≡ wrong (read_by (row k) l).reason l
  unfolding header_read
  wrong_word h n = rw (sym is, lt-ltb k 2 h, ne_eqb (read_by (row k) l).reason 0 n)

  module _ (h : k < 2) (z : (read_by (row k) l).reason ≡ 0) where
    size : length (read_by (row k) l).bytes ≡ 6
    size = read_size (row k) l z ∙ wide k h

    judged : (b : Bool) → b ≡ is_lawful_up_to latest (opened (letters "VLT" ++ (read_by (row k) l).bytes)).settings
        → b ≡ opens (letters "VLT" ++ (read_by (row k) l).bytes)
    judged b e = e ∙ sym (opens_nine (read_by (row k) l).bytes size)

    right_word : opens (letters "VLT" ++ (read_by (row k) l).bytes) ≡ true
        → header_read l ≡ record { reason = 0; bytes = letters "VLT" ++ (read_by (row k) l).bytes; rest = (read_by (row k) l).rest }
    unfolding header_read
    right_word o = rw (sym is, lt-ltb k 2 h, eq-eqb (read_by (row k) l).reason 0 z, o)

    unlawful_word : opens (letters "VLT" ++ (read_by (row k) l).bytes) ≡ false → header_read l ≡ wrong 12 l
    unfolding header_read
    unlawful_word o = rw (sym is, lt-ltb k 2 h, eq-eqb (read_by (row k) l).reason 0 z, o)

module _ {text before : List ℕ} (at : ℕ) (within : at ≤ length text) (k : ℕ) (is : k ≡ row_for (drop at text)) where
  no_line : (after : List ℕ) (why : ℕ) (r : Parsed) → header_read (drop at text) ≡ wrong why (drop at text) → (why ≡ 0 → ⊥)
      → r ≡ record { reason = why; next = at; end = 0 } → LineTo (header_read (drop at text)) text 0 before after r
  no_line after why r e n q =
      rw (q, e) (record { reason_is = refl; inside = within; keeps = refl; rest_is = λ z. absurd (n z); adds = λ z. absurd (n z); ends = λ z. absurd (n z) })

  pub no_header : (after : List ℕ) (r : Parsed) → 2 ≤ k → r ≡ record { reason = 11; next = at; end = 0 }
      → LineTo (header_read (drop at text)) text 0 before after r
  no_header after r l q = no_line after 11 r (other_word (drop at text) k is l) (λ z. omega arith) q

  module _ {o after : List ℕ} {end : ℕ} (p : Parsed) (low : k < 2) (put : Put before 0 (letters "VLT") o end)
      (read : ReadTo (read_by (row k) (drop at text)) text end o after p) where
    pub bad_header : (r : Parsed) → (p.reason ≡ 0 → ⊥) → r ≡ record { reason = p.reason; next = at; end = 0 }
        → LineTo (header_read (drop at text)) text 0 before after r
    bad_header r n q =
        no_line after p.reason r
        (wrong_word (drop at text) k is low (λ z. n (read.reason_is ∙ z)) ∙ ap (λ (w : ℕ). wrong w (drop at text)) (sym read.reason_is)) n q

    module _ (z : p.reason ≡ 0) (room : 64 ≤ length before) where
      fine : (read_by (row k) (drop at text)).reason ≡ 0
      fine = sym read.reason_is ∙ z

      both : Put before 0 (letters "VLT" ++ (read_by (row k) (drop at text)).bytes) after p.end
      both = then put read.put

      ended : p.end ≡ 9
      ended = omega (arith, both.moved, size (drop at text) k is low fine)

      pub nine_bytes : take p.end after ≡ letters "VLT" ++ (read_by (row k) (drop at text)).bytes
      nine_bytes = (put_adds both (omega (arith, ended))).1

      decided : (s : List ℕ) (b : Bool) → s ≡ take p.end after → b ≡ is_lawful_up_to latest (opened s).settings
          → b ≡ opens (letters "VLT" ++ (read_by (row k) (drop at text)).bytes)
      decided s b e q = judged (drop at text) k is low fine b (rw (e ∙ nine_bytes) at q)

      pub right_header : (s : List ℕ) (b : Bool) → s ≡ take p.end after → b ≡ is_lawful_up_to latest (opened s).settings → b ≡ true
          → LineTo (header_read (drop at text)) text 0 before after p
      right_header s b e q t =
          rw (right_word (drop at text) k is low fine (sym (decided s b e q) ∙ t))
          (record { reason_is = z; inside = read.inside; keeps = refl; rest_is = λ _. read.rest_is; adds = λ _. nine_bytes; ends = λ _. both.moved })

      pub unlawful_header : (s : List ℕ) (b : Bool) (r : Parsed) → s ≡ take p.end after → b ≡ is_lawful_up_to latest (opened s).settings → b ≡ false
          → r ≡ record { reason = 12; next = at; end = 0 } → LineTo (header_read (drop at text)) text 0 before after r
      unlawful_header s b r e q f m = no_line after 12 r (unlawful_word (drop at text) k is low fine (sym (decided s b e q) ∙ f)) (λ z. omega arith) m
