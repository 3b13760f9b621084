-- The text of a run file assembles to the same bytes: line by line, what has been made are the bytes up to the step that comes next.
use mathlib.Core.Bool.{false, true}
use mathlib.Core.List.{List, [], ◌++◌, ◌∷◌}
use mathlib.Core.Logic.{inl, inr}
use mathlib.Core.Path.{◌∙◌, ◌≡◌, ap, refl, subst, sym}
use Prim.Native.Nat.{◌*◌, ◌+◌, ◌-◌, ◌<◌, ◌≤◌, suc, zero, ℕ}
use native.Mathlib.Omega.{arith}
use lib.Dec.{leb, ltb}
use lib.ListN.{get_or, length, length-append, length-take, take}
use lib.Seq.{get_or-take, take_all}
use borrow.Author.Tests.{le-leb, leb-false, leb-true, ne_eqb}
use Rattle.base.proofs.Reflect.{and_true, by_test}
use Rattle.codec.specs.Codec.{AreBytes, le_at}
use Rattle.rows.proofs.RoundTrip.{row_in}
use Rattle.rows.specs.Items.{between, form_of}
use Rattle.rows.specs.Table.{accession, letters, row}
use Rattle.rows.specs.Writing.{ends_next, fits, readable, text_by, widths}
use Rattle.runfile.specs.Run.{longest, opens, version_in}
use Rattle.runfile.specs.Steps.{kind_at, next_at}
use Rattle.notation.specs.Files.{Made, Makes, after_line, assembled, bytes_at, disassembled, finished, header_line, header_read, is_known, is_none, line_over}
use Rattle.notation.specs.Files.{line_read, lines_from, made_from, sayable, skip_blanks, taken, whole_from}
use Rattle.notation.specs.Lines.{begins, closes, first_of, line_of, row_for, word_ends}
use Rattle.notation.proofs.Shapes.{Version}
use Rattle.notation.proofs.Steps.{Reads, Word, each_kind, fixed, shown, word_of}
use Rattle.notation.proofs.Views.{Known, Nine, bytes_are, bytes_bytes, bytes_size, first_three, headed, known_at, nine, nine_of, opened_of}
use Rattle.notation.proofs.Views.{opens_same, taken_to}

abbrev making : ℕ → List ℕ → Made
making line bytes = record { reason = 0; line = line; bytes = bytes }

full_line : (a t : List ℕ) → is_none (a ++ (10 ∷ t)) ≡ false
full_line a t = ne_eqb (length (a ++ (10 ∷ t))) 0 (λ e. omega (arith, length-append a (10 ∷ t)))

-- a line after some bytes, read to a step
one_line : (n line : ℕ) (bytes text s t : List ℕ) → is_none bytes ≡ false → Reads (version_in bytes) text s t → length (bytes ++ s) ≤ longest
    → made_from (suc n) (making line bytes) (text ++ (10 ∷ t)) ≡ made_from n (making (line + 1) (bytes ++ s)) t
unfolding made_from line_read taken skip_blanks line_over closes after_line
one_line n line bytes text s t b r l = rw (full_line text t, r.start, r.stays, b, r.read, le-leb (length (bytes ++ s)) longest l)

-- nothing is left
no_line : (n line : ℕ) (bytes : List ℕ) → made_from n (making line bytes) [] ≡ making line bytes
unfolding made_from
no_line zero line bytes = refl
no_line (suc n) line bytes = refl

-- what is made of a text is these bytes
record Becomes (m : Made) (bytes : List ℕ) : Type 0 where
  fine : m.reason ≡ 0
  same : m.bytes ≡ bytes

version_front : (l : List ℕ) (pos : ℕ) → 9 ≤ pos → pos ≤ length l → version_in (take pos l) ≡ version_in l
version_front l pos h g = let a : 3 < pos = omega arith in let b : 3 + 1 < pos = omega arith in rw (get_or-take pos l 3 0 a, get_or-take pos l (3 + 1) 0 b)

module _ (input : List ℕ) (bytes : AreBytes input) (few : length input ≤ longest) (v : Version (version_in input)) where
  reads_at : (pos : ℕ) (t : List ℕ) → pos < length input → Known (version_in input) input pos
      → let s = bytes_at (version_in input) input pos in Reads (version_in input) (line_of (version_in input) s) s t
  reads_at pos t here k =
      let e = bytes_are (version_in input) input pos here k in
      rw e
      (each_kind (version_in input) v t (get_or input pos 0) k.known _ (rw e at (bytes_bytes (version_in input) input pos here k bytes))
      (rw e at (bytes_size (version_in input) input pos here k)))

  one_step : (pos f line : ℕ) (t : List ℕ) → 9 ≤ pos → pos < length input → Known (version_in input) input pos
      → made_from (suc f) (making line (take pos input)) (line_of (version_in input) (bytes_at (version_in input) input pos) ++ (10 ∷ t))
      ≡ made_from f (making (line + 1) (take (next_at (version_in input) input pos) input)) t
  one_step pos f line t low here k =
      let s = bytes_at (version_in input) input pos in
      let front = version_front input pos low (omega arith) in
      let sum = taken_to (version_in input) input pos here k in
      let n : length (take pos input) ≡ pos = rw length-take (omega arith) in
      one_line f line (take pos input) (line_of (version_in input) s) s t (ne_eqb (length (take pos input)) 0 (λ e. omega arith))
      (rw front (reads_at pos t here k)) (rw (sum, length-take) (omega arith))
      ∙ ap (λ (x : List ℕ). made_from f (making (line + 1) x) t) sum

  lines_in : (n pos f line : ℕ) → 9 ≤ pos → pos ≤ length input → whole_from n (version_in input) input pos ≡ true
      → length (lines_from n (version_in input) input pos) ≤ f
      → Becomes (made_from f (making line (take pos input)) (lines_from n (version_in input) input pos)) input
  unfolding whole_from lines_from
  lines_in zero pos f line low high w l =
      rw (no_line f line (take pos input)) (record { fine = refl; same = take_all pos input (leb-true (length input) pos w) })
  lines_in (suc n) pos f line low high w l =
      by_test (leb (length input) pos)
      (λ e. rw (e, no_line f line (take pos input)) (record { fine = refl; same = take_all pos input (leb-true (length input) pos e) }))
      (λ e.
      let here : pos < length input = leb-false (length input) pos e in
      let a = and_true (is_known (kind_at (version_in input) input pos)) _ (rw e at w) in
      let k = known_at (version_in input) input pos a.0 in
      let t = lines_from n (version_in input) input (next_at (version_in input) input pos) in
      let m = rw e at l in
      let long = length-append (line_of (version_in input) (bytes_at (version_in input) input pos)) (10 ∷ t) in
      let g : f ≡ suc (f - 1) = omega arith in
      rw (e, g, one_step pos (f - 1) line t low here k)
      (lines_in n (next_at (version_in input) input pos) (f - 1) (line + 1) (omega (arith, k.next)) (omega (arith, k.next, k.inside)) a.1 (omega arith)))

-- ---- the header's line
module _ (f g h i : ℕ) (t : List ℕ) where
  -- the bytes behind `VLT`
  abbrev behind : ℕ → List ℕ
  behind d = d ∷ 0 ∷ f ∷ g ∷ h ∷ i ∷ []

  abbrev front : ℕ → List ℕ
  front d = 86 ∷ 76 ∷ 84 ∷ behind d

  first_word : Word 0 (text_by (row 0) (behind 1) ++ (10 ∷ t))
  unfolding row row_for first_of begins word_ends shown fixed form_of skip_blanks line_over closes
  first_word = word_of 0 (letters "\u{1}\0vaults ") (letters "# tolerate # faulty @") (behind 1) t refl (record { row_is = refl; start = refl; stays = refl })

  second_word : Word 1 (text_by (row 1) (behind 2) ++ (10 ∷ t))
  unfolding row row_for first_of begins word_ends shown fixed form_of skip_blanks line_over closes
  second_word =
      word_of 1 (letters "\u{2}\0version ") (letters "2 vaults # tolerate # faulty @") (behind 2) t refl (record { row_is = refl; start = refl; stays = refl })

  row_header : (k d : ℕ) → Word k (text_by (row k) (behind d) ++ (10 ∷ t)) → ltb k accession ≡ true → AreBytes (behind d) → 6 ≡ widths (row k)
      → fits (row k) (behind d) ≡ true → readable (row k) ≡ true → opens (front d) ≡ true
      → header_read (text_by (row k) (behind d) ++ (10 ∷ t)) ≡ record { reason = 0; bytes = front d; rest = 10 ∷ t }
  unfolding header_read between
  row_header k d w a b n fit r o = rw (w.row_is, a, row_in (row k) (behind d) (10 ∷ t) b n fit r refl, o)

  header_line_lem : (n k d : ℕ) → Word k (text_by (row k) (behind d) ++ (10 ∷ t))
      → header_read (text_by (row k) (behind d) ++ (10 ∷ t)) ≡ record { reason = 0; bytes = front d; rest = 10 ∷ t }
      → made_from (suc n) (making 1 []) (text_by (row k) (behind d) ++ (10 ∷ t)) ≡ made_from n (making 2 (front d)) t
  unfolding made_from line_read taken skip_blanks line_over closes after_line
  header_line_lem n k d w h = rw (full_line (text_by (row k) (behind d)) t, w.start, w.stays, h)

  header_in : (n d : ℕ) → Version d → AreBytes (behind d) → opens (front d) ≡ true
      → made_from (suc n) (making 1 []) (text_by (row (d - 1)) (behind d) ++ (10 ∷ t)) ≡ made_from n (making 2 (front d)) t
  unfolding row widths fits form_of le_at readable ends_next between
  header_in n d (inl e) b o =
      let b₁ = subst (λ (x : ℕ). AreBytes (behind x)) e b in
      let o₁ = rw e at o in
      rw e (header_line_lem n 0 1 first_word (row_header 0 1 first_word refl b₁ refl refl refl o₁))
  header_in n d (inr e) b o =
      let b₂ = subst (λ (x : ℕ). AreBytes (behind x)) e b in
      let o₂ = rw e at o in
      rw e (header_line_lem n 1 2 second_word (row_header 1 2 second_word refl b₂ refl refl refl o₂))

-- ---- the whole file
abbrev Again : List ℕ → Type 0
Again input =
    AreBytes input
    → opens input ≡ true
    → whole_from (length input) (version_in input) input 9 ≡ true
    → Becomes (made_from (length (disassembled input)) (making 1 []) (disassembled input)) input

low_version : (d e : ℕ) → Version (d + 256 * e) → d < 256 → e ≡ 0
low_version d e (inl q) l = omega arith
low_version d e (inr q) l = omega arith

alone : (d : ℕ) → Version (d + 256 * 0) → Version d
alone d (inl q) = inl (omega arith)
alone d (inr q) = inr (omega arith)

plain_again : (d f g h i : ℕ) (rest : List ℕ) → Again (headed 86 76 84 d 0 f g h i rest)
unfolding disassembled header_line
plain_again d f g h i rest bytes o w =
    let input = headed 86 76 84 d 0 f g h i rest in
    let op = opened_of input o in
    let r : version_in input - 1 ≡ d - 1 = omega arith in
    let line = text_by (row (version_in input - 1)) (behind f g h i [] d) in
    let t = lines_from (length input) (version_in input) input 9 in
    let n : length (line ++ (10 ∷ t)) ≡ suc (length line + length t) = omega (arith, length-append line (10 ∷ t)) in
    let first : made_from (suc (length line + length t)) (making 1 []) (line ++ (10 ∷ t)) ≡ made_from (length line + length t) (making 2 (take 9 input)) t =
    rw r
    (header_in f g h i t (length (text_by (row (d - 1)) (behind f g h i [] d)) + length t) d (alone d op.version) (behind_bytes bytes)
    (opens_same 86 76 84 d 0 f g h i rest [] (omega arith) o)) in
    rw (n, first) (lines_in input bytes op.few op.version (length input) 9 (length line + length t) 2 (omega arith) op.long w (omega arith))
  where
    behind_bytes : AreBytes (headed 86 76 84 d 0 f g h i rest) → AreBytes (behind f g h i [] d)
    behind_bytes b zero = b 3
    behind_bytes b (suc zero) = b 4
    behind_bytes b (suc (suc zero)) = b 5
    behind_bytes b (suc (suc (suc zero))) = b 6
    behind_bytes b (suc (suc (suc (suc zero)))) = b 7
    behind_bytes b (suc (suc (suc (suc (suc zero))))) = b 8
    behind_bytes b (suc (suc (suc (suc (suc (suc k)))))) = omega arith

headed_again : (a b c d e f g h i : ℕ) (rest : List ℕ) → Again (headed a b c d e f g h i rest)
headed_again a b c d e f g h i rest bytes o w =
    let three = first_three a b c d e f g h i rest o in
    let v = (opened_of (headed a b c d e f g h i rest) o).version in
    let at_a : ℕ → Type 0 = λ x. Again (headed x b c d e f g h i rest) in
    let at_b : ℕ → Type 0 = λ x. Again (headed 86 x c d e f g h i rest) in
    let at_c : ℕ → Type 0 = λ x. Again (headed 86 76 x d e f g h i rest) in
    let at_e : ℕ → Type 0 = λ x. Again (headed 86 76 84 d x f g h i rest) in
    subst at_a (sym three.0)
    (subst at_b (sym three.1) (subst at_c (sym three.2) (subst at_e (sym (low_version d e v (bytes 3))) (plain_again d f g h i rest)))) bytes o w

any_again : (input : List ℕ) → Nine input → Again input
any_again _ (nine {a} {b} {c} {d} {e} {f} {g} {h} {i} {rest}) = headed_again a b c d e f g h i rest

done : (m : Made) (input : List ℕ) → 9 ≤ length input → Becomes m input → ((finished m).reason ≡ 0) × ((finished m).bytes ≡ input)
unfolding finished
done m input l b =
    let n : is_none m.bytes ≡ false = rw b.same (ne_eqb (length input) 0 (λ e. omega arith)) in
    rw (b.fine, n) (refl, b.same)

pub file_in : (input : List ℕ) → AreBytes input → sayable input ≡ true → Makes (disassembled input) input
unfolding sayable assembled
file_in input bytes s =
    let a = and_true (opens input) _ s in
    let op = opened_of input a.0 in
    let d = done _ input op.long (any_again input (nine_of input op.long) bytes a.0 a.1) in
    record { fine = d.0; same = d.1 }
