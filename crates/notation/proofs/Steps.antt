-- A step's line is read as the step. Each kind's row is looked at: its word is no other row's, and it has the bytes of the kind's body.
use mathlib.Core.Bool.{Bool, ◌&&◌, cond, false, true, true≢false}
use mathlib.Core.List.{List, [], ◌++◌, ◌∷◌, append_assoc}
use mathlib.Core.Logic.{inl, inr}
use mathlib.Core.Path.{◌∙◌, ◌≡◌, ap, refl, sym}
use Prim.Native.Nat.{◌+◌, ◌≤◌, suc, ℕ}
use native.Mathlib.Omega.{arith}
use lib.Dec.{eqb, leb, ltb}
use lib.ListN.{drop, get_or, length}
use lib.Seq.{drop-drop}
use borrow.Author.Tests.{eqb-true, leb-true}
use Rattle.base.proofs.Reflect.{and_true, by_cases, by_test}
use Rattle.codec.specs.Codec.{AreBytes, le_at, record_size, says_trimmed}
use Rattle.rows.proofs.RoundTrip.{row_in}
use Rattle.rows.specs.Items.{Form, between, constant, form_of, hexadecimal, literal, members, number, plain, text_as, width}
use Rattle.rows.specs.Reading.{Parsed}
use Rattle.rows.specs.Table.{accession, letters, migration, raw, raw_row, row, rows, shaped, times}
use Rattle.rows.specs.Writing.{ends_next, fits, readable, text_by, widths}
use Rattle.runfile.specs.Steps.{body_size, kind_of}
use Rattle.notation.specs.Files.{is_known, line_over, skip_blanks}
use Rattle.notation.specs.Lines.{begins, closes, first_of, has_shape, line_of, proposal_read, proposal_row, row_for, row_of, scan, shaped_for, step_read, unseen}
use Rattle.notation.specs.Lines.{word_ends}
use Rattle.notation.proofs.Shapes.{Version, good_accession, good_migration, proposal_in, wide}

-- what is true of each kind is true of all that are known
pub by_kind : (P : ℕ → Type 0) → P 1 → P 2 → P 3 → P 4 → P 5 → P 6 → P 7 → P 8 → P 9 → P 10 → P 11 → P 12 → P 13 → (b : ℕ)
    → is_known (kind_of b) ≡ true → P b
unfolding kind_of
by_kind P p1 p2 p3 p4 p5 p6 p7 p8 p9 p10 p11 p12 p13 b h =
    is 1 p1 (λ e1. is 2 p2 (λ e2. is 3 p3 (λ e3. is 4 p4 (λ e4. is 5 p5 (λ e5. is 6 p6 (λ e6. is 7 p7 (λ e7. is 8 p8 (λ e8. is 9 p9 (λ e9. is 10 p10
    (λ e10. is 11 p11 (λ e11. is 12 p12 (λ e12. is 13 p13 (λ e13.
    absurd (true≢false (sym h ∙ simp (e1, e2, e3, e4, e5, e6, e7, e8, e9, e10, e11, e12, e13))))))))))))))))
  where
    is : (k : ℕ) → P k → (eqb b k ≡ false → P b) → P b
    is k p f = by_test (eqb b k) (λ e. rw (eqb-true b k e) p) f

abbrev whole : List ℕ → List ℕ → Parsed
whole s t = record { reason = 0; bytes = s; rest = 10 ∷ t }

-- a line, whatever follows it
pub record Reads (version : ℕ) (line s t : List ℕ) : Type 0 where
  pub start : skip_blanks (line ++ (10 ∷ t)) ≡ line ++ (10 ∷ t)
  pub stays : line_over (line ++ (10 ∷ t)) ≡ false
  pub read : step_read version (line ++ (10 ∷ t)) ≡ whole s t

-- ---- a line begins with its row's word
abbrev shown_as : Form → ℕ → List ℕ
shown_as constant i = []
shown_as (number w) i = []
shown_as members i = []
shown_as hexadecimal i = []
shown_as plain i = []
shown_as literal i = i ∷ []

abbrev fixed_as : Form → Bool
fixed_as constant = true
fixed_as (number w) = false
fixed_as members = false
fixed_as hexadecimal = false
fixed_as plain = false
fixed_as literal = true

unfoldable pub shown : List ℕ → List ℕ
shown [] = []
shown (i ∷ is) = shown_as (form_of i) i ++ shown is

unfoldable pub fixed : List ℕ → Bool
fixed [] = true
fixed (i ∷ is) = fixed_as (form_of i) && fixed is

shows : (f : Form) (i v : ℕ) → fixed_as f ≡ true → text_as f i v ≡ shown_as f i
shows constant i v h = refl
shows (number w) i v h = cc
shows members i v h = cc
shows hexadecimal i v h = cc
shows plain i v h = cc
shows literal i v h = refl

word_first : (p is s : List ℕ) → fixed p ≡ true → text_by (p ++ is) s ≡ shown p ++ text_by is (drop (widths p) s)
unfolding text_by shown fixed widths
word_first [] is s h = refl
word_first (i ∷ p) is s h =
    let f = form_of i in
    let hh = and_true (fixed_as f) (fixed p) h in
    rw (shows f i (le_at s 0 (width f)) hh.0, word_first p is (drop (width f) s) hh.1, drop-drop (widths p) (width f) s)
    (sym (append_assoc (shown_as f i) (shown p) (text_by is (drop (width f + widths p) s))))

-- what is found out from the word alone
pub record Word (k : ℕ) (l : List ℕ) : Type 0 where
  pub row_is : row_for l ≡ k
  pub start : skip_blanks l ≡ l
  pub stays : line_over l ≡ false

pub word_of : (k : ℕ) (p is s t : List ℕ) → fixed p ≡ true → Word k (shown p ++ (text_by is (drop (widths p) s) ++ (10 ∷ t)))
    → Word k (text_by (p ++ is) s ++ (10 ∷ t))
word_of k p is s t h w =
    rw (word_first p is s h, append_assoc (shown p) (text_by is (drop (widths p) s)) (10 ∷ t)) w

module _ (version : ℕ) (v : Version version) (t : List ℕ) where
  -- ---- a proposal
  raw_row_lem : Version version → (widths (raw_row version) ≡ suc (record_size version)) × (readable (raw_row version) ≡ true)
  unfolding raw_row row times record_size says_trimmed widths form_of readable ends_next
  raw_row_lem (inl e) = rw e (refl, refl)
  raw_row_lem (inr e) = rw e (refl, refl)

  raw_fits : (body : List ℕ) → Version version → fits (raw_row version) (1 ∷ body) ≡ true
  unfolding raw_row row times record_size says_trimmed fits form_of le_at
  raw_fits body (inl e) = rw e
  raw_fits body (inr e) = rw e

  raw_word : (s : List ℕ) → Word raw (text_by (raw_row version) s ++ (10 ∷ t))
  unfolding raw_row row row_for first_of begins word_ends shown fixed form_of skip_blanks line_over closes
  raw_word s = word_of raw (letters "\u{1}record ") (times (record_size version) (letters "%")) s t refl (record { row_is = refl; start = refl; stays = refl })

  raw_read : (body : List ℕ) → AreBytes (1 ∷ body) → length (1 ∷ body) ≡ suc (record_size version)
      → Reads version (text_by (raw_row version) (1 ∷ body)) (1 ∷ body) t
  unfolding step_read between
  raw_read body bs n =
      let w = raw_word (1 ∷ body) in
      let r = raw_row_lem v in
      record {
        start = w.start;
        stays = w.stays;
        read = rw w.row_is (row_in (raw_row version) (1 ∷ body) (10 ∷ t) bs (n ∙ sym r.0) (raw_fits body v) r.1 refl);
      }

  -- by its shape
  accession_word : (o trimmed : ℕ) (s : List ℕ) → Word 2 (text_by (shaped version 2 0 o trimmed) s ++ (10 ∷ t))
  unfolding shaped row row_for first_of begins word_ends shown fixed form_of skip_blanks line_over closes
  accession_word o trimmed s = word_of 2 (letters "\u{1}\0accession ") _ s t refl (record { row_is = refl; start = refl; stays = refl })

  migration_word : (i o trimmed : ℕ) (s : List ℕ) → Word 3 (text_by (shaped version 3 i o trimmed) s ++ (10 ∷ t))
  unfolding shaped row row_for first_of begins word_ends shown fixed form_of skip_blanks line_over closes
  migration_word i o trimmed s = word_of 3 (letters "\u{1}\u{1}migration ") _ s t refl (record { row_is = refl; start = refl; stays = refl })

  shape_read : (k : ℕ) (line s : List ℕ) → leb rows k ≡ false → ltb k accession ≡ false → leb k migration ≡ true → Word k (line ++ (10 ∷ t))
      → proposal_read version k (scan (unseen k) (line ++ (10 ∷ t))) (line ++ (10 ∷ t)) ≡ whole s t → Reads version line s t
  unfolding step_read
  shape_read k line s a b c w h = record { start = w.start; stays = w.stays; read = rw (w.row_is, a, b, c) h }

  accession_read : (o trimmed : ℕ) (s : List ℕ) → o ≤ 4 → AreBytes s → length s ≡ suc (record_size version)
      → fits (shaped version 2 0 o trimmed) s ≡ true → Reads version (text_by (shaped version 2 0 o trimmed) s) s t
  accession_read o trimmed s l bs n f =
      shape_read 2 _ s refl refl refl (accession_word o trimmed s)
      (proposal_in version trimmed v 2 0 o s t (good_accession version trimmed v o l) f bs
      (n ∙ omega (arith, wide version trimmed v 0 0 o (omega arith) (omega arith) l)))

  migration_read : (i o trimmed : ℕ) (s : List ℕ) → i ≤ 4 → o ≤ 4 → AreBytes s → length s ≡ suc (record_size version)
      → fits (shaped version 3 i o trimmed) s ≡ true → Reads version (text_by (shaped version 3 i o trimmed) s) s t
  migration_read i o trimmed s h l bs n f =
      shape_read 3 _ s refl refl refl (migration_word i o trimmed s)
      (proposal_in version trimmed v 3 i o s t (good_migration version trimmed v i o h l) f bs
      (n ∙ omega (arith, wide version trimmed v 1 i o (omega arith) h l)))

  shaped_read : (s : List ℕ) → has_shape s ≡ true → AreBytes s → length s ≡ suc (record_size version) → fits (shaped_for version s) s ≡ true
      → Reads version (text_by (shaped_for version s) s) s t
  unfolding has_shape shaped_for
  shaped_read s h bs n f =
      let m = get_or s 1 0 in
      let i = get_or s 3 0 in
      let o = get_or s 4 0 in
      let u = le_at s 101 4 in
      let a = and_true (cond (eqb m 0) (eqb i 0) (eqb m 1 && leb i 4)) (leb o 4) h in
      let l = leb-true o 4 a.1 in
      by_test (eqb m 0)
      (λ e.
      let same : shaped version (accession + m) i o u ≡ shaped version 2 0 o u =
      ap (λ (x : ℕ). shaped version (accession + x) i o u) (eqb-true m 0 e)
      ∙ ap (λ (x : ℕ). shaped version 2 x o u) (eqb-true i 0 (rw e at a.0)) in
      rw same (accession_read o u s l bs n (rw same at f)))
      (λ e.
      let c = and_true (eqb m 1) (leb i 4) (rw e at a.0) in
      let same : shaped version (accession + m) i o u ≡ shaped version 3 i o u =
      ap (λ (x : ℕ). shaped version (accession + x) i o u) (eqb-true m 1 c.0) in
      rw same (migration_read i o u s (leb-true i 4 c.1) l bs n (rw same at f)))

  proposal_read_lem : (body : List ℕ) → AreBytes (1 ∷ body) → length (1 ∷ body) ≡ suc (record_size version)
      → Reads version (line_of version (1 ∷ body)) (1 ∷ body) t
  unfolding line_of row_of proposal_row
  proposal_read_lem body bs n =
      let s : List ℕ = 1 ∷ body in
      by_cases (λ x. Reads version (text_by (cond x (shaped_for version s) (raw_row version)) s) s t) (has_shape s && fits (shaped_for version s) s)
      (λ e. let a = and_true (has_shape s) (fits (shaped_for version s) s) e in shaped_read s a.0 bs n a.1)
      (λ e. raw_read body bs n)

  -- ---- a kind with a row of its own
  row_read : (k : ℕ) (s : List ℕ) → leb rows k ≡ false → ltb k accession ≡ false → leb k migration ≡ false → eqb k raw ≡ false
      → fits (row k) s ≡ true → readable (row k) ≡ true → AreBytes s → length s ≡ widths (row k) → Word k (text_by (row k) s ++ (10 ∷ t))
      → Reads version (text_by (row k) s) s t
  unfolding step_read between
  row_read k s a b c d f r bs n w =
      record { start = w.start; stays = w.stays; read = rw (w.row_is, a, b, c, d) (row_in (row k) s (10 ∷ t) bs n f r refl) }

  abbrev OfKind : ℕ → Type 0
  OfKind b =
      (body : List ℕ)
      → AreBytes (b ∷ body)
      → length (b ∷ body) ≡ suc (body_size version (kind_of b))
      → Reads version (line_of version (b ∷ body)) (b ∷ body) t

  pub each_kind : (b : ℕ) → is_known (kind_of b) ≡ true → OfKind b
  unfolding kind_of line_of row_of row row_for first_of begins word_ends shown fixed text_by form_of skip_blanks line_over closes widths fits le_at readable ends_next
      between
  each_kind =
      by_kind OfKind proposal_read_lem
      (λ body bs n. row_read 5 (2 ∷ body) refl refl refl refl refl refl bs n
      (word_of 5 (letters "\u{2}preflight ") (letters "vault # job #") (2 ∷ body) t refl (record { row_is = refl; start = refl; stays = refl })))
      (λ body bs n. row_read 6 (3 ∷ body) refl refl refl refl refl refl bs n
      (word_of 6 (letters "\u{3}commit ") (letters "vault # job # signers @") (3 ∷ body) t refl (record { row_is = refl; start = refl; stays = refl })))
      (λ body bs n. row_read 7 (4 ∷ body) refl refl refl refl refl refl bs n
      (word_of 7 (letters "\u{4}faulty-signature ") (letters "vault # job #") (4 ∷ body) t refl (record { row_is = refl; start = refl; stays = refl })))
      (λ body bs n. row_read 8 (5 ∷ body) refl refl refl refl refl refl bs n
      (word_of 8 (letters "\u{5}faulty-acknowledgement ") (letters "vault # job #") (5 ∷ body) t refl (record { row_is = refl; start = refl; stays = refl })))
      (λ body bs n. row_read 9 (6 ∷ body) refl refl refl refl refl refl bs n
      (word_of 9 (letters "\u{6}show ") (letters "job #") (6 ∷ body) t refl (record { row_is = refl; start = refl; stays = refl })))
      (λ body bs n. row_read 10 (7 ∷ body) refl refl refl refl refl refl bs n
      (word_of 10 (letters "\u{7}draw ") (letters "#") (7 ∷ body) t refl (record { row_is = refl; start = refl; stays = refl })))
      (λ body bs n. row_read 11 (8 ∷ body) refl refl refl refl refl refl bs n
      (word_of 11 (letters "\u{8}generations ") (letters "job #") (8 ∷ body) t refl (record { row_is = refl; start = refl; stays = refl })))
      (λ body bs n. row_read 12 (9 ∷ body) refl refl refl refl refl refl bs n
      (word_of 12 (letters "\tsnapshot") [] (9 ∷ body) t refl (record { row_is = refl; start = refl; stays = refl })))
      (λ body bs n. row_read 13 (10 ∷ body) refl refl refl refl refl refl bs n
      (word_of 13 (letters "\nrelease ") (letters "vault # job # rival #") (10 ∷ body) t refl (record { row_is = refl; start = refl; stays = refl })))
      (λ body bs n. row_read 14 (11 ∷ body) refl refl refl refl refl refl bs n
      (word_of 14 (letters "\u{b}dependencies ") (letters "vault # job #") (11 ∷ body) t refl (record { row_is = refl; start = refl; stays = refl })))
      (λ body bs n. row_read 15 (12 ∷ body) refl refl refl refl refl refl bs n
      (word_of 15 (letters "\u{c}client-preflight ") (letters "vault # job # client #") (12 ∷ body) t refl
      (record { row_is = refl; start = refl; stays = refl })))
      (λ body bs n. row_read 16 (13 ∷ body) refl refl refl refl refl refl bs n
      (word_of 16 (letters "\requivocating") [] (13 ∷ body) t refl (record { row_is = refl; start = refl; stays = refl })))
