-- What a proposal's line is seen to have is what its row has: only a row's own characters count, since no number and no label has one that does.
use mathlib.Core.Bool.{Bool, ◌&&◌, cond, false, not, true}
use mathlib.Core.List.{List, [], ◌++◌, ◌∷◌, append_assoc}
use mathlib.Core.Logic.{◌⊎◌, ⊎_elim}
use mathlib.Core.Path.{◌∙◌, ◌≡◌, refl}
use Prim.Native.Nat.{◌%◌, ◌*◌, ◌+◌, ◌/◌, ◌<◌, ◌≤◌, suc, zero, ℕ}
use native.Mathlib.Omega.{arith}
use lib.Dec.{eqb, leb, ltb}
use lib.ListN.{drop, length}
use borrow.Author.Tests.{eqb-true, leb-true, ltb-false, ltb-true, ne_eqb}
use Rattle.base.proofs.Reflect.{and_true, by_cases, by_test, reflect_false}
use Rattle.base.proofs.Lists.{reflect_same}
use Rattle.base.proofs.Search.{all_at}
use Rattle.base.specs.Lists.{same_list}
use Rattle.base.specs.Search.{all_below}
use Rattle.codec.specs.Codec.{AreBytes, le_at, record_size, says_trimmed}
use Rattle.rows.proofs.RoundTrip.{row_in}
use Rattle.rows.specs.Items.{Form, between, constant, fits_as, form_of, hexadecimal, is_plain, literal, members, number, plain, text_as, width}
use Rattle.rows.specs.Table.{accession, half, letters, migration, row, shaped, times, trimmed_row}
use Rattle.rows.specs.Writing.{ends_next, fits, longest_by, readable, text_by, widths}
use Rattle.digits.specs.Digits.{decimal, digits}
use Rattle.notation.specs.Files.{per_byte}
use Rattle.notation.specs.Lines.{closes, counted, mark, proposal_read, scan, unseen}
use Rattle.notation.specs.declared.Shape.{Shape}

-- a character that does not count
abbrev still : Shape → Shape
still s = record { inputs = s.inputs; outputs = s.outputs; trimmed = s.trimmed; right = s.right; gap = false }

quiet : (s : Shape) (c : ℕ) (l : List ℕ) → (c ≡ 58 → ⊥) → (c ≡ 116 → ⊥) → (c ≡ 62 → ⊥) → (c ≡ 32 → ⊥) → (c ≡ 10 → ⊥) → (c ≡ 35 → ⊥)
    → scan s (c ∷ l) ≡ scan (still s) l
unfolding scan mark closes
quiet s c l a b d e f g = simp (ne_eqb c 58 a, ne_eqb c 116 b, ne_eqb c 62 d, ne_eqb c 32 e, ne_eqb c 10 f, ne_eqb c 35 g)

quiet_digit : (s : Shape) (d : ℕ) (l : List ℕ) → d < 10 → scan s ((48 + d) ∷ l) ≡ scan (still s) l
quiet_digit s d l h =
    quiet s (48 + d) l (λ e. omega arith) (λ e. omega arith) (λ e. omega arith) (λ e. omega arith) (λ e. omega arith) (λ e. omega arith)

quiet_digits : (k n : ℕ) (s : Shape) (l : List ℕ) → n ≤ k → scan s (digits k n ++ l) ≡ scan (still s) l
unfolding digits
quiet_digits zero n s l h = quiet_digit s n l (omega arith)
quiet_digits (suc k) n s l h =
    by_test (ltb n 10) (λ e. rw e (quiet_digit s n l (ltb-true n 10 e)))
    (λ e.
    let m : 10 ≤ n = ltb-false n 10 e in
    rw (e, append_assoc (digits k (n / 10)) ((48 + n % 10) ∷ []) l)
    (quiet_digits k (n / 10) s ((48 + n % 10) ∷ l) (omega arith) ∙ quiet_digit (still s) (n % 10) l (omega arith)))

quiet_decimal : (n : ℕ) (s : Shape) (l : List ℕ) → scan s (decimal n ++ l) ≡ scan (still s) l
unfolding decimal
quiet_decimal n s l = quiet_digits n n s l (omega arith)

in_range : (low high c : ℕ) → between low high c ≡ true → (low ≤ c) × (c ≤ high)
unfolding between
in_range low high c h =
    let t = and_true (leb low c) (leb c high) h in
    (leb-true low c t.0, leb-true c high t.1)

quiet_plain : (c : ℕ) (s : Shape) (l : List ℕ) → is_plain c ≡ true → scan s (c ∷ l) ≡ scan (still s) l
unfolding is_plain
quiet_plain c s l h =
    by_test (between 65 90 c) (λ e. let r = in_range 65 90 c e in away (omega arith) (λ q. omega arith) (λ q. omega arith) (λ q. omega arith))
    (λ e. let r = in_range 48 57 c (rw e at h) in away (omega arith) (λ q. omega arith) (λ q. omega arith) (λ q. omega arith))
  where
    away : 48 ≤ c → (c ≡ 58 → ⊥) → (c ≡ 116 → ⊥) → (c ≡ 62 → ⊥) → scan s (c ∷ l) ≡ scan (still s) l
    away m a b d = quiet s c l a b d (λ e. omega arith) (λ e. omega arith) (λ e. omega arith)

-- ---- what an item of a row does to what is seen
abbrev mark_as : Form → ℕ → Shape → Shape
mark_as constant i s = s
mark_as (number w) i s = still s
mark_as members i s = s
mark_as hexadecimal i s = s
mark_as plain i s = still s
mark_as literal i s = mark s i

-- the items of a proposal's row
abbrev simple_as : Form → ℕ → Bool
simple_as constant i = true
simple_as (number w) i = true
simple_as members i = false
simple_as hexadecimal i = false
simple_as plain i = true
simple_as literal i = not (closes i)

marks : List ℕ → Shape → Shape
marks [] s = s
marks (i ∷ is) s = marks is (mark_as (form_of i) i s)

simple : List ℕ → Bool
simple [] = true
simple (i ∷ is) = simple_as (form_of i) i && simple is

scan_item : (f : Form) (i v : ℕ) (s : Shape) (l : List ℕ) → fits_as f i v ≡ true → simple_as f i ≡ true
    → scan s (text_as f i v ++ l) ≡ scan (mark_as f i s) l
unfolding scan
scan_item constant i v s l h e = refl
scan_item (number w) i v s l h e = quiet_decimal v s l
scan_item members i v s l h e = cc
scan_item hexadecimal i v s l h e = cc
scan_item plain i v s l h e = quiet_plain v s l h
scan_item literal i v s l h e = simp ((reflect_false (closes i)).sound e)

scan_row : (is t : List ℕ) (s : Shape) (l : List ℕ) → fits is t ≡ true → simple is ≡ true → scan s (text_by is t ++ l) ≡ scan (marks is s) l
unfolding text_by fits marks simple
scan_row [] t s l h e = refl
scan_row (i ∷ is) t s l h e =
    let f = form_of i in
    let w = width f in
    let hh = and_true (fits_as f i (le_at t 0 w)) (fits is (drop w t)) h in
    let ee = and_true (simple_as f i) (simple is) e in
    rw (append_assoc (text_as f i (le_at t 0 w)) (text_by is (drop w t)) l)
    (scan_item f i (le_at t 0 w) s (text_by is (drop w t) ++ l) hh.0 ee.0 ∙ scan_row is (drop w t) (mark_as f i s) l hh.1 ee.1)

at_end : (s : Shape) (t : List ℕ) → scan s (10 ∷ t) ≡ s
unfolding scan closes
at_end s t = refl

-- ---- the rows of proposals, each of them looked at
-- what is seen of such a row
abbrev seen : ℕ → ℕ → ℕ → ℕ → ℕ → Shape
seen version k inputs outputs trimmed = marks (shaped version k inputs outputs trimmed) (unseen k)

-- it is read again by the same row
pub is_good : ℕ → ℕ → ℕ → ℕ → ℕ → Bool
is_good version k inputs outputs trimmed =
    let r = shaped version k inputs outputs trimmed in
    let s = seen version k inputs outputs trimmed in
    simple r && (readable r && ((leb s.inputs 4 && leb s.outputs 4) && same_list (shaped version k s.inputs s.outputs s.trimmed) r))

-- a migration has up to four entries on either side
all_good : ℕ → ℕ → Bool
all_good version trimmed =
    all_below 5 (λ o. is_good version accession 0 o trimmed) && all_below 5 (λ i. all_below 5 (λ o. is_good version migration i o trimmed))

-- and any proposal's row has the bytes of a step, and not too many characters for them
is_sized : ℕ → ℕ → ℕ → ℕ → ℕ → Bool
is_sized version trimmed m i o =
    let r = shaped version (accession + m) i o trimmed in
    eqb (widths r) (record_size version + 1) && ltb (longest_by r) (per_byte * (record_size version + 1))

all_sized : ℕ → ℕ → Bool
all_sized version trimmed = all_below 2 (λ m. all_below 5 (λ i. all_below 5 (λ o. is_sized version trimmed m i o)))

checked : (all_below 2 (all_good 1) && all_below 2 (all_good 2)) ≡ true
unfolding all_good is_good all_below same_list shaped half times trimmed_row row says_trimmed simple readable ends_next marks form_of unseen mark counted closes
    between
checked = refl

measured : (all_below 2 (all_sized 1) && all_below 2 (all_sized 2)) ≡ true
unfolding all_sized is_sized all_below shaped half times trimmed_row row says_trimmed record_size widths longest_by form_of
measured = refl

-- only whether any frames are trimmed counts
abbrev pub said : ℕ → ℕ
said trimmed = cond (eqb trimmed 0) 0 1

shaped_said : (version k i o trimmed : ℕ) → shaped version k i o trimmed ≡ shaped version k i o (said trimmed)
unfolding shaped trimmed_row
shaped_said version k i o trimmed =
    by_cases (λ t. shape t ≡ shape (eqb (cond t 0 1) 0)) (eqb trimmed 0) (λ _. refl) (λ _. refl)
  where
    shape : Bool → List ℕ
    shape t =
        row k
        ++ (i ∷ o ∷ half i)
        ++ (cond (eqb k accession) [] (letters " ->") ++ (half o ++ cond (says_trimmed version) (cond t (times 4 (0 ∷ [])) (letters " trimmed $")) []))

said_lt : (trimmed : ℕ) → said trimmed < 2
said_lt trimmed = by_cases (λ t. cond t 0 1 < 2) (eqb trimmed 0) (λ _. omega arith) (λ _. omega arith)

-- the versions that there are
abbrev pub Version : ℕ → Type 0
Version version = (version ≡ 1) ⊎ (version ≡ 2)

in_table : (f : ℕ → ℕ → Bool) → (all_below 2 (f 1) && all_below 2 (f 2)) ≡ true → (version t : ℕ) → Version version → t < 2 → f version t ≡ true
in_table f h version t v l =
    let hh = and_true (all_below 2 (f 1)) (all_below 2 (f 2)) h in
    ⊎_elim (λ e. rw e (all_at (f 1) 2 hh.0 t l)) (λ e. rw e (all_at (f 2) 2 hh.1 t l)) v

module _ (version trimmed : ℕ) (v : Version version) where
  pub good_accession : (o : ℕ) → o ≤ 4 → is_good version accession 0 o (said trimmed) ≡ true
  unfolding all_good
  good_accession o l =
      all_at (λ o. is_good version accession 0 o (said trimmed)) 5 (and_true _ _ (in_table all_good checked version (said trimmed) v (said_lt trimmed))).0 o
      (omega arith)

  pub good_migration : (i o : ℕ) → i ≤ 4 → o ≤ 4 → is_good version migration i o (said trimmed) ≡ true
  unfolding all_good
  good_migration i o m l =
      all_at (λ o. is_good version migration i o (said trimmed)) 5
      (all_at (λ i. all_below 5 (λ o. is_good version migration i o (said trimmed))) 5
      (and_true (all_below 5 (λ o. is_good version accession 0 o (said trimmed))) _ (in_table all_good checked version (said trimmed) v (said_lt trimmed))).1
      i (omega arith))
      o (omega arith)

  -- ---- so a proposal's line is read by the row that wrote it
  module _ (k i o : ℕ) (s t : List ℕ) (g : is_good version k i o (said trimmed) ≡ true) (f : fits (shaped version k i o trimmed) s ≡ true)
      (b : AreBytes s) (n : length s ≡ widths (shaped version k i o trimmed)) where
    pub proposal_in : let l = text_by (shaped version k i o trimmed) s ++ (10 ∷ t) in
        proposal_read version k (scan (unseen k) l) l ≡ record { reason = 0; bytes = s; rest = 10 ∷ t }
    unfolding proposal_read is_good between
    proposal_in =
        let u = said trimmed in
        let e = shaped_said version k i o trimmed in
        let r = shaped version k i o u in
        let x = seen version k i o u in
        let a = and_true (simple r) _ g in
        let c = and_true (readable r) _ a.1 in
        let d = and_true (leb x.inputs 4 && leb x.outputs 4) _ c.1 in
        let same : shaped version k x.inputs x.outputs x.trimmed ≡ r = (reflect_same _ r).sound d.1 in
        let fr : fits r s ≡ true = rw e at f in
        let nr : length s ≡ widths r = rw e at n in
        let look : scan (unseen k) (text_by r s ++ (10 ∷ t)) ≡ x = scan_row r s (unseen k) (10 ∷ t) fr a.0 ∙ at_end x t in
        rw (e, look, d.0, same) (row_in r s (10 ∷ t) b nr fr c.0 refl)

  module _ (m i o : ℕ) (h : m < 2) (p : i ≤ 4) (q : o ≤ 4) where
    sized : is_sized version (said trimmed) m i o ≡ true
    unfolding all_sized
    sized =
        let r = is_sized version (said trimmed) in
        all_at (r m i) 5
        (all_at (λ i. all_below 5 (r m i)) 5
        (all_at (λ m. all_below 5 (λ i. all_below 5 (r m i))) 2 (in_table all_sized measured version (said trimmed) v (said_lt trimmed)) m h) i (omega arith))
        o (omega arith)

    -- a record's bytes, and the step's kind
    pub wide : widths (shaped version (accession + m) i o trimmed) ≡ record_size version + 1
    unfolding is_sized
    wide = rw (shaped_said version (accession + m) i o trimmed) (eqb-true _ _ (and_true _ _ sized).0)

    pub brief : longest_by (shaped version (accession + m) i o trimmed) < per_byte * (record_size version + 1)
    unfolding is_sized
    brief =
        let r = shaped version (accession + m) i o (said trimmed) in
        rw (shaped_said version (accession + m) i o trimmed) (ltb-true _ _ (and_true (eqb (widths r) (record_size version + 1)) _ sized).1)
