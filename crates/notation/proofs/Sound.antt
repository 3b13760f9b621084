-- What assembles is a run file that has no refusal 1 or 2 in it: a line gives the bytes of one whole step, and a file of whole steps with one
-- more is a file of whole steps.
use mathlib.Core.Bool.{◌&&◌, false, true, true≢false}
use mathlib.Core.List.{List, [], ◌++◌, ◌∷◌}
use mathlib.Core.Logic.{◌⊎◌, inl, inr, ⊎_elim}
use mathlib.Core.Path.{◌∙◌, ◌≡◌, ap, refl, subst, sym}
use Prim.Native.Nat.{◌+◌, ◌-◌, ◌<◌, ◌≤◌, suc, zero, ℕ}
use native.Mathlib.Omega.{arith}
use lib.Dec.{eqb, leb, ltb}
use lib.ListN.{get_or-append, get_or, length, length-append}
use lib.Seq.{get_or-append-add}
use borrow.Author.Tests.{eq-eqb, eqb-false, eqb-true, le-leb, leb-false, leb-true, lt-ltb, ltb-false, ltb-true, ne_eqb}
use Rattle.base.proofs.Reflect.{and_true, by_test}
use Rattle.codec.specs.Codec.{AreBytes, le_bytes, record_size, says_trimmed}
use Rattle.rows.proofs.Sound.{bytes_append, if_fine, read_bytes, read_size}
use Rattle.rows.specs.Items.{form_of}
use Rattle.rows.specs.Reading.{Parsed, read_by}
use Rattle.rows.specs.Table.{accession, letters, migration, raw, raw_row, row, rows, shaped, times}
use Rattle.rows.specs.Writing.{widths}
use Rattle.runfile.specs.Run.{longest, opens, version_in}
use Rattle.runfile.specs.Steps.{body_size, kind_at, kind_of, next_at}
use Rattle.notation.specs.Files.{Made, after_line, assembled, finished, header_read, is_known, is_none, line_over, line_read, made_from, sayable, skip_blanks}
use Rattle.notation.specs.Files.{taken, whole_from}
use Rattle.notation.specs.Lines.{proposal_read, row_for, step_read}
use Rattle.notation.specs.declared.Shape.{Shape}
use Rattle.notation.proofs.Shapes.{Version, wide}
use Rattle.notation.proofs.Views.{Known, Nine, at_known, headed, known_at, nine, nine_of, opened_of, opens_same}

-- ---- the bytes of one step
pub record Stepped (version : ℕ) (s : List ℕ) : Type 0 where
  pub are : AreBytes s
  pub known : is_known (kind_of (get_or s 0 0)) ≡ true
  pub size : length s ≡ suc (body_size version (kind_of (get_or s 0 0)))

-- a byte that the line doesn't show
first_byte : (c : ℕ) (is l : List ℕ) → c < 32 → get_or (read_by (c ∷ is) l).bytes 0 0 ≡ c
unfolding read_by form_of le_bytes
first_byte c is l h = simp (lt-ltb c 32 h) (omega arith)

by_row : (version c : ℕ) (r is l : List ℕ) → r ≡ c ∷ is → c < 32 → is_known (kind_of c) ≡ true → widths r ≡ suc (body_size version (kind_of c))
    → (read_by r l).reason ≡ 0 → Stepped version (read_by r l).bytes
by_row version c r is l e h k n f =
    let b : get_or (read_by r l).bytes 0 0 ≡ c = rw e (first_byte c is l h) in
    record { are = read_bytes r l; known = rw b k; size = rw b (read_size r l f ∙ n) }

-- the rows of the kinds from 2 on
by_own : (P : ℕ → Type 0) → P 5 → P 6 → P 7 → P 8 → P 9 → P 10 → P 11 → P 12 → P 13 → P 14 → P 15 → P 16 → (k : ℕ) → 4 < k → k < rows → P k
by_own P p5 p6 p7 p8 p9 p10 p11 p12 p13 p14 p15 p16 k h g =
    is 5 h p5 (λ a. is 6 a p6 (λ b. is 7 b p7 (λ c. is 8 c p8 (λ d. is 9 d p9 (λ e. is 10 e p10 (λ f. is 11 f p11 (λ i. is 12 i p12 (λ j. is 13 j p13
    (λ l. is 14 l p14 (λ m. is 15 m p15 (λ o. is 16 o p16 (λ q. absurd (omega arith)))))))))))))
  where
    is : (n : ℕ) → n ≤ k → P n → (suc n ≤ k → P k) → P k
    is n l p f = by_test (eqb k n) (λ e. rw (eqb-true k n e) p) (λ e. f (omega (arith, eqb-false k n e)))

module _ (version : ℕ) (v : Version version) (l : List ℕ) where
  abbrev Fine : Parsed → Type 0
  Fine p = p.reason ≡ 0 → Stepped version p.bytes

  own_fine : (k : ℕ) → 4 < k → k < rows → Fine (read_by (row k) l)
  unfolding row widths form_of kind_of
  own_fine =
      by_own (λ k. Fine (read_by (row k) l)) (by_row version 2 (row 5) _ l refl (omega arith) refl refl)
      (by_row version 3 (row 6) _ l refl (omega arith) refl refl) (by_row version 4 (row 7) _ l refl (omega arith) refl refl)
      (by_row version 5 (row 8) _ l refl (omega arith) refl refl) (by_row version 6 (row 9) _ l refl (omega arith) refl refl)
      (by_row version 7 (row 10) _ l refl (omega arith) refl refl) (by_row version 8 (row 11) _ l refl (omega arith) refl refl)
      (by_row version 9 (row 12) _ l refl (omega arith) refl refl) (by_row version 10 (row 13) _ l refl (omega arith) refl refl)
      (by_row version 11 (row 14) _ l refl (omega arith) refl refl) (by_row version 12 (row 15) _ l refl (omega arith) refl refl)
      (by_row version 13 (row 16) _ l refl (omega arith) refl refl)

  raw_fine : Version version → Fine (read_by (raw_row version) l)
  unfolding raw_row row widths form_of kind_of times record_size says_trimmed
  raw_fine (inl e) = rw e (by_row 1 1 (raw_row 1) _ l refl (omega arith) refl refl)
  raw_fine (inr e) = rw e (by_row 2 1 (raw_row 2) _ l refl (omega arith) refl refl)

  shape_fine : (m i o trimmed : ℕ) → m < 2 → i ≤ 4 → o ≤ 4 → Fine (read_by (shaped version (accession + m) i o trimmed) l)
  unfolding shaped row kind_of
  shape_fine zero i o trimmed h p q =
      by_row version 1 (shaped version 2 i o trimmed) _ l refl (omega arith) refl (omega (arith, wide version trimmed v 0 i o (omega arith) p q))
  shape_fine (suc zero) i o trimmed h p q =
      by_row version 1 (shaped version 3 i o trimmed) _ l refl (omega arith) refl (omega (arith, wide version trimmed v 1 i o (omega arith) p q))
  shape_fine (suc (suc m)) i o trimmed h p q = absurd (omega arith)

  proposal_fine : (k : ℕ) (s : Shape) → 2 ≤ k → k ≤ 3 → Fine (proposal_read version k s l)
  unfolding proposal_read
  proposal_fine k s low high =
      let e : k ≡ accession + (k - 2) = omega arith in
      if_fine Fine (leb s.inputs 4 && leb s.outputs 4) _ _
      (λ t.
      let a = and_true (leb s.inputs 4) (leb s.outputs 4) t in
      rw e (shape_fine (k - 2) s.inputs s.outputs s.trimmed (omega arith) (leb-true _ 4 a.0) (leb-true _ 4 a.1)))
      (λ t r. absurd (omega arith))

  pub step_fine : Fine (step_read version l)
  unfolding step_read
  step_fine =
      let k = row_for l in
      if_fine Fine (leb rows k) _ _ (λ _ r. absurd (omega arith))
      (λ a. if_fine Fine (ltb k accession) _ _ (λ _ r. absurd (omega arith))
      (λ b. if_fine Fine (leb k migration) _ _ (λ c. proposal_fine k _ (ltb-false k accession b) (leb-true k migration c))
      (λ c. if_fine Fine (eqb k raw) _ _ (λ _. raw_fine v)
      (λ d. own_fine k (omega (arith, leb-false k migration c, eqb-false k raw d)) (leb-false rows k a)))))

-- ---- one step more
whole_end : (n version : ℕ) (input : List ℕ) (pos : ℕ) → length input ≤ pos → whole_from n version input pos ≡ true
unfolding whole_from
whole_end zero version input pos h = le-leb (length input) pos h
whole_end (suc n) version input pos h = simp (le-leb (length input) pos h)

module _ (version : ℕ) (s : List ℕ) (t : Stepped version s) where
  -- a step of some bytes is the same where more bytes follow
  at_same : (bytes : List ℕ) (pos : ℕ) → pos < length bytes → Known version bytes pos
      → (is_known (kind_at version (bytes ++ s) pos) ≡ true) × (next_at version (bytes ++ s) pos ≡ next_at version bytes pos)
  at_same bytes pos h k =
      let e = get_or-append bytes s 0 pos h in
      let n = length-append bytes s in
      let m : kind_at version (bytes ++ s) pos ≡ kind_of (get_or bytes pos 0) =
      at_known version (bytes ++ s) pos (rw e k.known) (rw e (omega (arith, k.inside))) ∙ ap kind_of e in
      let known : is_known (kind_at version (bytes ++ s) pos) ≡ true = rw m k.known in
      let more : next_at version (bytes ++ s) pos ≡ pos + body_size version (kind_of (get_or bytes pos 0)) + 1 =
      rw e at (known_at version (bytes ++ s) pos known).next in
      (known, more ∙ sym k.next)

  -- the step itself, at the end
  at_last : (bytes : List ℕ) → (is_known (kind_at version (bytes ++ s) (length bytes)) ≡ true)
      × (next_at version (bytes ++ s) (length bytes) ≡ length (bytes ++ s))
  at_last bytes =
      let e : get_or (bytes ++ s) (length bytes) 0 ≡ get_or s 0 0 = ap (λ (i : ℕ). get_or (bytes ++ s) i 0) (omega arith) ∙ get_or-append-add bytes s 0 0 in
      let n = length-append bytes s in
      let m : kind_at version (bytes ++ s) (length bytes) ≡ kind_of (get_or s 0 0) =
      at_known version (bytes ++ s) (length bytes) (rw e t.known) (rw e (omega (arith, t.size))) ∙ ap kind_of e in
      let known : is_known (kind_at version (bytes ++ s) (length bytes)) ≡ true = rw m t.known in
      let more : next_at version (bytes ++ s) (length bytes) ≡ length bytes + body_size version (kind_of (get_or s 0 0)) + 1 =
      rw e at (known_at version (bytes ++ s) (length bytes) known).next in
      (known, omega (arith, more, t.size, n))

  whole_last : (n : ℕ) (bytes : List ℕ) → whole_from (suc n) version (bytes ++ s) (length bytes) ≡ true
  unfolding whole_from
  whole_last n bytes =
      let a = at_last bytes in
      if_fine (λ x. x ≡ true) (leb (length (bytes ++ s)) (length bytes)) _ _ (λ _. refl)
      (λ _. rw (a.0, a.1) (whole_end n version (bytes ++ s) (length (bytes ++ s)) (omega arith)))

  whole_more : (n : ℕ) (bytes : List ℕ) (pos : ℕ) → pos ≤ length bytes → whole_from n version bytes pos ≡ true
      → whole_from (suc n) version (bytes ++ s) pos ≡ true
  unfolding whole_from
  whole_more zero bytes pos h w =
      let e : pos ≡ length bytes = omega (arith, leb-true (length bytes) pos w) in
      rw e (whole_last zero bytes)
  whole_more (suc n) bytes pos h w =
      by_test (leb (length bytes) pos)
      (λ e. let p : pos ≡ length bytes = omega (arith, leb-true (length bytes) pos e) in rw p (whole_last (suc n) bytes))
      (λ e.
      let l = leb-false (length bytes) pos e in
      let a = and_true (is_known (kind_at version bytes pos)) _ (rw e at w) in
      let k = known_at version bytes pos a.0 in
      let b = at_same bytes pos l k in
      let m : whole_from (suc n) version (bytes ++ s) (next_at version bytes pos) ≡ true =
      whole_more n bytes (next_at version bytes pos) (omega (arith, k.next, k.inside)) a.1 in
      if_fine (λ x. x ≡ true) (leb (length (bytes ++ s)) pos) _ _ (λ _. refl) (λ _. rw (b.0, b.1) m))

-- ---- lines one after another
more_fuel : (n m version : ℕ) (input : List ℕ) (pos : ℕ) → n ≤ m → whole_from n version input pos ≡ true → whole_from m version input pos ≡ true
unfolding whole_from
more_fuel zero m version input pos h w = whole_end m version input pos (leb-true (length input) pos w)
more_fuel (suc n) zero version input pos h w = absurd (omega arith)
more_fuel (suc n) (suc m) version input pos h w =
    by_test (leb (length input) pos) (λ e. rw e)
    (λ e.
    let a = and_true (is_known (kind_at version input pos)) _ (rw e at w) in
    rw (e, a.0) (more_fuel n m version input (next_at version input pos) (omega arith) a.1))

abbrev Sayable : List ℕ → Type 0
Sayable bytes = AreBytes bytes × (sayable bytes ≡ true)

opens_in : (bytes : List ℕ) → sayable bytes ≡ true → opens bytes ≡ true
unfolding sayable
opens_in bytes t = (and_true (opens bytes) _ t).0

nine_more : (bytes s : List ℕ) → Nine bytes → sayable bytes ≡ true → Stepped (version_in bytes) s → length (bytes ++ s) ≤ longest
    → sayable (bytes ++ s) ≡ true
unfolding sayable
nine_more _ s (nine {a} {b} {c} {d} {e} {f} {g} {h} {i} {rest}) t p l =
    let bytes = headed a b c d e f g h i rest in
    let u = and_true (opens bytes) _ t in
    let o = opens_same a b c d e f g h i rest (rest ++ s) l u.0 in
    let w = whole_more (version_in bytes) s p (length bytes) bytes 9 (omega arith) u.1 in
    rw o (more_fuel (suc (length bytes)) (length (bytes ++ s)) (version_in bytes) (bytes ++ s) 9 (omega (arith, length-append bytes s, p.size)) w)

say_more : (bytes s : List ℕ) → Sayable bytes → Stepped (version_in bytes) s → length (bytes ++ s) ≤ longest → Sayable (bytes ++ s)
say_more bytes s t p l =
    (bytes_append bytes s t.0 p.are, nine_more bytes s (nine_of bytes (opened_of bytes (opens_in bytes t.1)).long) t.1 p l)

-- ---- the header's line
header_wide : (k : ℕ) → k < 2 → widths (row k) ≡ 6
unfolding widths row form_of
header_wide zero h = refl
header_wide (suc zero) h = refl
header_wide (suc (suc k)) h = absurd (omega arith)

letters_bytes : AreBytes (letters "VLT")
letters_bytes zero = omega arith
letters_bytes (suc zero) = omega arith
letters_bytes (suc (suc zero)) = omega arith
letters_bytes (suc (suc (suc i))) = omega arith

header_whole : (bytes : List ℕ) → length bytes ≡ 9 → opens bytes ≡ true → sayable bytes ≡ true
unfolding sayable
header_whole bytes n o = rw o (whole_end (length bytes) (version_in bytes) bytes 9 (omega arith))

header_fine : (l : List ℕ) → (header_read l).reason ≡ 0 → Sayable (header_read l).bytes
unfolding header_read
header_fine l =
    let k = row_for l in
    let p = read_by (row k) l in
    let bytes = letters "VLT" ++ p.bytes in
    if_fine Read (ltb k accession) _ _
    (λ a. if_fine Read (eqb p.reason 0) _ _
    (λ b. if_fine Read (opens bytes) _ _
    (λ c _. (
      bytes_append (letters "VLT") p.bytes letters_bytes (read_bytes (row k) l),
      header_whole bytes (omega (arith, read_size (row k) l (eqb-true p.reason 0 b), header_wide k (ltb-true k 2 a))) c,
    ))
    (λ c r. absurd (omega arith)))
    (λ b r. absurd (eqb-false p.reason 0 b r)))
    (λ a r. absurd (omega arith))
  where
    Read : Parsed → Type 0
    Read q = q.reason ≡ 0 → Sayable q.bytes

-- ---- the whole text
Ok : List ℕ → Type 0
Ok bytes = (length bytes ≡ 0) ⊎ Sayable bytes

line_fine : (bytes l : List ℕ) → Ok bytes → (line_read bytes l).reason ≡ 0 → length (bytes ++ (line_read bytes l).bytes) ≤ longest
    → Ok (bytes ++ (line_read bytes l).bytes)
unfolding line_read Ok
line_fine [] l k r n = inr (header_fine l r)
line_fine (x ∷ bytes) l (inl e) r n = absurd (omega arith)
line_fine (x ∷ bytes) l (inr t) r n =
    let e : is_none (x ∷ bytes) ≡ false = ne_eqb (length (x ∷ bytes)) 0 (λ q. omega arith) in
    let v = (opened_of (x ∷ bytes) (opens_in (x ∷ bytes) t.1)).version in
    let same : line_read (x ∷ bytes) l ≡ step_read (version_in (x ∷ bytes)) l = simp e in
    let m : length ((x ∷ bytes) ++ (step_read (version_in (x ∷ bytes)) l).bytes) ≤ longest =
    subst (λ (p : Parsed). length ((x ∷ bytes) ++ p.bytes) ≤ longest) same n in
    inr (subst (λ (p : Parsed). Sayable ((x ∷ bytes) ++ p.bytes)) (sym same)
    (say_more (x ∷ bytes) _ t (step_fine (version_in (x ∷ bytes)) v l (ap (λ (p : Parsed). p.reason) (sym same) ∙ r)) m))

taken_fine : (m : Made) (l : List ℕ) → Ok m.bytes → Ok (taken m (line_read m.bytes l)).bytes
unfolding taken
taken_fine m l k =
    let p = line_read m.bytes l in
    let bytes = m.bytes ++ p.bytes in
    if_fine (λ (x : Made). Ok x.bytes) (eqb p.reason 0) _ _
    (λ a. if_fine (λ (x : Made). Ok x.bytes) (line_over (skip_blanks p.rest)) _ _
    (λ b. if_fine (λ (x : Made). Ok x.bytes) (leb (length bytes) longest) _ _
    (λ c. line_fine m.bytes l k (eqb-true p.reason 0 a) (leb-true (length bytes) longest c)) (λ c. k))
    (λ b. k))
    (λ a. k)

made_fine : (n : ℕ) (m : Made) (l : List ℕ) → Ok m.bytes → Ok (made_from n m l).bytes
unfolding made_from
made_fine zero m l k = k
made_fine (suc n) m l k =
    let start = skip_blanks l in
    let p = line_read m.bytes start in
    if_fine (λ (x : Made). Ok x.bytes) (is_none l) _ _ (λ _. k)
    (λ _. if_fine (λ (x : Made). Ok x.bytes) (line_over start) _ _ (λ _. made_fine n _ (after_line start) k)
    (λ _. if_fine (λ (x : Made). Ok x.bytes) (eqb (taken m p).reason 0) _ _
    (λ _. made_fine n (taken m p) (after_line p.rest) (taken_fine m start k)) (λ _. taken_fine m start k)))

end_fine : (m : Made) → Ok m.bytes → (finished m).reason ≡ 0 → Sayable (finished m).bytes
unfolding finished Ok
end_fine m k =
    if_fine (λ (x : Made). x.reason ≡ 0 → Sayable x.bytes) (eqb m.reason 0 && is_none m.bytes) _ _ (λ _ r. absurd (omega arith))
    (λ a r. ⊎_elim (λ e. absurd (true≢false (sym (both r e) ∙ a))) (λ t. t) k)
  where
    both : m.reason ≡ 0 → length m.bytes ≡ 0 → (eqb m.reason 0 && is_none m.bytes) ≡ true
    both r e = simp (eq-eqb m.reason 0 r, eq-eqb (length m.bytes) 0 e)

pub text_fine : (text : List ℕ) → (assembled text).reason ≡ 0 → Sayable (assembled text).bytes
unfolding assembled Ok
text_fine text = end_fine _ (made_fine (length text) _ text (inl refl))
