-- No text is too long: a line and its end have at most twenty characters for each byte of its step. Each kind's row is looked at.
use mathlib.Core.Bool.{◌&&◌, cond, true}
use mathlib.Core.List.{List, [], ◌∷◌}
use mathlib.Core.Logic.{inl, inr}
use mathlib.Core.Path.{◌≡◌}
use Prim.Native.Nat.{◌*◌, ◌-◌, ◌<◌, ◌≤◌, suc, zero, ℕ}
use native.Mathlib.Omega.{arith}
use lib.Dec.{eqb, leb}
use lib.ListN.{drop, get_or, length, length-append, take}
use borrow.Author.Tests.{eqb-true, leb-false, leb-true}
use Rattle.base.proofs.Reflect.{and_true, by_cases, by_test}
use Rattle.codec.specs.Codec.{AreBytes, le_at, record_size, says_trimmed}
use Rattle.rows.proofs.Lengths.{row_few}
use Rattle.rows.proofs.RoundTrip.{bytes_after}
use Rattle.rows.specs.Items.{form_of}
use Rattle.rows.specs.Table.{raw_row, row, times}
use Rattle.rows.specs.Writing.{fits, longest_by}
use Rattle.runfile.specs.Run.{header_size, opens, version_in}
use Rattle.runfile.specs.Steps.{body_size, kind_at, kind_of, next_at}
use Rattle.notation.specs.Files.{bytes_at, disassembled, header_line, is_known, lines_from, per_byte, sayable, whole_from}
use Rattle.notation.specs.Lines.{has_shape, line_of, proposal_row, row_of, shaped_for}
use Rattle.notation.proofs.Shapes.{Version, brief}
use Rattle.notation.proofs.Steps.{by_kind}
use Rattle.notation.proofs.Views.{Known, bytes_are, bytes_bytes, bytes_size, known_at, opened_of}

module _ (version : ℕ) (v : Version version) where
  -- ---- a proposal
  raw_brief : Version version → longest_by (raw_row version) < per_byte * suc (record_size version)
  unfolding raw_row row times record_size says_trimmed longest_by form_of
  raw_brief (inl e) = rw e (omega arith)
  raw_brief (inr e) = rw e (omega arith)

  shaped_brief : (s : List ℕ) → has_shape s ≡ true → longest_by (shaped_for version s) < per_byte * suc (record_size version)
  unfolding has_shape shaped_for
  shaped_brief s h =
      let m = get_or s 1 0 in
      let i = get_or s 3 0 in
      let o = get_or s 4 0 in
      let a = and_true (cond (eqb m 0) (eqb i 0) (eqb m 1 && leb i 4)) (leb o 4) h in
      let l = leb-true o 4 a.1 in
      by_test (eqb m 0)
      (λ e. omega (arith, brief version (le_at s 101 4) v m i o (omega (arith, eqb-true m 0 e)) (omega (arith, eqb-true i 0 (rw e at a.0))) l))
      (λ e.
      let c = and_true (eqb m 1) (leb i 4) (rw e at a.0) in
      omega (arith, brief version (le_at s 101 4) v m i o (omega (arith, eqb-true m 1 c.0)) (leb-true i 4 c.1) l))

  abbrev Brief : ℕ → Type 0
  Brief b = (body : List ℕ) → length (b ∷ body) ≡ suc (body_size version (kind_of b)) → longest_by (row_of version (b ∷ body)) < per_byte * length (b ∷ body)

  proposal_brief : Brief 1
  unfolding row_of proposal_row kind_of
  proposal_brief body n =
      let s : List ℕ = 1 ∷ body in
      by_cases (λ x. longest_by (cond x (shaped_for version s) (raw_row version)) < per_byte * length s) (has_shape s && fits (shaped_for version s) s)
      (λ e. omega (arith, n, shaped_brief s (and_true (has_shape s) _ e).0)) (λ e. omega (arith, n, raw_brief v))

  -- ---- each kind
  each_brief : (b : ℕ) → is_known (kind_of b) ≡ true → Brief b
  unfolding kind_of row_of row longest_by form_of
  each_brief =
      by_kind Brief proposal_brief (λ body n. omega (arith, n)) (λ body n. omega (arith, n)) (λ body n. omega (arith, n)) (λ body n. omega (arith, n))
      (λ body n. omega (arith, n)) (λ body n. omega (arith, n)) (λ body n. omega (arith, n)) (λ body n. omega (arith, n))
      (λ body n. omega (arith, n)) (λ body n. omega (arith, n)) (λ body n. omega (arith, n)) (λ body n. omega (arith, n))

  pub step_brief : (s : List ℕ) → is_known (kind_of (get_or s 0 0)) ≡ true → length s ≡ suc (body_size version (kind_of (get_or s 0 0)))
      → longest_by (row_of version s) < per_byte * length s
  step_brief [] k n = absurd (omega arith)
  step_brief (b ∷ body) k n = each_brief b k body n

  -- ---- the header
  pub header_brief : Version version → longest_by (row (version - 1)) < per_byte * header_size
  unfolding row longest_by form_of
  header_brief (inl e) = rw e (omega arith)
  header_brief (inr e) = rw e (omega arith)

module _ (version : ℕ) (input : List ℕ) (pos : ℕ) (here : pos < length input) (k : Known version input pos) where
  -- the row of the step at pos
  pub at_brief : Version version → longest_by (row_of version (bytes_at version input pos)) < per_byte * (next_at version input pos - pos)
  at_brief v =
      let e = bytes_are version input pos here k in
      let n = bytes_size version input pos here k in
      let m : length (bytes_at version input pos) ≡ next_at version input pos - pos = omega (arith, n, k.next) in
      rw m at (step_brief version v (bytes_at version input pos) (rw e k.known) (rw e (rw e at n)))

module _ (input : List ℕ) (bytes : AreBytes input) (version : ℕ) (v : Version version) where
  lines_brief : (n pos : ℕ) → pos ≤ length input → whole_from n version input pos ≡ true
      → length (lines_from n version input pos) ≤ per_byte * (length input - pos)
  unfolding whole_from lines_from line_of
  lines_brief zero pos h w = omega arith
  lines_brief (suc n) pos h w =
      by_test (leb (length input) pos) (λ e. rw e (omega arith))
      (λ e.
      let here : pos < length input = leb-false (length input) pos e in
      let a = and_true (is_known (kind_at version input pos)) _ (rw e at w) in
      let k = known_at version input pos a.0 in
      let s = bytes_at version input pos in
      let next = next_at version input pos in
      let t = lines_from n version input next in
      let more = lines_brief n next (omega (arith, k.next, k.inside)) a.1 in
      let line = row_few (row_of version s) s (bytes_bytes version input pos here k bytes) in
      rw (e, length-append (line_of version s) (10 ∷ t)) (omega (arith, more, line, at_brief version input pos here k v, k.next, k.inside)))

bytes_take : (n : ℕ) (l : List ℕ) → AreBytes l → AreBytes (take n l)
bytes_take zero l b i = omega arith
bytes_take (suc n) [] b i = omega arith
bytes_take (suc n) (x ∷ l) b zero = b zero
bytes_take (suc n) (x ∷ l) b (suc i) = bytes_take n l (λ j. b (suc j)) i

pub text_brief : (input : List ℕ) → AreBytes input → sayable input ≡ true → length (disassembled input) ≤ per_byte * length input
unfolding sayable disassembled header_line
text_brief input bytes s =
    let a = and_true (opens input) _ s in
    let o = opened_of input a.0 in
    let lines = lines_brief input bytes (version_in input) o.version (length input) 9 o.long a.1 in
    let head = row_few (row (version_in input - 1)) (take 6 (drop 3 input)) (bytes_take 6 (drop 3 input) (bytes_after input 3 bytes)) in
    rw (length-append (header_line input) (10 ∷ lines_from (length input) (version_in input) input 9))
    (omega (arith, lines, head, header_brief (version_in input) o.version o.version, o.long))
