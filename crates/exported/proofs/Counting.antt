-- Pieces that are written or only counted one after another are the text, and no run has a longer one than its bytes allow.
use mathlib.Core.Bool.{Bool, false, true, true≢false}
use mathlib.Core.List.{List, [], ◌++◌, ◌∷◌, append_assoc, append-nil}
use mathlib.Core.Logic.{⊎_elim}
use mathlib.Core.Path.{◌∙◌, ◌≡◌, ap, refl, sym}
use Prim.Native.Nat.{◌*◌, ◌+◌, ◌-◌, ◌<◌, ◌≤◌, ℕ}
use native.Mathlib.Nat.{eq-or-lt_of_le, zero-add}
use native.Mathlib.Omega.{arith}
use lib.ListN.{length, length-append, take}
use lib.Seq.{length-sets}
use Rattle.base.proofs.Reflect.{by_cases}
use Rattle.digits.proofs.Writing.{made, then}
use Rattle.digits.specs.Digits.{Put}
use Rattle.index.specs.Places.{numbers_size, sets_size}
use Rattle.index.specs.Records.{records_size}
use Rattle.journal.specs.Journal.{capacity}
use Rattle.progress.specs.Pieces.{Advanced, Going, Piece, Started, blank, run_of}
use Rattle.progress.specs.declared.Progress.{Progress}
use Rattle.runfile.proofs.Turns.{none_left}
use Rattle.runfile.specs.Run.{journal_size, run_text, text_from}
use Rattle.text.specs.Text.{longest_text}
use Rattle.exported.specs.Fits.{Fits, Roomy, Written, most_bytes}

-- ---- a piece
pub counted_here : {fits : Bool} {before text : List ℕ} {at r : ℕ} → fits ≡ false → r ≡ at + length text → Written fits before at text before r
counted_here f e = record { moved = e; wrote = λ t. absurd (true≢false (sym t ∙ f)); kept = λ e. refl }

module _ {fits : Bool} {before after text : List ℕ} {at r : ℕ} where
  pub written_here : fits ≡ true → Put before at text after r → Written fits before at text after r
  written_here t p = record { moved = p.moved; wrote = λ e. p.wrote; kept = λ f. absurd (true≢false (sym t ∙ f)) }

  put_when : Written fits before at text after r → fits ≡ true → Put before at text after r
  put_when w t = record { moved = w.moved; wrote = w.wrote t }

  pub as_long : Written fits before at text after r → length after ≡ length before
  as_long w =
      by_cases (λ b. length after ≡ length before) fits (λ t. ap length (w.wrote t) ∙ length-sets before at text) (λ f. ap length (w.kept f))

then_written : {fits : Bool} {o p q s t : List ℕ} {i j k : ℕ} → Written fits o i s p j → Written fits p j t q k → Written fits o i (s ++ t) q k
then_written {s = s} {t = t} a b = record {
  moved = rw (length-append s t) (omega (arith, a.moved, b.moved));
  wrote = λ e. (then (put_when a e) (put_when b e)).wrote;
  kept = λ e. b.kept e ∙ a.kept e;
}

-- what stands at the front of a buffer
piece_is : {text before after rest : List ℕ} {w : ℕ} (s : List ℕ) (p : Piece text before after w rest) → s ≡ take w after → s ≡ p.piece
piece_is s p e = e ∙ made p.fits p.put

-- ---- how far the run has come
pub record Counting (input : List ℕ) (fits : Bool) (before : List ℕ) (p : Progress) (memo journal numbers sets records out : List ℕ) (at : ℕ) : Type 0 where
  pub going : p.pos < length input → Going input p journal numbers sets records memo
  pub done : List ℕ
  pub cut : run_text input ≡ done ++ text_from input (run_of p journal)
  pub written : Written fits before 0 done out at
  pub most : at ≤ longest_text * (p.pos + 1)

module _ (input : List ℕ) (fits : Bool) (out piece piece' : List ℕ) (p : Progress) (enough : Roomy fits (length (run_text input)) out)
    (a : Started input piece piece' p)
    (s : List ℕ) (e : s ≡ take p.written piece') where
  size_start : length s ≡ p.written
  size_start = ap length (piece_is s a.piece e) ∙ sym (a.piece.put.moved ∙ zero-add _)

  whole_start : length (run_text input) ≡ length s + length (text_from input (run_of p (blank journal_size)))
  whole_start =
      ap length a.piece.cut ∙ length-append a.piece.piece _
      ∙ ap (λ (k : ℕ). k + length (text_from input (run_of p (blank journal_size)))) (ap length (sym (piece_is s a.piece e)))

  pub room_start : Roomy fits (0 + length s) out × (0 + length s ≤ most_bytes)
  room_start = (record { room = λ t. omega (arith, whole_start, enough.room t) }, omega (arith, size_start, a.short))

  -- nothing is left to read: check 1 has turned it back, or it has no step
  pub counted_start : length input ≤ p.pos → (out' : List ℕ) (r : ℕ) → Written fits out 0 s out' r
      → Written fits out 0 (run_text input) out' r
  counted_start h out' r w =
      let t : run_text input ≡ s =
      a.piece.cut ∙ ap (λ (t : List ℕ). a.piece.piece ++ t) (none_left input (run_of p (blank journal_size)) h) ∙ append-nil a.piece.piece
      ∙ sym (piece_is s a.piece e) in
      rw t w

-- something is left, and nothing said yet
none_said : {text before after rest : List ℕ} {w : ℕ} (p : Piece text before after w rest) → w ≡ 0 → text ≡ rest
none_said {text} {before} {after} {rest} {w} p z = none p.piece p.cut p.put.moved
  where
    none : (piece : List ℕ) → text ≡ piece ++ rest → w ≡ 0 + length piece → text ≡ rest
    none [] e m = e
    none (x ∷ piece) e m = absurd (omega (arith, z, m))

none_put : {text before after rest : List ℕ} {w : ℕ} (p : Piece text before after w rest) → w ≡ 0 → after ≡ before
none_put {text} {before} {after} {rest} {w} p z = none p.piece p.put
  where
    none : (piece : List ℕ) → Put before 0 piece after w → after ≡ before
    none [] e = e.wrote
    none (x ∷ piece) e = absurd (omega (arith, z, e.moved))

pub count_begun : (input : List ℕ) (fits : Bool) (out piece piece' : List ℕ) (p : Progress) → Started input piece piece' p → p.pos < length input
    → Counting input fits out p (blank capacity) (blank journal_size) (blank numbers_size) (blank sets_size) (blank records_size) out 0
count_begun input fits out piece piece' p a more = record {
  going = λ l. a.going (a.passed more);
  done = [];
  cut = none_said a.piece (a.silent (a.passed more));
  written = record { moved = refl; wrote = λ t. refl; kept = λ f. refl };
  most = omega arith;
}

module _ {input : List ℕ} {fits : Bool} {before : List ℕ} {p : Progress} {memo journal numbers sets records out : List ℕ} {at : ℕ}
    (enough : Roomy fits (length (run_text input)) before) (c : Counting input fits before p memo journal numbers sets records out at)
    {piece journal' numbers' sets' records' memo' piece' : List ℕ} {q : Progress}
    (a : Advanced input p journal piece q journal' numbers' sets' records' memo' piece') (s : List ℕ) (e : s ≡ take q.written piece') where
  size_on : length s ≡ q.written
  size_on = ap length (piece_is s a.piece e) ∙ sym (a.piece.put.moved ∙ zero-add _)

  cut_on : run_text input ≡ (c.done ++ s) ++ text_from input (run_of q journal')
  cut_on =
      c.cut ∙ ap (λ (t : List ℕ). c.done ++ t) (a.piece.cut ∙ ap (λ (t : List ℕ). t ++ text_from input (run_of q journal')) (sym (piece_is s a.piece e)))
      ∙ sym (append_assoc c.done s (text_from input (run_of q journal')))

  whole_on : length (run_text input) ≡ length c.done + length s + length (text_from input (run_of q journal'))
  whole_on =
      ap length cut_on ∙ length-append (c.done ++ s) _ ∙ ap (λ (k : ℕ). k + length (text_from input (run_of q journal'))) (length-append c.done s)

  pub room_on : Roomy fits (at + length s) out × (at + length s ≤ most_bytes)
  room_on = (
    record { room = λ t. omega (arith, whole_on, c.written.moved, as_long c.written, enough.room t) },
    omega (arith, size_on, c.most, a.short, a.going.inside, a.going.few),
  )

  pub count_on : (out' : List ℕ) (r : ℕ) → Written fits out at s out' r
      → Counting input fits before q memo' journal' numbers' sets' records' out' r
  count_on out' r w = record {
    going = λ more. a.going;
    done = c.done ++ s;
    cut = cut_on;
    written = then_written c.written w;
    most = omega (arith, w.moved, size_on, c.most, a.short);
  }

-- nothing is left to read
pub all_counted : {input : List ℕ} {fits : Bool} {before : List ℕ} {p : Progress} {memo journal numbers sets records out : List ℕ} {at : ℕ}
    → Counting input fits before p memo journal numbers sets records out at → length input ≤ p.pos
    → Written fits before 0 (run_text input) out at
all_counted {input} {fits} {before} {p} {memo} {journal} {numbers} {sets} {records} {out} {at} c h =
    let e : run_text input ≡ c.done = c.cut ∙ ap (λ (t : List ℕ). c.done ++ t) (none_left input (run_of p journal) h) ∙ append-nil c.done in
    rw e c.written

-- ---- whole or not at all
module _ (input before between : List ℕ) (p : Progress) (s : Started input before between p) where
  put_fits : {piece text after : List ℕ} {r : ℕ} → Put before 0 piece after r → r ≤ length before → text ≡ piece ++ [] → Fits text before after r
  put_fits {piece} w h e =
      let t = e ∙ append-nil piece in
      rw t (record { needed = w.moved ∙ zero-add (length piece); whole = λ l. w.wrote; nothing = λ l. absurd (omega (arith, w.moved)) })

  pub at_once_start : length input ≤ p.pos → Fits (run_text input) before between p.written
  at_once_start h =
      put_fits s.piece.put s.piece.fits
      (s.piece.cut ∙ ap (λ (t : List ℕ). s.piece.piece ++ t) (none_left input (run_of p (blank journal_size)) h))

  -- with so much room a run ends, and does not only stop
  pub at_once_on : longest_text * (length input + 1) ≤ length before → p.pos < length input → (q : Progress) (journal numbers sets records memo after : List ℕ)
      → Advanced input p (blank journal_size) between q journal numbers sets records memo after → Fits (run_text input) before after q.written
  at_once_on room more q journal numbers sets records memo after a =
      let z = s.silent (s.passed more) in
      let same : between ≡ before = none_put s.piece z in
      let ends : length input ≤ q.pos =
      ⊎_elim (λ (h : length input ≤ q.pos). h)
      (λ (h : length between < q.written + longest_text). ⊎_elim (λ (e : q.pos ≡ length input). omega arith)
      (λ (l : q.pos < length input). absurd (omega (arith, h, ap length same, a.short, room, l))) (eq-or-lt_of_le a.going.inside)) a.filled in
      put_fits (rw same at a.piece.put) (omega (arith, a.piece.fits, ap length same))
      (none_said s.piece z ∙ a.piece.cut ∙ ap (λ (t : List ℕ). a.piece.piece ++ t) (none_left input (run_of q journal) ends))

module _ {text before after : List ℕ} {r : ℕ} where
  pub fits_counted : {between : List ℕ} {k : ℕ} → Written false before 0 text between k → k ≤ length before → Written true between 0 text after r
      → Fits text before after r
  fits_counted c h w =
      let n : r ≡ length text = w.moved ∙ zero-add (length text) in
      record {
        needed = n;
        whole = λ l. w.wrote refl ∙ rw (c.kept refl);
        nothing = λ l. absurd (omega (arith, c.moved));
      }

  pub fits_not : Written false before 0 text after r → length before < r → Fits text before after r
  fits_not c h =
      let n : r ≡ length text = c.moved ∙ zero-add (length text) in
      record { needed = n; whole = λ l. absurd (omega arith); nothing = λ l. c.kept refl }
