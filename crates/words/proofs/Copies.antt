-- Characters put one after another: what is put with what remains is the whole.
use mathlib.Core.Bool.{Bool, cond, false, true}
use mathlib.Core.List.{List, [], ◌∷◌, append_assoc}
use mathlib.Core.Path.{◌∙◌, ◌≡◌, ap, refl, sym}
use Prim.Native.Nat.{◌*◌, ◌+◌, ◌-◌, ◌<◌, ◌≤◌, suc, zero, ℕ}
use native.Mathlib.Nat.{add-sub_cancel_left, add-zero}
use native.Mathlib.Omega.{arith}
use borrow.Rule.Slice.PartMut.{put_mid}
use lib.Dec.{eqb}
use lib.ListN.{length, length-append}
use lib.Seq.{drop-drop, length-sets, sets, sets-eq}
use Rattle.codec.proofs.Numbers.{sets_append}
use Rattle.codec.specs.Codec.{record_size, says_trimmed}
use Rattle.rows.specs.Table.{half, letters, raw_row, row, shaped, times, trimmed_row}
use Rattle.digits.proofs.Writing.{then}
use Rattle.digits.specs.Digits.{Put}
use Rattle.words.specs.Room.{arrow}
use borrow.Author.Tests.{eq-eqb, ne_eqb}

-- ---- a text
pub copied : (out s now : List ℕ) (at : ℕ) → at + length s ≤ length out → now ≡ s → put_mid at (at + length s - at) out now ≡ sets out at s
copied out s now at room e = rw (e, add-sub_cancel_left, sets-eq s out at room, drop-drop, append_assoc)

-- ---- a text so many times
pub record Repeating (before s : List ℕ) (at n i end : ℕ) (out : List ℕ) : Type 0 where
  pub puts : sets out end (times (n - i) s) ≡ sets before at (times n s)
  pub moves : end + length (times (n - i) s) ≡ at + length (times n s)
  pub within : i ≤ n
  pub few : end ≤ at + 16 * i
  pub size : length out ≡ length before

module _ {before s : List ℕ} {at n : ℕ} where
  pub times_begun : Repeating before s at n 0 at before
  times_begun =
      let e : n - 0 ≡ n = omega arith in
      record { puts = rw e; moves = rw e; within = omega arith; few = omega arith; size = refl }

  module _ {i end : ℕ} {out : List ℕ} (now : Repeating before s at n i end out) where
    pub times_turn : (r : ℕ) (out₁ : List ℕ) → length s ≤ 16 → i < n → Put out end s out₁ r → Repeating before s at n (i + 1) r out₁
    unfolding times
    times_turn r out₁ l h p =
        let e : n - i ≡ suc (n - (i + 1)) = omega arith in
        let t = times (n - (i + 1)) s in
        record {
          puts = rw (p.wrote, p.moved) (sym (sets_append s out end t) ∙ rw e at now.puts);
          moves = omega (arith, p.moved, length-append s t, rw e at now.moves);
          within = omega arith;
          few = omega (arith, p.moved, now.few);
          size = rw p.wrote (length-sets out end s ∙ now.size);
        }

    pub times_done : n ≤ i → Put before at (times n s) out end
    unfolding times
    times_done h =
        let e : n - i ≡ 0 = omega arith in
        record { moved = omega (arith, rw e at now.moves); wrote = rw e at now.puts }

pub ruleset repeats = (times_begun, times_turn, times_done)

-- ---- the rows
pub put_none : (before : List ℕ) (at : ℕ) → Put before at [] before at
put_none before at = record { moved = sym (add-zero at); wrote = refl }

module _ {o p : List ℕ} {at r : ℕ} where
  pub half_put : (n : ℕ) {q : List ℕ} {j : ℕ} → Put o at (times n (letters " ????????:$")) q j → Put q j (times (48 - 12 * n) (0 ∷ [])) p r
      → Put o at (half n) p r
  unfolding half
  half_put n a b = then a b

  pub arrow_put : (k : ℕ) → (k ≡ 2 → ⊥) → Put o at (letters " ->") p r → Put o at (arrow k) p r
  unfolding arrow
  arrow_put k n w = rw (ne_eqb k 2 n) w

  pub frames_put : (version trimmed : ℕ) → version ≡ 2 → (trimmed ≡ 0 → ⊥) → Put o at (letters " trimmed $") p r → Put o at (trimmed_row version trimmed) p r
  unfolding trimmed_row says_trimmed
  frames_put version trimmed v n w = rw (eq-eqb version 2 v, ne_eqb trimmed 0 n) w

  pub zeros_put : (version trimmed : ℕ) → version ≡ 2 → trimmed ≡ 0 → Put o at (times 4 (0 ∷ [])) p r → Put o at (trimmed_row version trimmed) p r
  unfolding trimmed_row says_trimmed
  zeros_put version trimmed v n w = rw (eq-eqb version 2 v, eq-eqb trimmed 0 n) w

  pub raw_put : (version n : ℕ) {q : List ℕ} {j : ℕ} → n ≡ record_size version → Put o at (row 4) q j → Put q j (times n (37 ∷ [])) p r
      → Put o at (raw_row version) p r
  unfolding raw_row
  raw_put version n e a b = then a (rw e at b)

pub no_arrow : (o : List ℕ) (at k : ℕ) → k ≡ 2 → Put o at (arrow k) o at
unfolding arrow
no_arrow o at k e = rw (eq-eqb k 2 e) (put_none o at)

pub no_frames : (o : List ℕ) (at version trimmed : ℕ) → (version ≡ 2 → ⊥) → Put o at (trimmed_row version trimmed) o at
unfolding trimmed_row says_trimmed
no_frames o at version trimmed n = rw (ne_eqb version 2 n) (put_none o at)

pub shaped_put : (version k inputs outputs trimmed : ℕ) {o₀ o₁ o₂ o₃ o₄ o₅ o₆ o₇ : List ℕ} {r₁ r₂ r₃ r₄ r₅ r₆ r₇ : ℕ} → Put o₀ 0 (row k) o₁ r₁
    → Put o₁ r₁ (inputs ∷ []) o₂ r₂ → Put o₂ r₂ (outputs ∷ []) o₃ r₃ → Put o₃ r₃ (half inputs) o₄ r₄ → Put o₄ r₄ (arrow k) o₅ r₅
    → Put o₅ r₅ (half outputs) o₆ r₆ → Put o₆ r₆ (trimmed_row version trimmed) o₇ r₇ → Put o₀ 0 (shaped version k inputs outputs trimmed) o₇ r₇
unfolding shaped arrow
shaped_put version k inputs outputs trimmed a b c d e f g = then (then a (then b (then c d))) (then e (then f g))

-- ---- how long they are
half_size : (n : ℕ) → n ≤ 4 → length (half n) ≤ 48
unfolding half times
half_size zero h = omega arith
half_size (suc zero) h = omega arith
half_size (suc (suc zero)) h = omega arith
half_size (suc (suc (suc zero))) h = omega arith
half_size (suc (suc (suc (suc zero)))) h = omega arith
half_size (suc (suc (suc (suc (suc n))))) h = absurd (omega arith)

frames_size : (version trimmed : ℕ) → length (trimmed_row version trimmed) ≤ 10
unfolding trimmed_row times
frames_size version trimmed = sizes (says_trimmed version) (eqb trimmed 0)
  where
    sizes : (a b : Bool) → length (cond a (cond b (times 4 (0 ∷ [])) (letters " trimmed $")) []) ≤ 10
    sizes true true = omega arith
    sizes true false = omega arith
    sizes false b = omega arith

bytes_size : (n : ℕ) → length (times n (37 ∷ [])) ≡ n
unfolding times
bytes_size zero = refl
bytes_size (suc n) = ap suc (bytes_size n)

module _ {o p : List ℕ} {at r : ℕ} where
  pub half_end : (n : ℕ) → n ≤ 4 → Put o at (half n) p r → r ≤ at + 48
  half_end n h w = omega (arith, half_size n h, w.moved)

  pub frames_end : (version trimmed : ℕ) → Put o at (trimmed_row version trimmed) p r → r ≤ at + 10
  frames_end version trimmed w = omega (arith, frames_size version trimmed, w.moved)

  pub bytes_end : (n : ℕ) → n ≤ 104 → Put o at (times n (37 ∷ [])) p r → r ≤ at + 104
  bytes_end n h w = omega (arith, bytes_size n, w.moved)

pub ruleset rows_put = (half_put, arrow_put, frames_put, zeros_put, raw_put, no_arrow, no_frames)
