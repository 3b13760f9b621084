-- A mark sets its own bit and no other, so what a row of marks has set is what one of them has.
use mathlib.Core.Bool.{Bool, false, true, true≢false}
use mathlib.Core.List.{List}
use mathlib.Core.Logic.{◌≢◌}
use mathlib.Core.Path.{◌≡◌, refl, subst, sym}
use Prim.Native.Nat.{◌%◌, ◌*◌, ◌+◌, ◌-◌, ◌/◌, ◌<◌, ◌≤◌, ℕ}
use native.Mathlib.Omega.{arith}
use lib.Dec.{eqb, ltb}
use lib.ListN.{get_or, length, length-set}
use lib.Seq.{get_or-set_other, get_or-set_same}
use borrow.Author.Tests.{eqb-false, eqb-true, ltb-false, ltb-true}
use Rattle.base.proofs.Reflect.{by_test}
use Rattle.sets.proofs.Bits.{has_with_other, has_with_same}
use Rattle.job_sets.proofs.Jobs.{in_high, in_low}
use Rattle.sets.specs.Bits.{has_bit, with_bit}
use Rattle.job_sets.specs.Jobs.{job_has}
use Rattle.index.specs.Words.{bit_at, marked, set_at}

pub mark_size : (words : List ℕ) (b : ℕ) (t : Bool) → length (marked words b t) ≡ length words
unfolding marked
mark_size words b true = length-set words _ _
mark_size words b false = refl

module _ (words : List ℕ) (b : ℕ) (room : b < 64 * length words) where
  at : b / 64 < length words
  at = omega arith

  pub mark_sets : (t : Bool) → t ≡ true → bit_at (marked words b t) b ≡ true
  unfolding bit_at marked
  mark_sets true e = rw (get_or-set_same words (b / 64) _ 0 at) (has_with_same (get_or words (b / 64) 0) (b % 64))
  mark_sets false e = absurd (true≢false (sym e))

  pub mark_other : (x : ℕ) (t : Bool) → x ≢ b → bit_at (marked words b t) x ≡ bit_at words x
  unfolding bit_at marked
  mark_other x false ne = refl
  mark_other x true ne =
      let word = with_bit (get_or words (b / 64) 0) (b % 64) in
      by_test (eqb (x / 64) (b / 64))
      (λ e.
      let q : x / 64 ≡ b / 64 = eqb-true _ _ e in
      let r : x % 64 ≢ b % 64 = λ m. ne (omega arith) in
      rw (q, get_or-set_same words (b / 64) word 0 at) (has_with_other (get_or words (b / 64) 0) (b % 64) (x % 64) r))
      (λ e. rw (get_or-set_other words (b / 64) (x / 64) word 0 (eqb-false _ _ e)))

-- the set of jobs in two words has the jobs whose bits are set
pub set_bit : (words : List ℕ) (at k : ℕ) → k < 128 → job_has (set_at words at) k ≡ bit_at words (64 * at + k)
unfolding set_at bit_at
set_bit words at k h =
    by_test (ltb k 64)
    (λ e.
    let l : k < 64 = ltb-true k 64 e in
    let p : (64 * at + k) / 64 ≡ at = omega arith in
    let q : (64 * at + k) % 64 ≡ k = omega arith in
    rw (p, q) (in_low (set_at words at) k l))
    (λ e.
    let l : 64 ≤ k = ltb-false k 64 e in
    let p : (64 * at + k) / 64 ≡ at + 1 = omega arith in
    let q : (64 * at + k) % 64 ≡ k - 64 = omega arith in
    let s : 64 + (k - 64) ≡ k = omega arith in
    rw (p, q) (subst (λ (y : ℕ). job_has (set_at words at) y ≡ has_bit (get_or words (at + 1) 0) (k - 64)) s (in_high (set_at words at) (k - 64) (omega arith))))
