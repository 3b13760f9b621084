-- An item has no more characters than its form allows, so neither has a row: a number below 10 ^ k has at most k digits.
use mathlib.Core.Bool.{Bool, cond, false, true}
use mathlib.Core.List.{List, [], ◌++◌, ◌∷◌}
use mathlib.Core.Path.{◌≡◌, refl}
use Prim.Native.Nat.{◌%◌, ◌*◌, ◌+◌, ◌/◌, ◌<◌, ◌^◌, ◌≤◌, suc, zero, ℕ}
use native.Mathlib.Omega.{arith}
use lib.Dec.{eqb, ltb}
use lib.ListN.{drop, length, length-append}
use borrow.Author.Tests.{ltb-false}
use Rattle.base.proofs.Reflect.{by_test}
use Rattle.codec.specs.Codec.{AreBytes, le_at}
use Rattle.sets.specs.Bits.{has_bit}
use Rattle.digits.specs.Digits.{decimal, digits}
use Rattle.rows.specs.Items.{Form, constant, form_of, hexadecimal, listed, literal, members, number, plain, set_text, text_as, width}
use Rattle.rows.specs.Table.{letters}
use Rattle.rows.specs.Writing.{longest_as, longest_by, text_by}
use Rattle.rows.proofs.Numbers.{le_at_lt}
use Rattle.rows.proofs.RoundTrip.{bytes_after}

digits_few : (m k n : ℕ) → n < 10 ^ suc m → length (digits k n) ≤ suc m
unfolding digits
digits_few m zero n h = omega arith
digits_few zero (suc k) n h = by_test (ltb n 10) (λ e. rw e (omega arith)) (λ e. absurd (omega (arith, ltb-false n 10 e)))
digits_few (suc m) (suc k) n h =
    by_test (ltb n 10) (λ e. rw e (omega arith))
    (λ e. rw (e, length-append (digits k (n / 10)) ((48 + n % 10) ∷ [])) (omega (arith, digits_few m k (n / 10) (omega arith))))

decimal_few : (m n : ℕ) → n < 10 ^ suc m → length (decimal n) ≤ suc m
unfolding decimal
decimal_few m n h = digits_few m n n h

-- three digits for a byte
powers : (w m : ℕ) → m ≡ 3 * w → 256 ^ w ≤ 10 ^ m
powers zero m e = let z : m ≡ 0 = omega arith in rw z (omega arith)
powers (suc w) zero e = absurd (omega arith)
powers (suc w) (suc zero) e = absurd (omega arith)
powers (suc w) (suc (suc zero)) e = absurd (omega arith)
powers (suc w) (suc (suc (suc m))) e = omega (arith, powers w m (omega arith))

listed_few : (n i s : ℕ) (first : Bool) → n + i ≤ 16 → length (listed n i s first) ≤ 3 * n
unfolding listed
listed_few zero i s first h = omega arith
listed_few (suc n) i s first h =
    by_test (has_bit s i)
    (λ e. rw (e, length-append (cond first [] (letters ",")) (decimal i ++ listed n (suc i) s false), length-append (decimal i) (listed n (suc i) s false))
    (omega (arith, comma first, decimal_few 1 i (omega arith), listed_few n (suc i) s false (omega arith))))
    (λ e. rw e (omega (arith, listed_few n (suc i) s first (omega arith))))
  where
    comma : (b : Bool) → length (cond b [] (letters ",")) ≤ 1
    comma true = omega arith
    comma false = omega arith

set_few : (s : ℕ) → length (set_text s) ≤ 48
unfolding set_text
set_few s = by_test (eqb s 0) (λ e. rw e (omega arith)) (λ e. rw e (listed_few 16 0 s true (omega arith)))

pub item_few : (f : Form) (i v : ℕ) → v < 256 ^ width f → length (text_as f i v) ≤ longest_as f
item_few constant i v h = omega arith
item_few (number w) i v h = decimal_few (3 * w) v (omega (arith, powers w (3 * w) refl))
item_few members i v h = set_few v
item_few hexadecimal i v h = omega arith
item_few plain i v h = omega arith
item_few literal i v h = omega arith

pub row_few : (is s : List ℕ) → AreBytes s → length (text_by is s) ≤ longest_by is
unfolding text_by longest_by
row_few [] s b = omega arith
row_few (i ∷ is) s b =
    let w = width (form_of i) in
    let v = le_at s 0 w in
    rw (length-append (text_as (form_of i) i v) (text_by is (drop w s)))
    (omega (arith, item_few (form_of i) i v (le_at_lt w s 0 b), row_few is (drop w s) (bytes_after s w b)))
