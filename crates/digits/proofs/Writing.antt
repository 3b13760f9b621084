-- Texts written one after another are written whole, and a number's last digit follows the rest of it.
use mathlib.Core.List.{List, [], ◌++◌, ◌∷◌, append_assoc}
use mathlib.Core.Path.{◌∙◌, ◌≡◌, ap, refl, sym}
use Prim.Native.Nat.{◌%◌, ◌+◌, ◌/◌, ◌<◌, ◌≤◌, suc, zero, ℕ}
use native.Mathlib.Nat.{add-suc, add-zero, not-suc-le-zero, suc-add, zero-add}
use native.Mathlib.Omega.{arith}
use lib.Dec.{ltb}
use lib.ListN.{drop, length, length-append, set, take}
use lib.Seq.{sets, sets-eq, take_at}
use borrow.Author.Tests.{le-ltb, lt-ltb, ltb-false, ltb-true}
use Rattle.base.proofs.Reflect.{by_cases}
use Rattle.digits.specs.Digits.{Put, decimal, digits, two_digits}

sets_append : (s t l : List ℕ) (i : ℕ) → sets (sets l i s) (i + length s) t ≡ sets l i (s ++ t)
sets_append [] t l i = simp add-zero
sets_append (a ∷ s) t l i = simp (add-suc, ← suc-add) (sets_append s t (set l i a) (suc i))

pub then : {o p q s t : List ℕ} {i j k : ℕ} → Put o i s p j → Put p j t q k → Put o i (s ++ t) q k
then {o} {p} {q} {s} {t} {i} {j} {k} a b =
    record { moved = simp length-append (omega (arith, a.moved, b.moved)); wrote = b.wrote ∙ rw (a.wrote, a.moved) (sets_append s t o i) }

-- ---- digits
small : (k n : ℕ) → n < 10 → digits k n ≡ (48 + n) ∷ []
unfolding digits
small zero n h = refl
small (suc k) n h = simp (lt-ltb n 10 h)

more : (k n : ℕ) → 10 ≤ n → digits (suc k) n ≡ digits k (n / 10) ++ ((48 + n % 10) ∷ [])
unfolding digits
more k n h = simp (le-ltb n 10 h)

by_ten : {P : Type 0} (n : ℕ) → (n < 10 → P) → (10 ≤ n → P) → P
by_ten {P} n below above = by_cases (λ b. P) (ltb n 10) (λ e. below (ltb-true n 10 e)) (λ e. above (ltb-false n 10 e))

-- more places than there are digits change nothing
enough : (k n : ℕ) → n ≤ k → (j : ℕ) → n ≤ j → digits k n ≡ digits j n
enough zero n h j g = small zero n (omega arith) ∙ sym (small j n (omega arith))
enough (suc k) n h zero g = small (suc k) n (omega arith) ∙ sym (small zero n (omega arith))
enough (suc k) n h (suc j) g =
    by_ten n (λ l. small (suc k) n l ∙ sym (small (suc j) n l))
    (λ m. more k n m ∙ rw (enough k (n / 10) (omega arith) j (omega arith)) (sym (more j n m)))

decimal_one : (n : ℕ) → n < 10 → decimal n ≡ (48 + n) ∷ []
unfolding decimal
decimal_one n h = small n n h

decimal_more : (n : ℕ) → 10 ≤ n → decimal n ≡ decimal (n / 10) ++ ((48 + n % 10) ∷ [])
unfolding decimal
decimal_more zero h = absurd (not-suc-le-zero h)
decimal_more (suc n) h = more n (suc n) h ∙ rw (enough n (suc n / 10) (omega arith) (suc n / 10) (omega arith))

decimal_two : (n : ℕ) → 10 ≤ n → n < 100 → decimal n ≡ two_digits n
decimal_two n h g = decimal_more n h ∙ ap (λ (t : List ℕ). t ++ ((48 + n % 10) ∷ [])) (decimal_one (n / 10) (omega arith))

decimal_hundreds : (n : ℕ) → 100 ≤ n → decimal n ≡ decimal (n / 100) ++ two_digits (n % 100)
decimal_hundreds n h =
    let a : n / 10 / 10 ≡ n / 100 = omega arith in
    let b : n / 10 % 10 ≡ n % 100 / 10 = omega arith in
    let c : n % 10 ≡ n % 100 % 10 = omega arith in
    decimal_more n (omega arith) ∙ rw (decimal_more (n / 10) (omega arith), a, b, c) (append_assoc (decimal (n / 100)) _ _)

-- ---- numbers written
module _ {o p : List ℕ} {i r n : ℕ} where
  pub one_digit : n < 10 → Put o i ((48 + n) ∷ []) p r → Put o i (decimal n) p r
  one_digit h w = rw (decimal_one n h) w

  pub two_digits_lem : 10 ≤ n → n < 100 → Put o i (two_digits n) p r → Put o i (decimal n) p r
  two_digits_lem h g w = rw (decimal_two n h g) w

  -- the hundreds, and two digits more
  pub hundreds : (m : ℕ) → m ≤ n → 100 ≤ m → {q : List ℕ} {j : ℕ} → Put o i (decimal (n / 100)) q j → Put q j (two_digits (n % 100)) p r
      → Put o i (decimal n) p r
  hundreds m g h v w = rw (decimal_hundreds n (omega arith)) (then v w)

pub ruleset writing = (one_digit, two_digits_lem, hundreds)

-- a text made at the start of a buffer with room for it is what the buffer's first bytes are
pub made : {o p t : List ℕ} {r : ℕ} → r ≤ length o → Put o 0 t p r → take r p ≡ t
made {o} {p} {t} {r} h w =
    let e : r ≡ length t = w.moved ∙ zero-add (length t) in
    let all : sets o 0 t ≡ t ++ drop (length t) o = sets-eq t o 0 (rw zero-add (omega (arith, e))) ∙ rw zero-add in
    rw (w.wrote, all) (take_at t (drop (length t) o) r (sym e))
