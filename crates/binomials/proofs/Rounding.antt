-- The thousandths are a nearest number of them, and where two are equally near the even one; there is only one such number, and rounding
-- the complement of a share gives its complement.
use mathlib.Core.Bool.{cond}
use mathlib.Core.Path.{◌≡◌, ap, refl, sym}
use Prim.Native.Nat.{◌%◌, ◌*◌, ◌+◌, ◌-◌, ◌/◌, ◌<◌, ◌≤◌, ℕ}
use native.Mathlib.Nat.{div-add-mod', le_of_eq, mod-lt, mul-le-mul_right}
use native.Mathlib.Omega.{arith}
use lib.Count.{ones}
use lib.Dec.{eqb, leb, ltb}
use borrow.Author.Tests.{eqb-false, eqb-true, leb-false, leb-true, ltb-false, ltb-true}
use Rattle.base.proofs.Reflect.{by_cases}
use Rattle.federation.specs.Federation.{is_federation, is_known, is_lawful_up_to, threshold_of}
use Rattle.federation.specs.declared.Settings.{Settings}
use Rattle.std.specs.Prelude.{Ok, Err}
use Rattle.outcome.specs.declared.Refusal.TheVariants.{TooManyAbsent}
use Rattle.binomials.specs.Binomials.{choose, factorial}
use Rattle.binomials.specs.Draw.{Nearest, draw_of, failing, gap, thousandths, to_even}

-- r thousandths are at most half a thousandth above the share and at most half below it, and on an exact half r is even
pub record Rounded (part whole r : ℕ) : Type 0 where
  pub not_above : 2 * (r * whole) ≤ 2 * (1000 * part) + whole
  pub not_below : 2 * (1000 * part) ≤ 2 * (r * whole) + whole
  pub tie_above : 2 * (r * whole) ≡ 2 * (1000 * part) + whole → r % 2 ≡ 0
  pub tie_below : 2 * (1000 * part) ≡ 2 * (r * whole) + whole → r % 2 ≡ 0

to_even_lem : (down : ℕ) → to_even down % 2 ≡ 0
unfolding to_even
to_even_lem down = omega arith

to_neighbour : (down : ℕ) → (down ≤ to_even down) × (to_even down ≤ down + 1)
unfolding to_even
to_neighbour down = omega arith

-- both neighbours of a share, `rest` above the lower one
module _ (part whole down rest : ℕ) (e : down * whole + rest ≡ 1000 * part) (m : rest < whole) where
  lower : 2 * rest ≤ whole → (2 * rest ≡ whole → down % 2 ≡ 0) → Rounded part whole down
  lower l even = record {
    not_above = omega (arith, e);
    not_below = omega (arith, e, l);
    tie_above = λ q. absurd (omega (arith, e, q, m));
    tie_below = λ q. even (omega (arith, e, q));
  }

  upper : whole ≤ 2 * rest → (2 * rest ≡ whole → (down + 1) % 2 ≡ 0) → Rounded part whole (down + 1)
  upper l even = record {
    not_above = omega (arith, e, l);
    not_below = omega (arith, e, m);
    tie_above = λ q. even (omega (arith, e, q));
    tie_below = λ q. absurd (omega (arith, e, q, m));
  }

  -- from a half to the even one
  halved : 2 * rest ≡ whole → Rounded part whole (to_even down)
  halved l =
      let near = to_neighbour down in
      by_cases (λ _. Rounded part whole (to_even down)) (eqb (to_even down) down)
      (λ q. let d = eqb-true (to_even down) down q in rw d (lower (omega (arith, l)) (λ _. omega (arith, d, to_even_lem down))))
      (λ q.
      let u : to_even down ≡ down + 1 = omega (arith, near, eqb-false (to_even down) down q) in
      rw u (upper (omega (arith, l)) (λ _. omega (arith, u, to_even_lem down))))

pub rounded : (part whole : ℕ) → 0 < whole → Rounded part whole (thousandths part whole)
unfolding thousandths
rounded part whole h =
    let down = 1000 * part / whole in
    let rest = 1000 * part % whole in
    let e = div-add-mod' (1000 * part) whole in
    let m = mod-lt (1000 * part) h in
    by_cases (λ b. Rounded part whole (cond b down (cond (ltb whole (2 * rest)) (down + 1) (to_even down)))) (ltb (2 * rest) whole)
    (λ less. let l = ltb-true (2 * rest) whole less in lower part whole down rest e m (omega (arith, l)) (λ q. absurd (omega (arith, l, q))))
    (λ a. by_cases (λ b. Rounded part whole (cond b (down + 1) (to_even down))) (ltb whole (2 * rest))
    (λ more. let l = ltb-true whole (2 * rest) more in upper part whole down rest e m (omega (arith, l)) (λ q. absurd (omega (arith, l, q))))
    (λ b. halved part whole down rest e m (omega (arith, ltb-false (2 * rest) whole a, ltb-false whole (2 * rest) b))))

-- ---- a number that is rounded is a nearest one, and even where another is as near
module _ (part whole r : ℕ) (h : 0 < whole) (x : Rounded part whole r) where
  no_nearer : (m : ℕ) → gap part whole r ≤ gap part whole m
  no_nearer m =
      by_cases (λ _. gap part whole r ≤ gap part whole m) (ltb m r)
      (λ l. omega (arith, x, mul-le-mul_right whole (ltb-true m r l)))
      (λ a. by_cases (λ _. gap part whole r ≤ gap part whole m) (ltb r m)
      (λ l. omega (arith, x, mul-le-mul_right whole (ltb-true r m l)))
      (λ b. let e : r ≡ m = omega (arith, ltb-false m r a, ltb-false r m b) in le_of_eq (ap (gap part whole) e)))

  tie_even : (m : ℕ) → gap part whole m ≡ gap part whole r → (m ≡ r → ⊥) → r % 2 ≡ 0
  tie_even m q n =
      by_cases (λ _. r % 2 ≡ 0) (ltb m r)
      (λ l. x.tie_above (omega (arith, x, q, h, mul-le-mul_right whole (ltb-true m r l))))
      (λ a. by_cases (λ _. r % 2 ≡ 0) (ltb r m)
      (λ l. x.tie_below (omega (arith, x, q, h, mul-le-mul_right whole (ltb-true r m l))))
      (λ b. absurd (n (omega (arith, ltb-false m r a, ltb-false r m b)))))

  rounded_nearest : Nearest part whole r
  rounded_nearest = record { nearest = no_nearer; even = tie_even }

pub nearest : (part whole : ℕ) → 0 < whole → Nearest part whole (thousandths part whole)
nearest part whole h = rounded_nearest part whole (thousandths part whole) h (rounded part whole h)

-- there is only one: of two equally near ones both would be even, and the number next to the lower one nearer than either
module _ (part whole : ℕ) (h : 0 < whole) where
  not_less : (r m : ℕ) → Nearest part whole r → Nearest part whole m → m ≤ r
  not_less r m x y =
      by_cases (λ _. m ≤ r) (ltb r m)
      (λ e.
      let l = ltb-true r m e in
      let q : gap part whole m ≡ gap part whole r = omega (arith, x.nearest m, y.nearest r) in
      let a = x.even m q (λ s. absurd (omega (arith, s, l))) in
      let b = y.even r (sym q) (λ s. absurd (omega (arith, s, l))) in
      let two : r + 2 ≤ m = omega (arith, a, b, l) in
      absurd (omega (arith, q, h, x.nearest (r + 1), mul-le-mul_right whole two)))
      (λ e. ltb-false r m e)

  pub nearest_once : (r m : ℕ) → Nearest part whole r → Nearest part whole m → r ≡ m
  nearest_once r m x y = omega (arith, not_less r m x y, not_less m r y x)

-- ---- a share is at most a thousand thousandths, and the complement of a share has what is left of them: 1000 is even
pub share_most : (part whole : ℕ) → 0 < whole → part ≤ whole → thousandths part whole ≤ 1000
share_most part whole h l =
    let r = thousandths part whole in
    by_cases (λ _. r ≤ 1000) (leb r 1000)
    (λ e. leb-true r 1000 e)
    (λ e. absurd (omega (arith, h, l, rounded part whole h, mul-le-mul_right whole (leb-false r 1000 e))))

opposite : (part rest whole r s : ℕ) → part + rest ≡ whole → r + s ≡ 1000 → Rounded part whole r → Rounded rest whole s
opposite part rest whole r s e t x =
    let p : (r + s) * whole ≡ 1000 * whole = ap (λ (n : ℕ). n * whole) t in
    record {
      not_above = omega (arith, e, p, x);
      not_below = omega (arith, e, p, x);
      tie_above = λ q. omega (arith, t, x.tie_below (omega (arith, e, p, q)));
      tie_below = λ q. omega (arith, t, x.tie_above (omega (arith, e, p, q)));
    }

pub complement : (part whole : ℕ) → 0 < whole → part ≤ whole → 1000 - thousandths (whole - part) whole ≡ thousandths part whole
complement part whole h l =
    let r = thousandths part whole in
    let s = thousandths (whole - part) whole in
    let back = opposite (whole - part) part whole s (1000 - s) (omega (arith, l)) (omega (arith, share_most (whole - part) whole h (omega arith)))
    (rounded (whole - part) whole h) in
    nearest_once part whole h (1000 - s) r (rounded_nearest part whole (1000 - s) h back) (nearest part whole h)

-- ---- worked values: every quorum failing, and refusal 17
abbrev four : Settings
four = record { n = 4; b = 1; faulty = 0; version = 1 }

pub worked : (draw_of four 2 ≡ Ok 1000) × (draw_of four 5 ≡ Err TooManyAbsent)
unfolding draw_of failing thousandths to_even choose factorial is_lawful_up_to is_known is_federation threshold_of ones
worked = (refl, refl)

-- halves: 0.5 gives 0 and 1.5 gives 2
pub halves : (thousandths 1 2000 ≡ 0) × (thousandths 3 2000 ≡ 2)
unfolding thousandths to_even
halves = (refl, refl)
