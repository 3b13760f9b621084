-- The code has the triangle on two pages side by side: places 0 to 8 of all rows, and places 9 to 16 of rows 9 to 16. Both say what the
-- triangle says.
use mathlib.Core.Bool.{true}
use mathlib.Core.List.{List, [], ◌∷◌}
use mathlib.Core.Path.{◌∙◌, ◌≡◌, refl}
use Prim.Native.Nat.{◌+◌, ◌-◌, ◌<◌, ◌≤◌, suc, zero, ℕ}
use native.Mathlib.Omega.{arith}
use lib.Dec.{eqb}
use lib.ListN.{drop, get_or}
use borrow.Author.Tests.{eqb-true}
use Rattle.base.specs.Search.{all_below}
use Rattle.binomials.proofs.Rows.{at_both}
use Rattle.binomials.specs.Triangle.{entry_at, triangle}

-- so many places of a row from one on, 0 past its end
abbrev places : ℕ → ℕ → List ℕ → List ℕ
places zero from row = []
places (suc c) from row = get_or row from 0 ∷ places c (suc from) row

abbrev page : ℕ → ℕ → List (List ℕ) → List (List ℕ)
page c from [] = []
page c from (row ∷ rows) = places c from row ∷ page c from rows

abbrev left : ℕ → ℕ → ℕ
left n k = get_or (get_or (page 9 0 triangle) n []) k 0

abbrev right : ℕ → ℕ → ℕ
right n k = get_or (get_or (page 8 9 (drop 9 triangle)) n []) k 0

left_page : all_below 17 (λ n. all_below 9 (λ k. eqb (left n k) (entry_at n k))) ≡ true
unfolding all_below entry_at
left_page = refl

right_page : all_below 8 (λ n. all_below 8 (λ k. eqb (right n k) (entry_at (9 + n) (9 + k)))) ≡ true
unfolding all_below entry_at
right_page = refl

pub on_left : (n k : ℕ) → n ≤ 16 → k < 9 → left n k ≡ entry_at n k
on_left n k h l =
    eqb-true (left n k) (entry_at n k) (at_both (λ n k. eqb (left n k) (entry_at n k)) 17 (λ _. 9) left_page n k (omega (arith, h)) l)

pub on_right : (n k : ℕ) → n ≤ 16 → 9 ≤ k → k ≤ n → right (n - 9) (k - 9) ≡ entry_at n k
on_right n k h l m =
    let row : 9 + (n - 9) ≡ n = omega (arith, l, m) in
    let place : 9 + (k - 9) ≡ k = omega (arith, l) in
    let t = at_both (λ n k. eqb (right n k) (entry_at (9 + n) (9 + k))) 8 (λ _. 8) right_page (n - 9) (k - 9) (omega (arith, h)) (omega (arith, h, m)) in
    eqb-true (right (n - 9) (k - 9)) (entry_at (9 + (n - 9)) (9 + (k - 9))) t ∙ rw (row, place) refl
