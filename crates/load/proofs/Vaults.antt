-- The faulty vaults of a plan are lawful, and the correct vault from x is one.
use mathlib.Core.Bool.{Bool, ◌||◌, cond, false, not, true, true≢false}
use mathlib.Core.Logic.{◌⊎◌, inl, inr, ⊎_elim}
use mathlib.Core.Path.{◌∙◌, ◌≡◌, ap, refl, sym}
use Prim.Native.Nat.{◌%◌, ◌*◌, ◌+◌, ◌-◌, ◌/◌, ◌<◌, ◌^◌, ◌≤◌, suc, zero, ℕ}
use native.Mathlib.Nat.{mod-lt, mul_comm, pow-suc, zero-add}
use native.Mathlib.Omega.{arith}
use lib.Count.{ones, ones-ones, ones_step}
use lib.Dec.{leb, ltb}
use lib.Pow.{pow_mono}
use borrow.Author.Tests.{le-leb, leb-true, lt-ltb, ltb-false, ltb-true}
use Rattle.base.proofs.Reflect.{by_cases, or_intro}
use Rattle.base.proofs.Search.{all_at}
use Rattle.base.specs.Search.{all_below}
use Rattle.federation.specs.Federation.{Lawful}
use Rattle.generator.specs.Generator.{drawn, next}
use Rattle.sets.specs.Bits.{has_bit}
use Rattle.load.specs.Plans.{Fair, correct_from, faulty_of, going_on, plan_of, plan_with}
use Rattle.load.specs.declared.Plan.{Plan}

-- the faulty vaults are below n
pub faulty_below : (p : Plan) → Fair p → faulty_of p < 2 ^ p.n
unfolding faulty_of
faulty_below p h =
    omega (
      arith,
      pow_mono {i = 0} {j = p.start} (omega arith),
      pow_mono {i = 0} {j = p.n} (omega arith),
      pow_mono {i = p.start + p.b} {j = p.n} h.row,
    )

-- ---- a row of at most five vaults, by computation
doubled : (e : ℕ) → 2 ^ suc e ≡ 2 * 2 ^ e
doubled e = pow-suc 2 e ∙ mul_comm (2 ^ e) 2

abbrev row : ℕ → ℕ → ℕ
row s b = 2 ^ (s + b) - 2 ^ s

-- it has as many members as are in the row
row_ones : (s b : ℕ) → ones (row s b) ≡ b
row_ones zero b = let e : 2 ^ (0 + b) - 2 ^ 0 ≡ 2 ^ b - 1 = ap (λ (x : ℕ). 2 ^ x - 1) (zero-add b) in ap ones e ∙ ones-ones b
row_ones (suc s) b =
    let e : 2 ^ (suc s + b) ≡ 2 * 2 ^ (s + b) = ap (λ (x : ℕ). 2 ^ x) (omega arith) ∙ doubled (s + b) in
    let m : row (suc s) b % 2 ≡ 0 = omega (arith, doubled s) in
    let d : row (suc s) b / 2 ≡ row s b = omega (arith, doubled s) in
    ones_step (row (suc s) b) ∙ rw (m, d, row_ones s b) (omega arith)

-- a vault outside the row is no member
abbrev clear : ℕ → ℕ → ℕ → Bool
clear s b v = cond (ltb v s || leb (s + b) v) (not (has_bit (row s b) v)) true

clear_rows : all_below 17 (λ s. all_below 6 (λ b. all_below 16 (clear s b))) ≡ true
unfolding all_below has_bit
clear_rows = refl

not_true : (x : Bool) → not x ≡ true → x ≡ false
not_true false e = refl
not_true true e = absurd (true≢false (sym e))

row_clear : (s b v : ℕ) → s < 17 → b < 6 → v < 16 → (v < s) ⊎ (s + b ≤ v) → has_bit (row s b) v ≡ false
row_clear s b v h g k outside =
    let t : clear s b v ≡ true = all_at (clear s b) 16 (all_at (λ y. all_below 16 (clear s y)) 6 (all_at (λ x. all_below 6
    (λ y. all_below 16 (clear x y))) 17 clear_rows s h) b g) v k in
    let o : (ltb v s || leb (s + b) v) ≡ true = or_intro (ltb v s) (leb (s + b) v) (⊎_elim (λ l. inl (lt-ltb v s l)) (λ l. inr (le-leb (s + b) v l)) outside) in
    not_true (has_bit (row s b) v) (rw o at t)

-- ---- "the faulty set is lawful"
pub faulty_lawful : (p : Plan) → Fair p → Lawful (record { n = p.n; b = p.b; faulty = faulty_of p; version = 1 })
unfolding faulty_of
faulty_lawful p h =
    record {
      vaults = h.vaults;
      few = h.few;
      below = faulty_below p h;
      bound = omega (arith, row_ones p.start p.b);
      version = (omega arith, omega arith);
    }

-- ---- the correct vault from x
pub record CorrectAt (p : Plan) (v : ℕ) : Type 0 where
  pub below : v < p.n
  pub correct : has_bit (faulty_of p) v ≡ false

outside_correct : (p : Plan) → Fair p → (v : ℕ) → v < p.n → (v < p.start) ⊎ (p.start + p.b ≤ v) → CorrectAt p v
unfolding faulty_of
outside_correct p h v l o = record { below = l; correct = row_clear p.start p.b v (omega arith) (omega arith) (omega arith) o }

going_correct : (p : Plan) → Fair p → (v : ℕ) → v < p.n → CorrectAt p (going_on p v)
unfolding going_on
going_correct p h v l =
    by_cases (λ x. CorrectAt p (cond x v (cond (leb (p.start + p.b) v) v (cond (ltb (p.start + p.b) p.n) (p.start + p.b) 0)))) (ltb v p.start)
    (λ e. outside_correct p h v l (inl (ltb-true _ _ e)))
    (λ e. by_cases (λ y. CorrectAt p (cond y v (cond (ltb (p.start + p.b) p.n) (p.start + p.b) 0))) (leb (p.start + p.b) v)
    (λ f. outside_correct p h v l (inr (leb-true _ _ f)))
    (λ f. by_cases (λ z. CorrectAt p (cond z (p.start + p.b) 0)) (ltb (p.start + p.b) p.n)
    (λ g. outside_correct p h (p.start + p.b) (ltb-true _ _ g) (inr (omega arith)))
    (λ g. let s : 0 < p.start = omega (arith, h.row, ltb-false (p.start + p.b) p.n g, h.few) in
    outside_correct p h 0 (omega arith) (inl s))))

pub from_correct : (p : Plan) → Fair p → (x : ℕ) → CorrectAt p (correct_from p x)
unfolding correct_from
from_correct p h x = going_correct p h (x % p.n) (mod-lt x (omega arith))

-- the plan of lawful settings is fair
pub plan_fair : (seed n b : ℕ) → n ≤ 16 → 3 * b < n → Fair (plan_of seed n b)
unfolding plan_of plan_with
plan_fair seed n b h g = record {
  vaults = h;
  few = g;
  row = let s : 0 < n - b + 1 = omega arith in omega (arith, mod-lt (drawn (next (next seed))) s);
  turned = mod-lt (drawn (next (next (next seed)))) (omega arith);
}
