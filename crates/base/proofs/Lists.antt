-- `same_list` decides that two lists are equal, element by element; what a slice comparison of the kit's `check`
-- ensures says that its answer is `same_list`; and parts of lists.
use mathlib.Core.Bool.{Bool, false, true, true≢false}
use mathlib.Core.List.{List, [], ◌∷◌}
use mathlib.Core.Path.{◌∙◌, ◌≡◌, ap, ap₂, refl, sym}
use Prim.Native.Nat.{◌+◌, suc, zero, ℕ}
use native.Mathlib.Nat.{suc-add, zero-add}
use lib.Dec.{eqb}
use lib.ListN.{drop, take}
use lib.Seq.{take-nil}
use borrow.Author.Tests.{eq-eqb, eqb-true}
use Rattle.base.proofs.Reflect.{and_true, refutes}
use Rattle.base.specs.Lists.{same_list}
use Rattle.base.specs.Reflect.{Reflects}

same_refl : (a : List ℕ) → same_list a a ≡ true
unfolding same_list
same_refl [] = refl
same_refl (x ∷ xs) = simp (eq-eqb x x refl, same_refl xs)

same_true : (a b : List ℕ) → same_list a b ≡ true → a ≡ b
unfolding same_list
same_true [] [] h = refl
same_true [] (y ∷ ys) h = cc
same_true (x ∷ xs) [] h = cc
same_true (x ∷ xs) (y ∷ ys) h =
    let t = and_true (eqb x y) (same_list xs ys) h in
    ap₂ (λ (a : ℕ) (l : List ℕ). a ∷ l) (eqb-true x y t.0) (same_true xs ys t.1)

pub reflect_same : (a b : List ℕ) → Reflects (same_list a b) (a ≡ b)
reflect_same a b = record { sound = same_true a b; complete = λ e. rw e (same_refl b) }

pub same_is : (r : Bool) (a b : List ℕ) → (r ≡ true → a ≡ b) × (a ≡ b → r ≡ true) → r ≡ same_list a b
same_is true a b h = sym ((reflect_same a b).complete (h.0 refl))
same_is false a b h = sym (refutes (reflect_same a b) (λ e. true≢false (sym (h.1 e))))

-- a part from m on is a part of a front
pub take_drop : (m r : ℕ) (l : List ℕ) → take r (drop m l) ≡ drop m (take (m + r) l)
take_drop zero r l = rw zero-add
take_drop (suc m) r [] = take-nil r ∙ sym (ap (drop (suc m)) (take-nil (suc m + r)))
take_drop (suc m) r (x ∷ l) = rw suc-add (take_drop m r l)
