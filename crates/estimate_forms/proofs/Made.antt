-- An array that `array::from_fn` makes is the list of a function's values, where the closure changes nothing and computes the function.
use Rattle.std.proofs.Common.{◌≡◌, ◌∙◌, ◌<◌, ◌≤◌, ◌+◌, ℕ, suc, zero, List, ◌∷◌, length, get_or, map, refl, ap, subst, arith, add-one}
use Rattle.std.specs.Array.{IsFromFnResult, IsFromFnResultFrom}
use Rattle.std.specs.Iterator.{ActsAs}
use Rattle.std.specs.List.{range_with_len}
use Rattle.std.proofs.lemmas.List.FromFn.{fill_by_all}
use denote.Param.Members.{Mut}
use lib.Dec.{ltb}
use borrow.Author.Tests.{ltb-false, ltb-true}
use Rattle.base.proofs.Reflect.{by_cases}
use Rattle.ranges.specs.Ranges.{list_from}

mapped : {B : Type 0} (v : ℕ → B) (a n : ℕ) → map v (range_with_len a n) ≡ list_from v a n
unfolding list_from
mapped v a zero = refl
mapped v a (suc n) = rw add-one (ap (λ xs. v a ∷ xs) (mapped v (suc a) n))

module _ {F B : Type 0} {g : Mut F (ℕ × Unit {0}) B} (f : F) (v : ℕ → B) (acts : ActsAs g f v) (ys : List B) (d : B) where
  made_at : (i n : ℕ) → IsFromFnResultFrom g f ys i n → (k : ℕ) → i ≤ k → k < i + n → get_or ys k d ≡ v k
  made_at i zero h k low high = absurd (omega arith)
  made_at i (suc n) h k low high =
      let a = acts i h.1 h.0 h.3 in
      by_cases (λ _. get_or ys k d ≡ v k) (ltb i k)
      (λ t. let after : i < k = ltb-true i k t in made_at (i + 1) n (subst (λ (q : F). IsFromFnResultFrom g q ys (i + 1) n) a.0 h.4) k (omega arith) (omega arith))
      (λ t. let up : k ≤ i = ltb-false i k t in let here : k ≡ i = omega arith in rw here (h.2.1 d ∙ a.1))

  pub made : (n : ℕ) → IsFromFnResult g f ys n → ys ≡ list_from v 0 n
  made n h = fill_by_all v ys n d h.long (λ k l. made_at 0 n h.each k (omega arith) (omega arith)) ∙ mapped v 0 n
