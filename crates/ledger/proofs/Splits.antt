-- A list that ends in one more element, cut at an element: the cut is at the last one, or it is one of the list before.
use mathlib.Core.List.{List, [], ◌++◌, ◌∷◌}
use mathlib.Core.Logic.{◌⊎◌, inl, inr, ⊎_elim}
use mathlib.Core.Path.{◌≡◌, ap, ap₂, refl, sym}
use native.Mathlib.Omega.{arith}
use lib.ListN.{drop, get_or, length, length-append}

module _ {A : Type 0} where
  pub first_same : (x y : A) (xs ys : List A) → ◌≡◌ {A = List A} (x ∷ xs) (y ∷ ys) → x ≡ y
  first_same x y xs ys e = ap (λ (l : List A). get_or l 0 x) e

  pub rest_same : (x y : A) (xs ys : List A) → ◌≡◌ {A = List A} (x ∷ xs) (y ∷ ys) → xs ≡ ys
  rest_same x y xs ys e = ap (λ (l : List A). drop 1 l) e

  pub empty_uncut : (ys zs : List A) (k : A) → ◌≡◌ {A = List A} [] (ys ++ (k ∷ zs)) → ⊥
  empty_uncut ys zs k e = absurd (omega (arith, ap length e, length-append ys (k ∷ zs)))

  -- the cut is at the last element
  pub record CutLast (xs : List A) (x : A) (ys : List A) (k : A) (zs : List A) : Type 0 where
    pub before : ys ≡ xs
    pub last : k ≡ x
    pub none : zs ≡ []

  -- or it is one of the list before
  pub record CutBefore (xs : List A) (x : A) (ys : List A) (k : A) (zs : List A) : Type 0 where
    pub fewer : List A
    pub split : xs ≡ ys ++ (k ∷ fewer)
    pub more : zs ≡ fewer ++ (x ∷ [])

  pub cut : (xs : List A) (x : A) (ys : List A) (k : A) (zs : List A) → xs ++ (x ∷ []) ≡ ys ++ (k ∷ zs) → CutLast xs x ys k zs ⊎ CutBefore xs x ys k zs
  cut [] x [] k zs e = inl (record { before = refl; last = sym (first_same x k [] zs e); none = sym (rest_same x k [] zs e) })
  cut [] x (y ∷ ys) k zs e = absurd (empty_uncut ys zs k (rest_same x y [] (ys ++ (k ∷ zs)) e))
  cut (a ∷ xs) x [] k zs e =
      inr (record { fewer = xs; split = ap (λ (z : A). z ∷ xs) (first_same a k (xs ++ (x ∷ [])) zs e); more = sym (rest_same a k (xs ++ (x ∷ [])) zs e) })
  cut (a ∷ xs) x (y ∷ ys) k zs e =
      let same = first_same a y (xs ++ (x ∷ [])) (ys ++ (k ∷ zs)) e in
      ⊎_elim
      (λ (h : CutLast xs x ys k zs). inl (record { before = ap₂ (λ (z : A) (l : List A). z ∷ l) (sym same) h.before; last = h.last; none = h.none }))
      (λ (h : CutBefore xs x ys k zs). inr (record { fewer = h.fewer; split = ap₂ (λ (z : A) (l : List A). z ∷ l) same h.split; more = h.more }))
      (cut xs x ys k zs (rest_same a y (xs ++ (x ∷ [])) (ys ++ (k ∷ zs)) e))
