-- Laws of membership: of lists joined, mapped, kept in part, and of distinct elements. A test over a list decides the
-- claim over its elements. Distinct elements that all stand in another list add up to no more than it, so distinct
-- numbers below a bound are no more than the bound.
use mathlib.Core.Bool.{Bool, ◌&&◌, ◌||◌, cond, false, not, true, true≢false}
use mathlib.Core.List.{List, [], ◌++◌, ◌∷◌, map}
use mathlib.Core.Logic.{◌⊎◌, inl, inr, ⊎_elim}
use mathlib.Core.Path.{◌∙◌, ◌≡◌, ap, ap₂, refl, subst, sym}
use Prim.Native.Nat.{◌+◌, ◌<◌, ◌≤◌, suc, zero, ℕ}
use native.Mathlib.Nat.{le_of_suc-le-suc, le_refl, not-suc-le-zero}
use native.Mathlib.Omega.{arith}
use lib.Dec.{eqb}
use lib.ListN.{get_or, length}
use borrow.Author.Tests.{eq-eqb}
use Rattle.base.proofs.Reflect.{and_true, by_cases, by_test, not_true_false, or_intro, or_true, reflect_eq, reflect_false, refuted, refutes}
use Rattle.base.specs.Lists.{Distinct, In, all_in, any_in, keep_if, total}
use Rattle.base.specs.Reflect.{Reflects}

module _ {A : Type 0} where
  -- ---- tests over a list
  pub any_in_lem : (p : A → Bool) (l : List A) (x : A) → In x l → p x ≡ true → any_in p l ≡ true
  any_in_lem p (y ∷ l) x (inl e) t = or_intro (p y) (any_in p l) (inl (sym (ap p e) ∙ t))
  any_in_lem p (y ∷ l) x (inr m) t = or_intro (p y) (any_in p l) (inr (any_in_lem p l x m t))
  any_in_lem p [] x x4 t = elim x4 [ ]

  pub in_any : (p : A → Bool) (l : List A) → any_in p l ≡ true → (x : A) × In x l × (p x ≡ true)
  in_any p [] t = absurd (true≢false (sym t))
  in_any p (y ∷ l) t =
      ⊎_elim (λ h. (y, inl refl, h)) (λ h. let r = in_any p l h in (r.0, inr r.1, r.2)) (or_true (p y) (any_in p l) t)

  pub in_none : (p : A → Bool) (l : List A) → ((x : A) → In x l → p x ≡ false) → any_in p l ≡ false
  in_none p l h = not_true_false (any_in p l) (λ t. let r = in_any p l t in true≢false (sym r.2 ∙ h r.0 r.1))

  pub all_in_lem : (p : A → Bool) (l : List A) → all_in p l ≡ true → (x : A) → In x l → p x ≡ true
  all_in_lem p (y ∷ l) t x (inl e) = ap p e ∙ (and_true (p y) (all_in p l) t).0
  all_in_lem p (y ∷ l) t x (inr m) = all_in_lem p l (and_true (p y) (all_in p l) t).1 x m
  all_in_lem p [] t x x4 = elim x4 [ ]

  pub in_all : (p : A → Bool) (l : List A) → ((x : A) → In x l → p x ≡ true) → all_in p l ≡ true
  in_all p [] h = refl
  in_all p (y ∷ l) h = simp (h y (inl refl), in_all p l (λ x m. h x (inr m)))

  pub reflect_all_in : {p : A → Bool} {P : A → Type 0} (l : List A) → ((x : A) → Reflects (p x) (P x)) → Reflects (all_in p l) ((x : A) → In x l → P x)
  reflect_all_in {p} l r = record {
    sound = λ e x m. (r x).sound (all_in_lem p l e x m);
    complete = λ h. in_all p l (λ x m. (r x).complete (h x m));
  }

  -- a test for being equal to an element is one for membership
  pub reflect_member : {same : A → Bool} (x : A) (l : List A) → ((y : A) → Reflects (same y) (x ≡ y)) → Reflects (any_in same l) (In x l)
  reflect_member {same} x l r = record {
    sound = λ e. let h = in_any same l e in subst (λ (y : A). In y l) (sym ((r h.0).sound h.2)) h.1;
    complete = λ m. any_in_lem same l x m ((r x).complete refl);
  }

  -- ---- joined lists
  pub in_append : (l m : List A) (x : A) → In x (l ++ m) → In x l ⊎ In x m
  in_append [] m x h = inr h
  in_append (y ∷ l) m x (inl e) = inl (inl e)
  in_append (y ∷ l) m x (inr h) = ⊎_elim (λ a. inl (inr a)) (λ b. inr b) (in_append l m x h)

  pub in_left : (l m : List A) (x : A) → In x l → In x (l ++ m)
  in_left (y ∷ l) m x (inl e) = inl e
  in_left (y ∷ l) m x (inr h) = inr (in_left l m x h)
  in_left [] m x x3 = elim x3 [ ]

  pub in_right : (l m : List A) (x : A) → In x m → In x (l ++ m)
  in_right [] m x h = h
  in_right (y ∷ l) m x h = inr (in_right l m x h)

  pub in_last : (l : List A) (a : A) → In a (l ++ (a ∷ []))
  in_last l a = in_right l (a ∷ []) a (inl refl)

  pub in_snoc : (l : List A) (a x : A) → In x (l ++ (a ∷ [])) → In x l ⊎ (x ≡ a)
  in_snoc l a x h = ⊎_elim (λ m. inl m) (⊎_elim (λ e. inr e) (λ z. absurd z)) (in_append l (a ∷ []) x h)

  pub distinct_append : (l m : List A) → Distinct l → Distinct m → ((x : A) → In x l → In x m → ⊥) → Distinct (l ++ m)
  distinct_append [] m dl dm h = dm
  distinct_append (x ∷ l) m (nx, dl) dm h =
      ((λ (i : In x (l ++ m)). ⊎_elim nx (h x (inl refl)) (in_append l m x i)), distinct_append l m dl dm (λ y a b. h y (inr a) b))

  pub distinct_snoc : (l : List A) (a : A) → Distinct l → (In a l → ⊥) → Distinct (l ++ (a ∷ []))
  distinct_snoc l a d n =
      distinct_append l (a ∷ []) d ((λ (i : ⊥). i), tt) (λ x m e. ⊎_elim (λ (q : x ≡ a). n (subst (λ (y : A). In y l) q m)) (λ z. z) e)

  pub distinct_left : (l m : List A) → Distinct (l ++ m) → Distinct l
  distinct_left [] m d = tt
  distinct_left (x ∷ l) m (nx, d) = ((λ (i : In x l). nx (in_left l m x i)), distinct_left l m d)

  pub distinct_right : (l m : List A) → Distinct (l ++ m) → Distinct m
  distinct_right [] m d = d
  distinct_right (x ∷ l) m (nx, d) = distinct_right l m d

  pub distinct_apart : (l m : List A) → Distinct (l ++ m) → (x : A) → In x l → In x m → ⊥
  distinct_apart (y ∷ l) m (ny, d) x (inl e) b = ny (in_right l m y (subst (λ (z : A). In z m) e b))
  distinct_apart (y ∷ l) m (ny, d) x (inr a) b = distinct_apart l m d x a b
  distinct_apart [] m _ x x6 b = elim x6 [ ]

  pub total_append : (w : A → ℕ) (l m : List A) → total w (l ++ m) ≡ total w l + total w m
  total_append w [] m = omega arith
  total_append w (x ∷ l) m = omega (arith, total_append w l m)

  pub length_total : (l : List A) → length l ≡ total (λ (x : A). 1) l
  length_total [] = refl
  length_total (x ∷ l) = omega (arith, length_total l)

  -- ---- places
  pub in_get_d : (l : List A) (d : A) (i : ℕ) → i < length l → In (get_or l i d) l
  in_get_d [] d i h = absurd (not-suc-le-zero h)
  in_get_d (x ∷ l) d zero h = inl refl
  in_get_d (x ∷ l) d (suc i) h = inr (in_get_d l d i (le_of_suc-le-suc h))

  pub get_d_in : (l : List A) (d x : A) → In x l → (i : ℕ) × (i < length l) × (get_or l i d ≡ x)
  get_d_in (y ∷ l) d x (inl e) = (zero, omega arith, sym e)
  get_d_in (y ∷ l) d x (inr m) = let r = get_d_in l d x m in (suc r.0, omega (arith, r.1), r.2)
  get_d_in [] d x x3 = elim x3 [ ]

  -- ---- the elements that pass
  pub keep_in : (p : A → Bool) (l : List A) (x : A) → In x (keep_if p l) → In x l × (p x ≡ true)
  keep_in p (y ∷ l) x m =
      let rest : In x (keep_if p l) → In x (y ∷ l) × (p x ≡ true) = λ i. let r = keep_in p l x i in (inr r.0, r.1) in
      by_cases (λ b. In x (cond b (y ∷ keep_if p l) (keep_if p l)) → In x (y ∷ l) × (p x ≡ true)) (p y)
      (λ e. ⊎_elim (λ q. (inl q, ap p q ∙ e)) rest) (λ e. rest) m
  keep_in p [] x m = elim m [ ]

  pub in_keep : (p : A → Bool) (l : List A) (x : A) → In x l → p x ≡ true → In x (keep_if p l)
  in_keep p (y ∷ l) x m t =
      by_cases (λ b. In x (cond b (y ∷ keep_if p l) (keep_if p l))) (p y)
      (λ e. ⊎_elim (λ q. inl q) (λ i. inr (in_keep p l x i t)) m)
      (λ e. ⊎_elim (λ q. absurd (true≢false (sym t ∙ ap p q ∙ e))) (λ i. in_keep p l x i t) m)
  in_keep p [] x m t = elim m [ ]

  pub keep_same : (p q : A → Bool) (l : List A) → ((x : A) → In x l → p x ≡ q x) → keep_if p l ≡ keep_if q l
  keep_same p q [] h = refl
  keep_same p q (x ∷ l) h = ap₂ (λ (b : Bool) (t : List A). cond b (x ∷ t) t) (h x (inl refl)) (keep_same p q l (λ y m. h y (inr m)))

  pub keep_keep : (p q : A → Bool) (l : List A) → keep_if p (keep_if q l) ≡ keep_if (λ x. q x && p x) l
  keep_keep p q [] = refl
  keep_keep p q (x ∷ l) =
      let both : List A = keep_if (λ x. q x && p x) l in
      by_cases (λ b. keep_if p (cond b (x ∷ keep_if q l) (keep_if q l)) ≡ cond (b && p x) (x ∷ both) both) (q x)
      (λ e. ap (λ (t : List A). cond (p x) (x ∷ t) t) (keep_keep p q l)) (λ e. keep_keep p q l)

  pub keep_all : (p : A → Bool) (l : List A) → ((x : A) → In x l → p x ≡ true) → keep_if p l ≡ l
  keep_all p [] h = refl
  keep_all p (x ∷ l) h = simp (h x (inl refl), keep_all p l (λ y m. h y (inr m)))

  pub distinct_keep : (p : A → Bool) (l : List A) → Distinct l → Distinct (keep_if p l)
  distinct_keep p [] d = tt
  distinct_keep p (x ∷ l) (nx, d) =
      by_cases (λ b. Distinct (cond b (x ∷ keep_if p l) (keep_if p l))) (p x)
      (λ e. ((λ (i : In x (keep_if p l)). nx (keep_in p l x i).0), distinct_keep p l d)) (λ e. distinct_keep p l d)

module _ {A B : Type 0} (f : A → B) where
  pub in_map : (l : List A) (x : A) → In x l → In (f x) (map f l)
  in_map (y ∷ l) x (inl e) = inl (ap f e)
  in_map (y ∷ l) x (inr m) = inr (in_map l x m)
  in_map [] x x3 = elim x3 [ ]

  pub map_in : (l : List A) (b : B) → In b (map f l) → (x : A) × In x l × (b ≡ f x)
  map_in (y ∷ l) b (inl e) = (y, inl refl, e)
  map_in (y ∷ l) b (inr m) = let r = map_in l b m in (r.0, inr r.1, r.2)
  map_in [] b x' = elim x' [ ]

  pub map_append : (l m : List A) → map f (l ++ m) ≡ map f l ++ map f m
  map_append [] m = refl
  map_append (x ∷ l) m = ap (λ (r : List B). f x ∷ r) (map_append l m)

  pub distinct_map : (l : List A) → Distinct (map f l) → Distinct l
  distinct_map [] d = tt
  distinct_map (x ∷ l) (nx, d) = ((λ (i : In x l). nx (in_map l x i)), distinct_map l d)

  -- elements with one image are one, where no image stands twice
  pub image_once : (l : List A) → Distinct (map f l) → (x y : A) → In x l → In y l → f x ≡ f y → x ≡ y
  image_once (z ∷ l) (nz, d) x y (inl e) (inl q) h = e ∙ sym q
  image_once (z ∷ l) (nz, d) x y (inl e) (inr m) h = absurd (nz (subst (λ (b : B). In b (map f l)) (sym h ∙ ap f e) (in_map l y m)))
  image_once (z ∷ l) (nz, d) x y (inr m) (inl q) h = absurd (nz (subst (λ (b : B). In b (map f l)) (h ∙ ap f q) (in_map l x m)))
  image_once (z ∷ l) (nz, d) x y (inr m) (inr n) h = image_once l d x y m n h
  image_once [] _ x y x7 _ h = elim x7 [ ]

  pub distinct_map_keep : (p : A → Bool) (l : List A) → Distinct (map f l) → Distinct (map f (keep_if p l))
  distinct_map_keep p [] d = tt
  distinct_map_keep p (x ∷ l) (nx, d) =
      by_cases (λ b. Distinct (map f (cond b (x ∷ keep_if p l) (keep_if p l)))) (p x)
      (λ e. (
        (λ (i : In (f x) (map f (keep_if p l))).
            let q = map_in (keep_if p l) (f x) i in
            nx (subst (λ (b : B). In b (map f l)) (sym q.2) (in_map l q.0 (keep_in p l q.0 q.1).0))),
        distinct_map_keep p l d,
      ))
      (λ e. distinct_map_keep p l d)

-- ---- taking distinct elements away
module _ {A : Type 0} (same : A → A → Bool) (r : (x y : A) → Reflects (same x y) (x ≡ y)) where
  others : A → List A → List A
  others x l = keep_if (λ y. not (same x y)) l

  without_one : (w : A → ℕ) (x : A) (l : List A) → Distinct l → In x l → total w (others x l) + w x ≡ total w l
  unfolding others
  without_one w x (z ∷ l) (nz, d) m =
      let rest = keep_if (λ y. not (same x y)) l in
      by_cases (λ b. total w (cond (not b) (z ∷ rest) rest) + w x ≡ w z + total w l) (same x z)
      (λ e. let q = (r x z).sound e in omega (arith, ap (total w) (absent q), ap w q))
      (λ e. ⊎_elim (λ q. absurd (refuted (r x z) e q)) (λ i. omega (arith, without_one w x l d i)) m)
    where
      absent : x ≡ z → keep_if (λ y. not (same x y)) l ≡ l
      absent e = keep_all (λ y. not (same x y)) l
          (λ y i. simp (refutes (r x y) (λ (q : x ≡ y). nz (subst (λ (a : A). In a l) (sym q ∙ e) i))))
  without_one w x [] _ m = elim m [ ]

  -- the list without distinct elements of it weighs so much less
  pub without_total : (w : A → ℕ) (xs l : List A) → Distinct l → Distinct xs → ((x : A) → In x xs → In x l)
      → total w (keep_if (λ y. not (any_in (λ x. same x y) xs)) l) + total w xs ≡ total w l
  unfolding others
  without_total w [] l d dx h = omega (arith, ap (total w) (keep_all (λ y. true) l (λ y m. refl)))
  without_total w (x ∷ xs) l d (nx, dx) h =
      let rest = without_total w xs (others x l) (distinct_keep (λ y. not (same x y)) l d) dx
      (λ y m. in_keep (λ y. not (same x y)) l y (h y (inr m)) (simp (refutes (r x y) (λ (q : x ≡ y). nx (subst (λ (a : A). In a xs) (sym q) m))))) in
      let cut : keep_if (λ y. not (any_in (λ x. same x y) xs)) (others x l) ≡ keep_if (λ y. not (same x y || any_in (λ x. same x y) xs)) l =
      keep_keep (λ y. not (any_in (λ x. same x y) xs)) (λ y. not (same x y)) l
      ∙ keep_same (λ y. not (same x y) && not (any_in (λ x. same x y) xs)) (λ y. not (same x y || any_in (λ x. same x y) xs)) l
      (λ y m. de_morgan (same x y) (any_in (λ x. same x y) xs)) in
      omega (arith, rest, ap (total w) cut, without_one w x l d (h x (inl refl)))
    where
      de_morgan : (a b : Bool) → (not a && not b) ≡ not (a || b)
      de_morgan true b = refl
      de_morgan false b = refl

-- distinct numbers below a bound are no more than the bound
pub pigeons : (n : ℕ) (l : List ℕ) → Distinct l → ((k : ℕ) → In k l → k < n) → length l ≤ n
unfolding others
pigeons zero [] d h = le_refl 0
pigeons zero (x ∷ l) d h = absurd (not-suc-le-zero (h x (inl refl)))
pigeons (suc n) l d h =
    by_test (any_in (eqb n) l)
    (λ e.
    let m : List ℕ = keep_if (λ y. not (eqb n y)) l in
    let less : length m ≤ n =
    pigeons n m (distinct_keep (λ y. not (eqb n y)) l d)
    (smaller m (λ k i. (keep_in (λ y. not (eqb n y)) l k i).0)
    (λ i. true≢false (sym (eq-eqb n n refl) ∙ (reflect_false (eqb n n)).sound (keep_in (λ y. not (eqb n y)) l n i).1))) in
    omega (arith, less, length_total l, length_total m, without_one eqb reflect_eq (λ (x : ℕ). 1) n l d ((reflect_member n l (reflect_eq n)).sound e)))
    (λ e.
    let less : length l ≤ n = pigeons n l d (smaller l (λ k i. i) (refuted (reflect_member n l (reflect_eq n)) e)) in
    omega (arith, less))
  where
    smaller : (m : List ℕ) → ((k : ℕ) → In k m → In k l) → (In n m → ⊥) → (k : ℕ) → In k m → k < n
    smaller m sub none k i =
        let ne : k ≡ n → ⊥ = λ (e : k ≡ n). none (subst (λ (z : ℕ). In z m) e i) in
        omega (arith, h k (sub k i))
