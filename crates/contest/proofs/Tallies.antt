-- A position in numbers: how many correct vaults nobody has asked, and how many equivocating ones each client has left. A turn changes them in one
-- of three ways; which vaults they are does not matter.
use mathlib.Core.Bool.{Bool, true, false, not, cond, ◌&&◌}
use mathlib.Core.Logic.{◌≢◌}
use mathlib.Core.Path.{◌≡◌, refl, sym, ◌∙◌, subst}
use Prim.Native.Nat.{ℕ, zero, suc, ◌+◌, ◌<◌}
use native.Mathlib.Omega.{arith}
use borrow.Author.Tests.{eq-eqb, ne_eqb, not-true}
use Rattle.base.proofs.Reflect.{and_false, and_true, by_cases}
use Rattle.contest.proofs.Counts.{count_at, count_less, count_none, count_same, count_zero, counted}
use Rattle.contest.specs.Game.{
  Client,
  first,
  second,
  other,
  Position,
  start,
  signatures,
  ask,
  has_asked,
  may_ask,
  Stuck,
  Turn,
  asks,
  passes,
  count,
}

-- ---- what asking v tells of who has asked what
module _ (v : ℕ) (p : Position) where
  asked_here : (c : Client) → has_asked c (ask c v p) v ≡ true
  asked_here first = rw (eq-eqb v v refl)
  asked_here second = rw (eq-eqb v v refl)

  asked_elsewhere : (c d : Client) (j : ℕ) → j ≢ v → has_asked d (ask c v p) j ≡ has_asked d p j
  asked_elsewhere first first j ne = rw (ne_eqb j v ne)
  asked_elsewhere first second j ne = refl
  asked_elsewhere second first j ne = refl
  asked_elsewhere second second j ne = rw (ne_eqb j v ne)

  asked_same : (c : Client) (j : ℕ) → has_asked (other c) (ask c v p) j ≡ has_asked (other c) p j
  asked_same first j = refl
  asked_same second j = refl

  signed_one : (c : Client) → signatures c (ask c v p) ≡ 1 + signatures c p
  signed_one first = omega arith
  signed_one second = omega arith

  signed_same : (c : Client) → signatures (other c) (ask c v p) ≡ signatures (other c) p
  signed_same first = refl
  signed_same second = refl

module _ (equivocates : ℕ → Bool) where
  -- v is correct and the client may ask it
  abbrev is_free : Client → Position → ℕ → Bool
  is_free c p v = not (equivocates v) && may_ask equivocates c p v

  -- v is equivocating and the client may ask it
  abbrev is_left : Client → Position → ℕ → Bool
  is_left c p v = equivocates v && may_ask equivocates c p v

  -- a correct vault that one client may ask the other may ask too
  free_either : (c : Client) (p : Position) (v : ℕ) → is_free c p v ≡ is_free first p v
  unfolding may_ask
  free_either first p v = refl
  free_either second p v =
      by_cases (λ _. is_free second p v ≡ is_free first p v) (equivocates v)
      (λ e. rw e)
      (λ e. rw e (swap (not (has_asked second p v)) (not (has_asked first p v))))
    where
      swap : (a b : Bool) → a && b ≡ b && a
      swap true true = refl
      swap true false = refl
      swap false true = refl
      swap false false = refl

  -- ---- what may be asked after client c has asked v
  module _ (c : Client) (v : ℕ) (p : Position) where
    may_elsewhere : (d : Client) (j : ℕ) → j ≢ v → may_ask equivocates d (ask c v p) j ≡ may_ask equivocates d p j
    unfolding may_ask
    may_elsewhere d j ne = rw (asked_elsewhere v p c d j ne, asked_elsewhere v p c (other d) j ne)

    may_gone : may_ask equivocates c (ask c v p) v ≡ false
    unfolding may_ask
    may_gone = rw (asked_here v p c)

    -- the other may still ask an equivocating vault
    may_still : equivocates v ≡ true → may_ask equivocates (other c) p v ≡ may_ask equivocates (other c) (ask c v p) v
    unfolding may_ask
    may_still e = rw (e, asked_same v p c v)

module _ (n : ℕ) (equivocates : ℕ → Bool) where
  -- correct vaults that nobody has asked
  unfoldable pub free : Position → ℕ
  free p = count n (is_free equivocates first p)

  -- equivocating vaults that the client has not asked
  unfoldable pub left : Client → Position → ℕ
  left c p = count n (is_left equivocates c p)

  -- what c's turn changes, while w waits: so many correct and equivocating vaults are taken, and so many signatures got
  pub record Change (c w : Client) (p q : Position) (correct equivocating got : ℕ) : Type 0 where
    pub taken : free p ≡ correct + free q
    pub spent : left c p ≡ equivocating + left c q
    pub kept : left w p ≡ left w q
    pub signed : signatures c q ≡ got + signatures c p
    pub waited : signatures w q ≡ signatures w p

  pub data Effect (c w : Client) (p q : Position) : Type 0 where
    correct : Change c w p q 1 0 1 → Effect c w p q
    equivocating : Change c w p q 0 1 1 → Effect c w p q
    passed : free p ≡ 0 → left c p ≡ 0 → Change c w p q 0 0 0 → Effect c w p q

  -- ---- client c asks v
  module _ (c : Client) (p : Position) (v : ℕ) (below : v < n) (may : may_ask equivocates c p v ≡ true) where
    free_elsewhere : (j : ℕ) → j ≢ v → is_free equivocates first (ask c v p) j ≡ is_free equivocates first p j
    free_elsewhere j ne = rw (may_elsewhere equivocates c v p first j ne)

    left_elsewhere : (d : Client) (j : ℕ) → j ≢ v → is_left equivocates d (ask c v p) j ≡ is_left equivocates d p j
    left_elsewhere d j ne = rw (may_elsewhere equivocates c v p d j ne)

    ask_correct : equivocates v ≡ false → Change c (other c) p (ask c v p) 1 0 1
    unfolding free left
    ask_correct e =
        record {
          taken = count_less _ _ n v below here gone free_elsewhere;
          spent = omega (arith, unspent c);
          kept = unspent (other c);
          signed = signed_one v p c;
          waited = signed_same v p c;
        }
      where
        here : is_free equivocates first p v ≡ true
        here = sym (free_either equivocates c p v) ∙ rw (e, may)

        gone : is_free equivocates first (ask c v p) v ≡ false
        gone = sym (free_either equivocates c (ask c v p) v) ∙ rw (may_gone equivocates c v p) (and_false (not (equivocates v)))

        unspent : (d : Client) → left d p ≡ left d (ask c v p)
        unspent d = count_at _ _ n v (rw e) (left_elsewhere d)

    ask_equivocating : equivocates v ≡ true → Change c (other c) p (ask c v p) 0 1 1
    unfolding free left
    ask_equivocating e =
        record {
          taken = omega (arith, untaken);
          spent = count_less _ _ n v below (rw (e, may)) (rw (may_gone equivocates c v p) (and_false (equivocates v))) (left_elsewhere c);
          kept = count_at _ _ n v (rw (may_still equivocates c v p e)) (left_elsewhere (other c));
          signed = signed_one v p c;
          waited = signed_same v p c;
        }
      where
        untaken : free p ≡ free (ask c v p)
        untaken = count_at _ _ n v (rw e) free_elsewhere

    ask_effect : Effect c (other c) p (ask c v p)
    ask_effect =
        by_cases (λ _. Effect c (other c) p (ask c v p)) (equivocates v) (λ e. equivocating (ask_equivocating e)) (λ e. correct (ask_correct e))

  -- a client is stuck exactly where nothing is left for it
  stuck_none : (c : Client) (p : Position) → Stuck n equivocates c p → (free p ≡ 0) × (left c p ≡ 0)
  unfolding free left
  stuck_none c p s = (
    count_none _ n (λ v l. sym (free_either equivocates c p v) ∙ rw (s v l) (and_false (not (equivocates v)))),
    count_none _ n (λ v l. rw (s v l) (and_false (equivocates v))),
  )

  pub none_stuck : (c : Client) (p : Position) → free p ≡ 0 → left c p ≡ 0 → Stuck n equivocates c p
  unfolding free left
  none_stuck c p f e v l =
      by_cases (λ _. may_ask equivocates c p v ≡ false) (equivocates v)
      (λ d. sym (rw d) ∙ count_zero _ n e v l)
      (λ d. sym (rw d) ∙ free_either equivocates c p v ∙ count_zero _ n f v l)

  pub effect : (c : Client) (p q : Position) → Turn n equivocates c p q → Effect c (other c) p q
  effect c p q (asks v l m e) = subst (Effect c (other c) p) e (ask_effect c p v l m)
  effect c p q (passes s e) =
      let h = stuck_none c p s in
      subst (Effect c (other c) p) e
      (passed h.0 h.1 (record { taken = omega arith; spent = omega arith; kept = refl; signed = omega arith; waited = refl }))

  -- a correct vault that nobody has asked can be asked
  pub free_turn : (c : Client) (p : Position) → 0 < free p → (q : Position) × Turn n equivocates c p q × Change c (other c) p q 1 0 1
  unfolding free
  free_turn c p l =
      let v = counted _ n l in
      let m = and_true (not (equivocates v.which)) _ (free_either equivocates c p v.which ∙ v.has) in
      (ask c v.which p, asks v.which v.below m.1 refl, ask_correct c p v.which v.below m.1 (not-true _ m.0))

  -- ---- at the start all is left
  pub free_start : free start + count n equivocates ≡ n
  unfolding free may_ask count
  free_start = all n
    where
      all : (k : ℕ) → count k (is_free equivocates first start) + count k equivocates ≡ k
      all zero = omega arith
      all (suc k) =
          let h = all k in
          by_cases
          (λ b. cond (not b && cond b true true) 1 0 + count k (is_free equivocates first start) + (cond b 1 0 + count k equivocates) ≡ suc k)
          (equivocates k) (λ _. omega arith) (λ _. omega arith)

  same : (b : Bool) → b && cond b true true ≡ b
  same true = refl
  same false = refl

  pub left_start : (c : Client) → left c start ≡ count n equivocates
  unfolding left may_ask
  left_start c = count_same _ _ n (λ v _. by c v)
    where
      by : (c : Client) (v : ℕ) → is_left equivocates c start v ≡ equivocates v
      by first v = same (equivocates v)
      by second v = same (equivocates v)
