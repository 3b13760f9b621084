-- A set that was written is read again: after the members below i, the set so far has exactly the members of the set below i.
use mathlib.Core.Bool.{Bool, ◌&&◌, false, true, true≢false}
use mathlib.Core.List.{List, [], ◌++◌, ◌∷◌, append_assoc}
use mathlib.Core.Path.{◌∙◌, ◌≡◌, ap, refl, sym}
use Prim.Native.Nat.{◌+◌, ◌<◌, ◌^◌, suc, zero, ℕ}
use native.Mathlib.Omega.{arith}
use lib.Dec.{eqb, ltb}
use borrow.Author.Tests.{eqb-false, eqb-true, le-ltb, lt-ltb, ltb-false, ltb-true}
use Rattle.base.proofs.Reflect.{and_true, by_test}
use Rattle.base.specs.Lists.{same_list}
use Rattle.sets.proofs.Bits.{has_member_other, has_member_same, has_none, member_lt, members_same}
use Rattle.sets.specs.Bits.{has_bit, with_member}
use Rattle.digits.specs.Digits.{decimal}
use Rattle.rows.specs.Items.{Token, fault, fine, listed, no_number, numbers_in, says_none, set_in, set_text}
use Rattle.rows.specs.Table.{letters}
use Rattle.rows.proofs.Numbers.{decimal_in, ended, ends_head}

-- s has the members of v below i
Upto : ℕ → ℕ → ℕ → Type 0
Upto i v s = (j : ℕ) → j < 16 → has_bit s j ≡ (ltb j i && has_bit v j)

same_test : (i j : ℕ) → (j ≡ i → ⊥) → ltb j i ≡ ltb j (suc i)
same_test i j ne =
    by_test (ltb j i) (λ e. e ∙ sym (lt-ltb j (suc i) (omega (arith, ltb-true j i e))))
    (λ e. e ∙ sym (le-ltb j (suc i) (omega (arith, ltb-false j i e))))

at_or_not : {P : Type 0} (i j : ℕ) → (j ≡ i → P) → ((j ≡ i → ⊥) → P) → P
at_or_not i j f g = by_test (eqb j i) (λ e. f (eqb-true j i e)) (λ e. g (eqb-false j i e))

comma : (s m : ℕ) (l : List ℕ) → numbers_in true 16 true s m (44 ∷ l) ≡ numbers_in true 16 false (with_member 16 s m) 0 l
unfolding numbers_in Rattle.rows.specs.Items.between
comma s m l = refl

module _ (v : ℕ) where
  taken : (i s : ℕ) → i < 16 → has_bit v i ≡ true → Upto i v s → Upto (suc i) v (with_member 16 s i)
  unfolding Upto
  taken i s l h u j m =
      at_or_not i j (λ e. rw e (has_member_same 16 s i l ∙ sym (simp (lt-ltb i (suc i) (omega arith), h))))
      (λ ne. has_member_other 16 s i j ne ∙ u j m ∙ ap (λ (b : Bool). b && has_bit v j) (same_test i j ne))

  passed : (i s : ℕ) → has_bit v i ≡ false → Upto i v s → Upto (suc i) v s
  unfolding Upto
  passed i s h u j m =
      at_or_not i j (λ e. rw e (u i (rw e at m) ∙ simp (h, le-ltb i i (omega arith), lt-ltb i (suc i) (omega arith))))
      (λ ne. u j m ∙ ap (λ (b : Bool). b && has_bit v j) (same_test i j ne))

  whole : (s : ℕ) → v < 2 ^ 16 → s < 2 ^ 16 → Upto 16 v s → s ≡ v
  unfolding Upto
  whole s f g u = members_same 16 s v g f (λ j m. u j m ∙ simp (lt-ltb j 16 m))

  module _ (rest : List ℕ) (stop : ends_head rest ≡ true) (fit : v < 2 ^ 16) where
    -- the members after one that was read
    later : (n i s m : ℕ) → n + i ≡ 16 → s < 2 ^ 16 → Upto i v (with_member 16 s m)
        → numbers_in true 16 true s m (listed n i v false ++ rest) ≡ fine v rest
    unfolding listed
    later zero i s m e g u =
        let w : i ≡ 16 = omega arith in
        ended true 16 s m rest stop
        ∙ ap (λ (x : ℕ). fine x rest) (whole (with_member 16 s m) fit (member_lt 16 s m g) (rw w at u))
    later (suc n) i s m e g u =
        by_test (has_bit v i)
        (λ h.
        let t = with_member 16 s m in
        rw (h, append_assoc (decimal i) (listed n (suc i) v false) rest)
        (comma s m (decimal i ++ (listed n (suc i) v false ++ rest))
        ∙ decimal_in true 16 t i false (listed n (suc i) v false ++ rest) (omega arith)
        ∙ later n (suc i) t i (omega arith) (member_lt 16 s m g) (taken i t (omega arith) h u)))
        (λ h. rw h (later n (suc i) s m (omega arith) g (passed i (with_member 16 s m) h u)))

    first : (n i : ℕ) → n + i ≡ 16 → (v ≡ 0 → ⊥) → Upto i v 0 → numbers_in true 16 false 0 0 (listed n i v true ++ rest) ≡ fine v rest
    unfolding listed
    first zero i e ne u =
        let w : i ≡ 16 = omega arith in
        absurd (ne (sym (whole 0 fit (omega arith) (rw w at u))))
    first (suc n) i e ne u =
        by_test (has_bit v i)
        (λ h.
        rw (h, append_assoc (decimal i) (listed n (suc i) v false) rest)
        (decimal_in true 16 0 i false (listed n (suc i) v false ++ rest) (omega arith)
        ∙ later n (suc i) 0 i (omega arith) (omega arith) (taken i 0 (omega arith) h u)))
        (λ h. rw h (first n (suc i) (omega arith) ne (passed i 0 h u)))

nothing : (v : ℕ) → Upto 0 v 0
unfolding Upto
nothing v j m = has_none j ∙ sym (simp (le-ltb j 0 (omega arith)))

-- where the empty set is said there is no number
none_said : (l : List ℕ) → says_none l ≡ true → numbers_in true 16 false 0 0 l ≡ fault no_number l
unfolding says_none same_list numbers_in Rattle.rows.specs.Items.between
none_said [] h = absurd (true≢false (sym h))
none_said (c ∷ l) h = rw (eqb-true c 110 (and_true (eqb c 110) _ h).0)

none_in : (rest : List ℕ) → set_in (letters "none" ++ rest) ≡ fine 0 rest
unfolding set_in says_none same_list
none_in rest = refl

some_in : (l rest : List ℕ) (v : ℕ) → numbers_in true 16 false 0 0 l ≡ fine v rest → set_in l ≡ fine v rest
unfolding set_in
some_in l rest v h =
    by_test (says_none l)
    (λ t. let z : ◌≡◌ {A = ℕ} 1 0 = ap (λ (k : Token). k.reason) (sym (none_said l t) ∙ h) in absurd (omega arith))
    (λ t. rw t h)

pub set_in_lem : (v : ℕ) (rest : List ℕ) → ends_head rest ≡ true → v < 2 ^ 16 → set_in (set_text v ++ rest) ≡ fine v rest
unfolding set_text
set_in_lem v rest stop fit =
    by_test (eqb v 0) (λ e. rw e (none_in rest ∙ ap (λ (x : ℕ). fine x rest) (sym (eqb-true v 0 e))))
    (λ e. rw e (some_in (listed 16 0 v true ++ rest) rest v (first v rest stop fit 16 0 refl (eqb-false v 0 e) (nothing v))))
