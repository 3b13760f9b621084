-- The position in a slice of the first item that passes is the search that a contract names.
use Rattle.std.specs.Prelude.{◌≡◌, Bool, true, false, ℕ, ◌<◌, ◌≤◌, length, take, Option, Some, None, get_or, List}
use Rattle.std.specs.Option.{MatchOption}
use Rattle.std.specs.List.{AllWithin, HoldsAt}
use Rattle.std.specs.Iterator.{FindsPosition, ActsAs}
use Rattle.std.specs.declared.slice.Iter.{Iter}
use Rattle.std.specs.Slice.Iter.{iter_rest}
use Rattle.std.proofs.iter.Yields.{fronts}
use Rattle.std.proofs.lemmas.Iterator.{IsFirst-from_position, YieldsList-from_slice}
use denote.Param.Members.{Mut}
use denote.Ref.{Bor}
use mathlib.Core.Path.{sym, ◌∙◌, ap}
use native.Mathlib.Omega.{arith}
use lib.ListN.{length-take}
use lib.Seq.{get_or-take}
use Rattle.base.proofs.Search.{first_is, first_none, first_same, none_any}
use Rattle.base.specs.Search.{FirstFound, first_below}

pub first_of_slice : {F : Type 0} {g : Mut F (Bor ℕ × Unit {0}) Bool} {s : Iter ℕ} (u : Iter ℕ) (f : F) (xs : List ℕ) (r : Option ℕ) (p : ℕ → Bool)
    → iter_rest s ≡ xs → ActsAs g f (λ x. p x.now) → FindsPosition fronts g s f r u → FirstFound (length xs) (λ i. p (get_or xs i 0)) r
first_of_slice u f xs r p from acts ran =
    by r (IsFirst-from_position u f r (λ x. p x ≡ true) (λ x. p x ≡ false) ran (YieldsList-from_slice xs from)
    (λ x q k. sym (acts x true q k).1) (λ x q k. let h = acts x false q k in (h.0, sym h.1)))
  where
    by : (o : Option ℕ)
        → MatchOption o (AllWithin (λ x. p x ≡ false) xs 0 (length xs))
        (λ i. (i < length xs) × HoldsAt (λ x. p x ≡ true) xs i × AllWithin (λ x. p x ≡ false) xs 0 i)
        → FirstFound (length xs) (λ i. p (get_or xs i 0)) o
    by None h = first_none _ (length xs) (none_any _ (length xs) (λ i l. h i 0 (omega arith) l))
    by (Some i) h = (h.0, first_is _ (length xs) i h.0 (none_any _ i (λ k m. h.2 k 0 (omega arith) m)) (h.1 0))

-- the same of its first n items
pub first_of_front : (xs : List ℕ) (n : ℕ) (r : Option ℕ) (p : ℕ → Bool) → n ≤ length xs
    → FirstFound (length (take n xs)) (λ i. p (get_or (take n xs) i 0)) r → FirstFound n (λ i. p (get_or xs i 0)) r
first_of_front xs n r p l h = by r (rw size at h)
  where
    size : length (take n xs) ≡ n
    size = simp length-take (omega arith)

    same : first_below n (λ i. p (get_or (take n xs) i 0)) ≡ first_below n (λ i. p (get_or xs i 0))
    same = first_same _ _ n (λ i b. ap p (get_or-take n xs i 0 b))

    by : (o : Option ℕ) → FirstFound n (λ i. p (get_or (take n xs) i 0)) o → FirstFound n (λ i. p (get_or xs i 0)) o
    by None e = sym same ∙ e
    by (Some i) e = (e.0, sym same ∙ e.1)
