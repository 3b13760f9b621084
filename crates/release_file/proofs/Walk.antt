-- The walk over a file's steps ends at the first that can't be read, or at the file's end.
use mathlib.Core.Bool.{false, true}
use mathlib.Core.List.{List}
use mathlib.Core.Path.{◌∙◌, ◌≡◌, ap, refl, sym}
use Prim.Native.Nat.{◌+◌, ◌-◌, ◌<◌, ◌≤◌, suc, zero, ℕ}
use native.Mathlib.Omega.{arith}
use lib.ListN.{length}
use borrow.Author.Tests.{le-leb, lt-leb}
use Rattle.release_file.specs.Releases.{unread_in, unread_next}
use Rattle.runfile.specs.Steps.{is_unknown, kind_at, next_at, word_at}
use Rattle.runfile.specs.declared.Kind.{Kind}

pub walk_begins : (input : List ℕ) (version : ℕ) → version ≡ word_at input 3 → unread_in input ≡ unread_next (length input - 0) version input 9 0
walk_begins input version e =
    let n : length input - 0 ≡ length input = omega arith in
    rw (e, n)

module _ (version : ℕ) (input : List ℕ) (pos count : ℕ) where
  -- nothing is left to read
  pub none_unread : (n : ℕ) → length input ≤ pos → unread_next n version input pos count ≡ 0
  unfolding unread_next
  none_unread zero h = refl
  none_unread (suc n) h = simp (le-leb (length input) pos h)

  module _ (few : pos < length input) (steps : count + 9 ≤ pos) (k : Kind) (is : k ≡ kind_at version input pos) where
    here : is_unknown (kind_at version input pos) ≡ is_unknown k
    here = ap is_unknown (sym is)

    pub first_unread : is_unknown k ≡ true → unread_next (length input - count) version input pos count ≡ count + 1
    unfolding unread_next
    first_unread u =
        let n : length input - count ≡ suc (length input - (count + 1)) = omega arith in
        rw n (simp (lt-leb (length input) pos few, here ∙ u))

    pub next_unread : is_unknown k ≡ false → (end : ℕ) → end ≡ next_at version input pos
        → unread_next (length input - count) version input pos count ≡ unread_next (length input - (count + 1)) version input end (count + 1)
    unfolding unread_next
    next_unread u end e =
        rw e
        (let n : length input - count ≡ suc (length input - (count + 1)) = omega arith in
        rw n (simp (lt-leb (length input) pos few, here ∙ u)))
