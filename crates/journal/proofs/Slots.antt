-- A record's bytes copied over a place leave the rest.
use mathlib.Core.List.{List, ◌++◌}
use mathlib.Core.Path.{◌≡◌}
use Prim.Native.Nat.{◌+◌, ◌-◌, ℕ}
use native.Mathlib.Nat.{add-sub_cancel_left}
use lib.ListN.{drop, take}
use lib.Seq.{drop-drop}

-- what is copied into the part from a on, put back
pub copied : (xs bytes ys : List ℕ) (a n : ℕ) → ys ≡ bytes
    → take a xs ++ (ys ++ drop (a + n - a) (drop a xs)) ≡ take a xs ++ (bytes ++ drop (a + n) xs)
copied xs bytes ys a n e = simp (e, add-sub_cancel_left, drop-drop)
