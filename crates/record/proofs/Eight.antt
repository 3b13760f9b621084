-- A job has eight entries, and past the eighth there is none.
use mathlib.Core.List.{List, map}
use mathlib.Core.Path.{◌∙◌, ◌≡◌, sym}
use Prim.Native.Nat.{◌≤◌, ℕ}
use native.Mathlib.Omega.{arith}
use lib.ListN.{get_or-eq_default, get_or, length, length-map}
use Rattle.record.specs.Entries.{no_entry}
use Rattle.record.specs.declared.Job.{Job}

-- a struct's array of structs has its length: `search length_mapped` finds the premise in a parameter's `.good`
pub length_mapped : {X Y : Type 0} (f : X → Y) (l : List X) (n : ℕ) → length (map f l) ≡ n → length l ≡ n
length_mapped f l n h = sym (length-map l f) ∙ h

-- past the eighth entry there is none
pub entry_past : (j : Job) (i : ℕ) → length j.entries ≡ 8 → 8 ≤ i → no_entry ≡ get_or j.entries i no_entry
entry_past j i n h = sym (get_or-eq_default j.entries no_entry {n = i} (omega arith))
