-- A client's counted requests at a vault, as they are seen from outside, the newest first, and what the quota says of such a list.
use Rattle.std.specs.Prelude.{Bool, cond, false, true, List, [], ◌++◌, ◌∷◌, ◌≡◌, ℕ, ◌+◌, leb, length, take}
use Rattle.base.specs.Lists.{In}

-- a counted request: whether it brought a new signature, and whether it was turned back with 23
pub record Ask : Type 0 where
  pub fresh : Bool
  pub over : Bool

-- how many brought a new signature
abbrev pub news : List Ask → ℕ
news [] = 0
news (a ∷ l) = cond a.fresh 1 0 + news l

-- "if four of the desk's previous fifteen requests there brought a new signature"
abbrev pub spends : List Ask → Bool
spends l = leb 4 (news (take 15 l))

-- consecutive requests among those of a list
pub record Stretch (s l : List Ask) : Type 0 where
  pub newer : List Ask
  pub older : List Ask
  pub whole : l ≡ newer ++ (s ++ older)

-- each of them turned back with 23
abbrev pub AllOver : List Ask → Type 0
AllOver s = (a : Ask) → In a s → a.over ≡ true

-- none of them brought a new signature: refusals by any check, and repeats of jobs that were signed already
abbrev pub NoNews : List Ask → Type 0
NoNews s = (a : Ask) → In a s → a.fresh ≡ false

-- after twelve in a row that brought none, whatever they were answered, the next is within the quota
abbrev pub Recovers : Type 0
Recovers = (s older : List Ask) → NoNews s → length s ≡ 12 → spends (s ++ older) ≡ false
