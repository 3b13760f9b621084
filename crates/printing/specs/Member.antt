-- An item as it is written, and one vault of a set.
use Rattle.std.specs.Prelude.{Bool, cond, List, [], ◌++◌, ◌+◌, ◌≤◌, ℕ}
use Rattle.rows.specs.Items.{form_of, text_as}
use Rattle.rows.specs.Table.{letters}
use Rattle.rows.specs.Writing.{longest_as}
use Rattle.digits.specs.Digits.{Put, decimal}

unfoldable pub member : Bool → ℕ → List ℕ
member first i = cond first [] (letters ",") ++ decimal i

-- what a buffer must have where an item is written, more than any item takes
abbrev pub item_room : ℕ
item_room = 200

-- the item is written, and takes no more than its form allows
pub record Shown (i v : ℕ) (before : List ℕ) (at : ℕ) (after : List ℕ) (r : ℕ) : Type 0 where
  pub put : Put before at (text_as (form_of i) i v) after r
  pub few : r ≤ at + longest_as (form_of i)
