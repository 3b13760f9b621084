-- A row at the front of a buffer.
use Rattle.std.specs.Prelude.{List, ◌≡◌, ◌≤◌, ℕ, take}
use Rattle.words.specs.Room.{longest_row}

pub record Stands (row buffer : List ℕ) (n : ℕ) : Type 0 where
  pub row_is : take n buffer ≡ row
  pub few : n ≤ longest_row
